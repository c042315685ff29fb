-- Rooms of one size.
use Rattle.std.specs.Prelude.{◌≡◌, ℕ, List, Some, slice_get}
use Rattle.bar_bytes.specs.Code.Room.{RoomFor}

-- Each room has this size.
pub record AreSized (size : ℕ) (rooms : List RoomFor) : Type 0 where
  pub each : (number : ℕ) (room : RoomFor) → slice_get rooms number ≡ Some room → room.size ≡ size

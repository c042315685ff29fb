-- The bytes that numbered rooms keep.
use Rattle.std.specs.Prelude.{ℕ, List, Option, option_and_then, slice_get}
use Rattle.bar_bytes.specs.declared.rooms.Rooms.{Rooms}

-- the bytes that are kept in the room with a number
abbrev pub kept_in : Rooms → ℕ → Option (List ℕ)
kept_in r number = option_and_then (λ room. room.kept) (slice_get r.rooms.items number)

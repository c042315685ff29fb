-- A room for bytes.
use Rattle.std.specs.Prelude.{ℕ, Bool, List, Option, Some, None, if◌then◌else◌}

-- the most bytes that it holds, and those that it keeps, if any
pub record RoomFor : Type 0 where
  pub size : ℕ
  pub kept : Option (List ℕ)

abbrev pub if_kept : Bool → List ℕ → Option (List ℕ)
if_kept is_kept bytes = if is_kept then Some bytes else None

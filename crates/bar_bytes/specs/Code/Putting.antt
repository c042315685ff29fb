-- The effect of writing bytes at an offset.
use Rattle.std.specs.Prelude.{◌≡◌, ℕ, ◌+◌, List, ◌++◌, length, take, drop}

-- Up to the end, the result is the old bytes before the offset and then the bytes written. From the end on, nothing changes.
pub record Appends (old : List ℕ) (at : ℕ) (bytes new : List ℕ) (end : ℕ) : Type 0 where
  pub front : take end new ≡ take at old ++ bytes
  pub back : drop end new ≡ drop end old
  pub end_is : end ≡ at + length bytes
  pub long : length new ≡ length old

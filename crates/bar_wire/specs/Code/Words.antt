-- Words of 64 bits as they are read.
use Rattle.std.specs.Prelude.{◌≡◌, ℕ, ◌<◌, ◌≤◌, ◌^◌, List, length, take, slice_index}
use Rattle.std.specs.List.{AllByRecursion}

-- an array of `count` words, and zeros after them
pub record AreWords (count : ℕ) (words : List ℕ) : Type 0 where
  pub long : length words ≡ 32
  pub fit : AllByRecursion (λ w. w < 2 ^ 64) (take count words)
  pub past : (j : ℕ) → count ≤ j → slice_index words j ≡ 0

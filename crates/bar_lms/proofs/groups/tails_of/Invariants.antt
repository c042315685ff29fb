use Rattle.std.proofs.Common.{◌≡◌, ℕ, ◌++◌, ◌∷◌, ◌<◌, [], length, slice_index, slice_index_or}
use Rattle.std.specs.Int.{w16, to_be_bytes}
use Rattle.bar_lms.proofs.groups.tails_of.Given as goal

abbrev pub invariant-fill : goal.invariant-fill
invariant-fill l = record {
  long : length l.places ≡ 8;
  places : (j : ℕ) → j < l.j → slice_index_or l.places j [] ≡ to_be_bytes w16 (slice_index l.numbers j) ++ slice_index l.from j ∷ [];
  bytes : (j : ℕ) → j < l.j → slice_index l.from j < 256;
}

use Rattle.std.proofs.Common.{◌≡◌, ℕ, ◌<◌, [], length, slice_index, slice_index_or}
use Rattle.bar_lms.proofs.legs.eight_hashes.Given as goal

abbrev pub invariant-fill : goal.invariant-fill
invariant-fill l = record {
  long : length l.hashes ≡ 8;
  filled : (j : ℕ) → j < l.j → slice_index_or l.hashes j [] ≡ slice_index_or l.all (slice_index l.numbers j) [];
}

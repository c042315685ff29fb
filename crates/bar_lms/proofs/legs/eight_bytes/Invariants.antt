use Rattle.std.proofs.Common.{◌≡◌, ℕ, ◌<◌, length, slice_index}
use Rattle.bar_lms.proofs.legs.eight_bytes.Given as goal

abbrev pub invariant-fill : goal.invariant-fill
invariant-fill l = record {
  long : length l.bytes ≡ 8;
  filled : (j : ℕ) → j < l.j → slice_index l.bytes j ≡ slice_index l.all (slice_index l.numbers j);
}

use Rattle.std.proofs.Common.{◌≡◌, ℕ, ◌+◌, ◌<◌, length, slice_index}
use Rattle.bar_lms.proofs.groups.lane_steps.Given as goal

abbrev pub invariant-fill : goal.invariant-fill
invariant-fill l = record {
  long : length l.steps ≡ 8;
  filled : (j : ℕ) → j < l.j → slice_index l.steps j ≡ slice_index l.first j + slice_index l.second j;
}

use Rattle.std.proofs.Common.{◌≡◌, ℕ, ◌+◌, ◌<◌, length, slice_index}
use Rattle.bar_lms.proofs.tree.leaves_from.Given as goal

abbrev pub invariant-fill : goal.invariant-fill
invariant-fill l = (length l.leaves ≡ 8) × ((j : ℕ) → j < l.j → slice_index l.leaves j ≡ l.q + j)

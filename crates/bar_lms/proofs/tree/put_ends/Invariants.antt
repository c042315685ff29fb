use Rattle.std.proofs.Common.{◌≡◌, ℕ, ◌+◌, ◌*◌, ◌<◌, [], length, slice_index_or}
use Rattle.bar_lms.proofs.tree.put_ends.Given as goal

abbrev pub invariant-values : goal.invariant-values
invariant-values l = record {
  long : length l.ends ≡ 2120;
  kept : (k : ℕ) → k < 8 * l.fn.i → slice_index_or l.ends k [] ≡ slice_index_or l.initial.ends k [];
  put : (j : ℕ) → j < l.j → slice_index_or l.ends (8 * l.fn.i + j) [] ≡ slice_index_or l.values j [];
}

use Rattle.std.proofs.Common.{◌≡◌, ℕ, ◌+◌, ◌*◌, ◌<◌, [], slice_index_or}
use Rattle.bar_lms.specs.Params.{last}
use Rattle.bar_lms.specs.Tree.{whole_value}
use Rattle.bar_lms.proofs.tree.ends_of_eight.Given as goal

abbrev pub invariant-chains : goal.invariant-chains
invariant-chains g l = record {
  held : (i j : ℕ) → i < l.i → j < 8 → slice_index_or l.ends (8 * i + j) [] ≡ whole_value l.key (l.q + j) i;
  cost : l.steps ≡ l.initial.steps + 8 * l.i * (1 + last l.key.params.ots);
}

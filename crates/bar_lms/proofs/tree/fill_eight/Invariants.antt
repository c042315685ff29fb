use Rattle.std.proofs.Common.{◌≡◌, ℕ, ◌+◌, ◌*◌, [], slice_index_or}
use Rattle.bar_lms.specs.Tree.{HoldsFirst, leaf_key_steps}
use Rattle.bar_lms.proofs.tree.fill_eight.Given as goal

abbrev pub invariant-leaves : goal.invariant-leaves
invariant-leaves g l = record {
  held : HoldsFirst l.key (l.q + l.j) l.nodes;
  first : slice_index_or l.nodes 0 [] ≡ slice_index_or l.initial.nodes 0 [];
  cost : l.steps ≡ l.initial.steps + 2 * l.j;
}

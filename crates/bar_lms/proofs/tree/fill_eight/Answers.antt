use Rattle.std.proofs.Common.{◌≡◌, ◌+◌, arith}
use Rattle.bar_lms.specs.Tree.{leaf_key, whole_value}
use Rattle.bar_lms.proofs.TreeFill.{first_kept, leaf_more}
use Rattle.bar_lms.proofs.tree.fill_eight.Goals as goal

pub leaves-preserved : goal.leaves-preserved
unfolding leaf_key
leaves-preserved g c =
    let leaf = c.args.q + c.leaves.j in
    let key =
    rw c.chains-chains.ensures at (c.leaf_key-one_time_key.ensures.value (whole_value c.args.key.now leaf)
    (λ i less. c.ends_of_eight-ends.ensures.value i c.leaves.j (omega (arith, less)) (omega arith)))
    in
    let more : c.args.q + (c.leaves.j + 1) ≡ leaf + 1 = omega arith in
    record {
      held = λ k below.
          leaf_more c.args.key.now c.leaves.nodes c.leaves-leaves.result leaf c.leaf_key-one_time_key.result c.leaf_node-node.result
          c.leaves-leaves.ensures.value (omega arith) c.leaves.invariant.held key c.leaf_node-node.ensures.value k (omega (arith, below));
      first = first_kept c.leaves.nodes c.args.nodes.now (c.leaves-leaves.result + leaf) c.leaf_node-node.result (omega arith) c.leaves.invariant.first;
      cost = omega arith;
    }

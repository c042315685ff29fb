use Rattle.std.proofs.Common.{◌≡◌, slice_index, arith}
use Rattle.bar_lms.specs.Params.{chains, last}
use Rattle.bar_lms.specs.Chains.{steps_left}
use Rattle.bar_lms.specs.Code.Order.{reached, longest_by_eights}
use Rattle.bar_lms.specs.Signature.{end_at}
use Rattle.bar_lms.proofs.OrderLemmas.{longest_same}
use Rattle.bar_lms.proofs.acceptance.put_ends.Goals as goal

pub returns-clause-value : goal.returns-clause-value
unfolding end_at reached
returns-clause-value g c = λ i below.
    rw (c.starts.invariant.from i below, c.starts.invariant.counts i (omega arith), c.starts.invariant.starts i (omega arith))
    at (c.all_chains.ensures.value i (omega arith))

pub returns-clause-cost : goal.returns-clause-cost
returns-clause-cost g c =
    let counts = slice_index c.starts.legs.counts in
    let left = steps_left c.args.ots c.args.hash.now in
    let same : longest_by_eights counts (chains c.args.ots) (last c.args.ots) ≡ longest_by_eights left (chains c.args.ots) (last c.args.ots) =
    longest_same counts left (chains c.args.ots) (last c.args.ots) (λ i below. c.starts.invariant.counts i (omega arith))
    in
    rw (c.chains.ensures, c.last-last.ensures, same) at c.all_chains.ensures.cost

use Rattle.std.proofs.Common.{◌≡◌, slice_index, arith}
use Rattle.std.proofs.lemmas.List.{get_or-replicate}
use Rattle.bar_lms.specs.Chains.{by_eights}
use Rattle.bar_lms.specs.Code.Lanes.{AreHeadsOf}
use Rattle.bar_lms.specs.Code.Order.{steps_at, longest_by_eights}
use Rattle.bar_lms.proofs.OrderLemmas.{longest_in}
use Rattle.bar_lms.proofs.all_chains.all_chains.Goals as goal

pub take_singles-requires-clause-groups : goal.take_singles-requires-clause-groups
take_singles-requires-clause-groups g c =
    let ident = c.args.ident.now in
    let q = c.args.q in
    let heads : AreHeadsOf ident q c.heads_of-heads.result =
    (omega arith, λ j below. rw (get_or-replicate 8 j q 0 below) at (c.heads_of-heads.ensures j below))
    in
    c.take_group.ensures.value ident q heads (λ j below. c.take_pairs.ensures.value ident q j heads below)

pub returns-clause-value : goal.returns-clause-value
returns-clause-value g c = λ i below.
    let among = c.longest_first-order.ensures.all i below in
    rw among.is at (c.take_singles.ensures.value among.at among.below)

pub returns-clause-cost : goal.returns-clause-cost
unfolding by_eights
returns-clause-cost g c =
    let counts = slice_index c.args.legs.now.counts in
    let taken = steps_at c.args.legs.now.counts c.longest_first-order.result in
    let all : by_eights taken c.args.n ≡ longest_by_eights counts c.args.n c.args.top =
    longest_in counts taken c.args.n c.args.top c.longest_first-order.ensures.order
    in
    omega (arith, all, c.take_pairs.ensures.cost, c.take_group.ensures.cost, c.take_singles.ensures.cost)

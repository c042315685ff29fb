use Rattle.std.proofs.Common.{◌≡◌, ◌+◌, ◌-◌, ◌*◌, ◌/◌, ◌%◌, ◌==◌, ◌<◌, true, false, [], slice_index, arith, ap, inl, inr}
use Rattle.std.proofs.lemmas.Bool.{cases_lt, eq-eqb, ne_eqb}
use Rattle.bar_lms.specs.Chains.{most_of, in_group}
use Rattle.bar_lms.specs.Code.Lanes.{Leg}
use Rattle.bar_lms.specs.Code.Order.{steps_at, reached}
use Rattle.bar_lms.proofs.GroupLemmas.{most_same}
use Rattle.bar_lms.proofs.LaneLemmas.{reached_by}
use Rattle.bar_lms.proofs.all_chains.take_group.Goals as goal

pub eight_chains-values-requires : goal.eight_chains-values-requires
eight_chains-values-requires g c = λ j below.
    let first = 16 * (c.args.n / 16) in
    let i = slice_index c.eight_from.result j in
    let same = c.eight_legs-eight.ensures.legs [] 0 j below in
    let inside = c.requires.inside (first + j) (omega (arith, below, c.if-n-eq1.true)) in
    let few : i < c.args.n = omega (arith, inside, c.eight_from.ensures j below) in
    omega (arith, ap (λ (leg : Leg). leg.from) same, ap (λ (leg : Leg). leg.count) same, c.requires.bytes i few)

pub returns-then-n-eq1-clause-value : goal.returns-then-n-eq1-clause-value
returns-then-n-eq1-clause-value g c = λ ident q heads pairs.
    let first = 16 * (c.args.n / 16) in
    let order = slice_index c.args.order.now in
    let f = reached ident q c.args.legs.now in
    let values =
    reached_by ident q c.args.legs.now c.eight_legs-eight.result c.eight_from.result c.eight_chains-values.result
    c.eight_legs-eight.ensures.numbers (c.eight_legs-eight.ensures.legs ident q) (λ j. c.eight_chains-values.ensures.value ident q j heads)
    in
    let kept = c.keep_eight.ensures f values in
    λ j below.
    elim (cases_lt j first) [
      | inl old ↦ kept.0 (order j) (pairs j old)
      | inr past ↦
          let few : j - first < 8 = omega (arith, below, past) in
          let place : first + (j - first) ≡ j = omega (arith, past) in
          rw (c.eight_legs-eight.ensures.numbers, c.eight_from.ensures (j - first) few, place) at (kept.1 (j - first) few)
    ]

pub returns-then-n-eq1-clause-cost : goal.returns-then-n-eq1-clause-cost
unfolding in_group
returns-then-n-eq1-clause-cost g c =
    let first = 16 * (c.args.n / 16) in
    let counts = slice_index c.eight_legs-eight.result.counts in
    let taken = steps_at c.args.legs.now.counts c.args.order.now in
    let test : (c.args.n / 8 % 2 == 1) ≡ true = eq-eqb (c.args.n / 8 % 2) 1 c.if-n-eq1.true in
    let longest : most_of counts 0 8 ≡ most_of taken first 8 =
    most_same counts taken 0 first 8
    (λ j below.
    let at : 0 + j ≡ j = omega arith in
    let same = ap (λ (leg : Leg). leg.count) (c.eight_legs-eight.ensures.legs [] 0 j below) in
    rw at (rw (c.eight_from.ensures j below) at same))
    in
    rw test (omega (arith, longest, c.eight_chains-values.ensures.cost))

pub returns-else-n-eq1-clause-cost : goal.returns-else-n-eq1-clause-cost
unfolding in_group
returns-else-n-eq1-clause-cost g c =
    let test : (c.args.n / 8 % 2 == 1) ≡ false = ne_eqb (c.args.n / 8 % 2) 1 c.if-n-eq1.false in
    rw test (omega arith)

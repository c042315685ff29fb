use Rattle.std.proofs.Common.{◌≡◌, ℕ, ◌+◌, [], ap, slice_index, arith}
use Rattle.bar_lms.specs.Chains.{most_of}
use Rattle.bar_lms.specs.Code.Lanes.{Leg, lane_steps}
use Rattle.bar_lms.specs.Code.Order.{steps_at, reached}
use Rattle.bar_lms.proofs.GroupLemmas.{most_same}
use Rattle.bar_lms.proofs.LaneLemmas.{reached_by}
use Rattle.bar_lms.proofs.all_chains.take_sixteen.Goals as goal

pub sixteen_chains-values-requires-clause-first : goal.sixteen_chains-values-requires-clause-first
sixteen_chains-values-requires-clause-first g c = λ j below.
    let same = c.eight_legs-first.ensures.legs [] 0 j below in
    omega (arith, ap (λ (leg : Leg). leg.from) same, ap (λ (leg : Leg). leg.count) same, c.requires.first j below)

pub sixteen_chains-values-requires-clause-second : goal.sixteen_chains-values-requires-clause-second
sixteen_chains-values-requires-clause-second g c = λ j below.
    let same = c.eight_legs-second.ensures.legs [] 0 j below in
    omega (arith, ap (λ (leg : Leg). leg.from) same, ap (λ (leg : Leg). leg.count) same, c.requires.second j below)

pub returns-clause-kept : goal.returns-clause-kept
returns-clause-kept g c = λ ident q i heads held.
    let f = reached ident q c.args.legs.now in
    let first =
    reached_by ident q c.args.legs.now c.eight_legs-first.result c.args.first c.sixteen_chains-values.new.ends
    c.eight_legs-first.ensures.numbers (c.eight_legs-first.ensures.legs ident q) (λ j. c.sixteen_chains-values.ensures.first ident q j heads)
    in
    let second =
    reached_by ident q c.args.legs.now c.eight_legs-second.result c.args.second c.sixteen_chains-values.result
    c.eight_legs-second.ensures.numbers (c.eight_legs-second.ensures.legs ident q) (λ j. c.sixteen_chains-values.ensures.second ident q j heads)
    in
    (c.keep_eight-2.ensures f second).0 i ((c.keep_eight.ensures f first).0 i held)

pub returns-clause-first : goal.returns-clause-first
returns-clause-first g c = λ ident q j heads below.
    let f = reached ident q c.args.legs.now in
    let first =
    reached_by ident q c.args.legs.now c.eight_legs-first.result c.args.first c.sixteen_chains-values.new.ends
    c.eight_legs-first.ensures.numbers (c.eight_legs-first.ensures.legs ident q) (λ j. c.sixteen_chains-values.ensures.first ident q j heads)
    in
    let second =
    reached_by ident q c.args.legs.now c.eight_legs-second.result c.args.second c.sixteen_chains-values.result
    c.eight_legs-second.ensures.numbers (c.eight_legs-second.ensures.legs ident q) (λ j. c.sixteen_chains-values.ensures.second ident q j heads)
    in
    (c.keep_eight-2.ensures f second).0 (slice_index c.args.first j)
    (rw c.eight_legs-first.ensures.numbers at ((c.keep_eight.ensures f first).1 j below))

pub returns-clause-second : goal.returns-clause-second
returns-clause-second g c = λ ident q j heads below.
    let f = reached ident q c.args.legs.now in
    let second =
    reached_by ident q c.args.legs.now c.eight_legs-second.result c.args.second c.sixteen_chains-values.result
    c.eight_legs-second.ensures.numbers (c.eight_legs-second.ensures.legs ident q) (λ j. c.sixteen_chains-values.ensures.second ident q j heads)
    in
    rw c.eight_legs-second.ensures.numbers at ((c.keep_eight-2.ensures f second).1 j below)

pub returns-clause-cost : goal.returns-clause-cost
returns-clause-cost g c =
    let counts = c.args.legs.now.counts in
    let lanes = lane_steps c.eight_legs-first.result c.eight_legs-second.result in
    let taken : ℕ → ℕ = λ j. steps_at counts c.args.first j + steps_at counts c.args.second j in
    let longest : most_of lanes 0 8 ≡ most_of taken 0 8 =
    most_same lanes taken 0 0 8
    (λ j below.
    let at : 0 + j ≡ j = omega arith in
    let first = ap (λ (leg : Leg). leg.count) (c.eight_legs-first.ensures.legs [] 0 j below) in
    let second = ap (λ (leg : Leg). leg.count) (c.eight_legs-second.ensures.legs [] 0 j below) in
    rw at (omega (arith, first, second)))
    in
    omega (arith, longest, c.sixteen_chains-values.ensures.cost)

use Rattle.std.proofs.Common.{◌≡◌, ℕ, ◌+◌, ◌-◌, ◌*◌, ◌<◌, slice_index, refl, arith, inl, inr}
use Rattle.std.proofs.lemmas.Bool.{cases_lt}
use Rattle.bar_lms.specs.Chains.{most_of, pair_at, in_pairs}
use Rattle.bar_lms.specs.Code.Order.{steps_at}
use Rattle.bar_lms.proofs.GroupLemmas.{pairs_more, most_same}
use Rattle.bar_lms.proofs.all_chains.take_pairs.Goals as goal

pub groups-init : goal.groups-init
unfolding in_pairs
groups-init g c = record { value = λ ident q j heads below. absurd (omega (arith, below)); cost = omega arith }

pub groups-preserved : goal.groups-preserved
groups-preserved g c =
    let n = 16 * c.groups.g in
    let order = slice_index c.args.order.now in
    record {
      value = λ ident q j heads below.
          elim (cases_lt j n) [
            | inl old ↦ c.take_sixteen.ensures.kept ident q (order j) heads (c.groups.invariant.value ident q j heads old)
            | inr past ↦
                elim (cases_lt j (n + 8)) [
                  | inl less ↦
                      let few : j - n < 8 = omega (arith, less, past) in
                      let place : n + (j - n) ≡ j = omega (arith, past) in
                      rw (c.eight_from-first.ensures (j - n) few, place) at (c.take_sixteen.ensures.first ident q (j - n) heads few)
                  | inr more ↦
                      let few : n + 15 - j < 8 = omega (arith, more) in
                      let place : n + 15 - (n + 15 - j) ≡ j = omega (arith, more, below) in
                      rw (c.eight_back_from-second.ensures (n + 15 - j) few, place) at (c.take_sixteen.ensures.second ident q (n + 15 - j) heads few)
                ]
          ];
      cost =
          let counts = c.args.legs.now.counts in
          let all = steps_at counts c.args.order.now in
          let lanes : ℕ → ℕ = λ j. steps_at counts c.eight_from-first.result j + steps_at counts c.eight_back_from-second.result j in
          let longest : most_of lanes 0 8 ≡ most_of (pair_at all n) 0 8 =
          most_same lanes (pair_at all n) 0 0 8
          (λ j below.
          let at : 0 + j ≡ j = omega arith in
          rw (at, c.eight_from-first.ensures j below, c.eight_back_from-second.ensures j below) refl)
          in
          omega (arith, longest, c.take_sixteen.ensures.cost, pairs_more all c.groups.g);
    }

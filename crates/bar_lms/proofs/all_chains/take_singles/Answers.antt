use Rattle.std.proofs.Common.{◌≡◌, ◌+◌, ◌-◌, ◌*◌, ◌/◌, ◌≤◌, ◌<◌, length, slice_index, arith, ◌∙◌, inl, inr}
use Rattle.std.proofs.lemmas.Bool.{cases_eq}
use Rattle.std.proofs.lemmas.List.{length-set}
use Rattle.bar_lms.specs.Chains.{total_from}
use Rattle.bar_lms.specs.Code.Order.{steps_at, reached}
use Rattle.bar_lms.proofs.GroupLemmas.{from_more}
use Rattle.bar_lms.proofs.OrderLemmas.{set_right, set_there}
use Rattle.bar_lms.proofs.all_chains.take_singles.Goals as goal

pub singles-init : goal.singles-init
unfolding total_from
singles-init g c =
    let none : 8 * (c.args.n / 8) - 8 * (c.args.n / 8) ≡ 0 = omega arith in
    record { long = c.told-row; value = c.requires.groups; cost = rw none (omega arith) }

pub singles-preserved : goal.singles-preserved
unfolding reached
singles-preserved g c =
    let order = slice_index c.args.order.now in
    let i = order c.singles.j in
    let row = c.singles.row in
    let f = reached c.args.ident.now c.args.q c.args.legs.now in
    let first = 8 * (c.args.n / 8) in
    let begun : first ≤ c.singles.j = omega arith in
    let inside = c.requires.inside c.singles.j (omega arith) in
    let room : i < length row = omega (arith, inside, c.requires.few, c.singles.invariant.long) in
    let from = slice_index c.args.legs.now.from i in
    let count : from + slice_index c.args.legs.now.counts i - from ≡ slice_index c.args.legs.now.counts i = omega arith in
    let right : c.chain.result ≡ f i = rw count at c.chain.ensures.value in
    record {
      long = length-set row i c.chain.result ∙ c.singles.invariant.long;
      value = λ k below.
          elim (cases_eq k c.singles.j) [
            | inl same ↦ rw same (set_there row i c.chain.result f room right)
            | inr other ↦ set_right row i c.chain.result f (order k) room right (c.singles.invariant.value k (omega (arith, below, other)))
          ];
      cost =
          let taken = steps_at c.args.legs.now.counts c.args.order.now in
          let done = c.singles.j - first in
          let next : c.singles.j + 1 - first ≡ done + 1 = omega (arith, begun) in
          let place : first + done ≡ c.singles.j = omega (arith, begun) in
          let more : total_from taken first (done + 1) ≡ total_from taken first done + taken c.singles.j = rw place at (from_more taken first done) in
          rw next (omega (arith, c.singles.invariant.cost, c.chain.ensures.cost, count, more));
    }

use Rattle.std.proofs.Common.{◌≡◌, ℕ, ◌+◌, ◌-◌, ◌*◌, ◌/◌, ◌<◌, [], length, slice_index, slice_index_or}
use Rattle.bar_lms.specs.Chains.{total_from}
use Rattle.bar_lms.specs.Code.Order.{reached, steps_at}
use Rattle.bar_lms.proofs.all_chains.take_singles.Given as goal

abbrev pub invariant-singles : goal.invariant-singles
invariant-singles g l = record {
  long : length l.row ≡ 265;
  value :
      (k : ℕ) → k < l.j
      → slice_index_or l.row (slice_index l.order k) [] ≡ reached l.ident l.q l.legs (slice_index l.order k);
  cost : l.steps ≡ l.initial.steps + total_from (steps_at l.legs.counts l.order) (8 * (l.n / 8)) (l.j - 8 * (l.n / 8));
}

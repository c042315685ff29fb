use Rattle.std.proofs.Common.{◌≡◌, ℕ, ◌+◌, ◌*◌, ◌<◌, List, [], slice_index, slice_index_or}
use Rattle.bar_lms.specs.Chains.{in_pairs}
use Rattle.bar_lms.specs.Code.Lanes.{AreHeadsOf}
use Rattle.bar_lms.specs.Code.Order.{reached, steps_at}
use Rattle.bar_lms.proofs.all_chains.take_pairs.Given as goal

abbrev pub invariant-groups : goal.invariant-groups
invariant-groups g l = record {
  value :
      (ident : List ℕ) (q j : ℕ) → AreHeadsOf ident q l.heads → j < 16 * l.g
      → slice_index_or l.row (slice_index l.order j) [] ≡ reached ident q l.legs (slice_index l.order j);
  cost : l.steps ≡ l.initial.steps + in_pairs (steps_at l.legs.counts l.order) l.g;
}

use Rattle.std.proofs.Common.{◌≡◌, ℕ, ◌+◌, ◌*◌, ◌<◌, ◌++◌, List, [], slice_index, slice_index_or}
use Rattle.std.specs.Int.{w32, to_be_bytes}
use Rattle.bar_lms.specs.Code.Lanes.{AreHeadsOf, leg_of, leg_end, lane_held}
use Rattle.bar_lms.proofs.groups.sixteen_chains.Given as goal

abbrev pub invariant-steps : goal.invariant-steps
invariant-steps g l = record {
  held :
      (ident : List ℕ) (q j : ℕ) → AreHeadsOf ident q l.heads → j < 8
      → (ident ++ to_be_bytes w32 q) ++ slice_index_or l.tails j [] ≡ lane_held (leg_of ident q l.first j) (leg_of ident q l.second j) l.n;
  ended :
      (ident : List ℕ) (q j : ℕ) → AreHeadsOf ident q l.heads → j < 8 → slice_index l.first.counts j < l.n
      → slice_index_or l.kept j [] ≡ leg_end (leg_of ident q l.first j);
  cost : l.steps ≡ l.initial.steps + 8 * l.n;
}

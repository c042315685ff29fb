use Rattle.std.proofs.Common.{◌≡◌, ℕ, ◌≤◌, ◌<◌, [], length, slice_index, slice_index_or}
use Rattle.bar_lms.specs.Params.{chains, last}
use Rattle.bar_lms.specs.Chains.{digit, steps_left}
use Rattle.bar_lms.specs.Signature.{hash_at}
use Rattle.bar_lms.proofs.acceptance.put_ends.Given as goal

abbrev pub invariant-starts : goal.invariant-starts
invariant-starts g l = record {
  starts_long : length l.legs.starts ≡ 265;
  counts_long : length l.legs.counts ≡ 265;
  from : (i : ℕ) → i < chains l.ots → slice_index l.legs.from i ≡ digit l.ots l.hash i;
  bound : (i : ℕ) → i < chains l.ots → slice_index l.legs.from i ≤ last l.ots;
  starts : (i : ℕ) → i < l.i → slice_index_or l.legs.starts i [] ≡ hash_at l.values i;
  counts : (i : ℕ) → i < l.i → slice_index l.legs.counts i ≡ steps_left l.ots l.hash i;
}

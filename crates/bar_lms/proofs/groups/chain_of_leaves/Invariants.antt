use Rattle.std.proofs.Common.{◌≡◌, ℕ, ◌+◌, ◌*◌, ◌<◌, ◌++◌, List, [], length, min, slice_index_or}
use Rattle.std.specs.Int.{w32, to_be_bytes}
use Rattle.bar_lms.specs.Chains.{chain_buffer, place}
use Rattle.bar_lms.proofs.groups.chain_of_leaves.Given as goal

abbrev pub invariant-steps : goal.invariant-steps
invariant-steps g l = record {
  held :
      (ident : List ℕ) (q j : ℕ) → j < 8 → length ident ≡ 16 → slice_index_or l.heads j [] ≡ ident ++ to_be_bytes w32 q
      → (ident ++ to_be_bytes w32 q) ++ slice_index_or l.tails j []
      ≡ chain_buffer (place ident q l.i) l.from (min l.n l.count) (slice_index_or l.starts j []);
  cost : l.steps ≡ l.initial.steps + 8 * l.n;
}

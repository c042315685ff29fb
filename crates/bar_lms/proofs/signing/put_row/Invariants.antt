use Rattle.std.proofs.Common.{◌≡◌, ℕ, ◌+◌, ◌*◌, ◌<◌, ◌++◌, List, [], take, drop, slice_index_or}
use Rattle.bar_lms.specs.Chains.{joined}
use Rattle.bar_lms.proofs.signing.put_row.Given as goal

abbrev pub invariant-hashes : goal.invariant-hashes
invariant-hashes l = record {
  written :
      (f : ℕ → List ℕ) → ((i : ℕ) → i < l.n → slice_index_or l.row i [] ≡ f i)
      → take (40 + 32 * l.i) l.out ≡ take 40 l.initial.out ++ joined f l.i;
  rest : drop (40 + 32 * l.n) l.out ≡ drop (40 + 32 * l.n) l.initial.out;
}

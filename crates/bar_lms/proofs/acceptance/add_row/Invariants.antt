use Rattle.std.proofs.Common.{◌≡◌, ℕ, ◌<◌, ◌++◌, List, [], slice_index_or}
use Rattle.sha2.specs.Hashers.{Holds256}
use Rattle.bar_lms.specs.Chains.{joined}
use Rattle.bar_lms.proofs.acceptance.add_row.Given as goal

abbrev pub invariant-hashes : goal.invariant-hashes
invariant-hashes l =
    (m : List ℕ) (f : ℕ → List ℕ) → Holds256 l.initial.hasher m → ((i : ℕ) → i < l.n → slice_index_or l.row i [] ≡ f i)
    → Holds256 l.hasher (m ++ joined f l.i)

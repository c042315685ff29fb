use Rattle.std.proofs.Common.{◌≡◌, ℕ, ◌<◌, List, [], length, slice_index, slice_index_or}
use Rattle.bar_lms.proofs.all_chains.keep_eight.Given as goal

abbrev pub invariant-hashes : goal.invariant-hashes
invariant-hashes l = record {
  long : length l.row ≡ 265;
  kept :
      (f : ℕ → List ℕ) → ((j : ℕ) → j < 8 → slice_index_or l.hashes j [] ≡ f (slice_index l.numbers j))
      → (i : ℕ) → slice_index_or l.initial.row i [] ≡ f i → slice_index_or l.row i [] ≡ f i;
  written :
      (f : ℕ → List ℕ) → ((j : ℕ) → j < 8 → slice_index_or l.hashes j [] ≡ f (slice_index l.numbers j))
      → (j : ℕ) → j < l.j → slice_index_or l.row (slice_index l.numbers j) [] ≡ f (slice_index l.numbers j);
}

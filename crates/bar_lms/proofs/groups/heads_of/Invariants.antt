use Rattle.std.proofs.Common.{◌≡◌, ℕ, ◌++◌, ◌<◌, [], length, slice_index, slice_index_or}
use Rattle.std.specs.Int.{w32, to_be_bytes}
use Rattle.bar_lms.proofs.groups.heads_of.Given as goal

abbrev pub invariant-fill : goal.invariant-fill
invariant-fill l = (length l.heads ≡ 8)
    × ((j : ℕ) → j < l.j → slice_index_or l.heads j [] ≡ l.ident ++ to_be_bytes w32 (slice_index l.leaves j))

use Rattle.std.proofs.Common.{◌≡◌, ℕ, ◌<◌, length, [], slice_index_or}
use Rattle.sha2.specs.Sha256.{digest_bytes}
use Rattle.bar_lanes.specs.Code.Lane.{hash_lane}
use Rattle.bar_lanes.proofs.digests.Digests.to_bytes.Given as goal

abbrev pub invariant-write : goal.invariant-write
invariant-write l = (length l.values ≡ 8)
    × ((j : ℕ) → j < l.j → slice_index_or l.values j [] ≡ digest_bytes (hash_lane j l.lanes) 8)

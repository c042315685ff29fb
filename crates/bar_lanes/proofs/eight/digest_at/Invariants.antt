use Rattle.std.proofs.Common.{◌≡◌, ◌*◌, length, take}
use Rattle.sha2.specs.Sha256.{digest_bytes}
use Rattle.bar_lanes.specs.Code.Lane.{hash_lane}
use Rattle.bar_lanes.proofs.eight.digest_at.Given as goal

abbrev pub invariant-words : goal.invariant-words
invariant-words l = (length l.digest ≡ 32) × (take (4 * l.i) l.digest ≡ digest_bytes (hash_lane l.j l.hash) l.i)

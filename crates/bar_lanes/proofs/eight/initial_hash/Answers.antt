use Rattle.std.proofs.Common.{◌≡◌, refl, map, replicate}
use Rattle.sha2.specs.Sha256.{initial_hash_256}
use Rattle.bar_lanes.specs.Code.Lane.{hash_lane}
use Rattle.bar_lanes.proofs.LaneLemmas.{below_eight}
use Rattle.bar_lanes.proofs.eight.initial_hash.Goals as goal

pub returns : goal.returns
returns c j below =
    below_eight (λ i. hash_lane i (map (replicate 8) initial_hash_256) ≡ initial_hash_256) refl refl refl refl refl refl refl refl j below

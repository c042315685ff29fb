-- The last accepted seed of each peer.
use Rattle.std.specs.Prelude.{◌≡◌, ◌≢◌, ℕ, ◌≤◌, List, length, Option, None, slice_index_or}
use Rattle.std.specs.Option.{option_map_or}
use Rattle.bar_seeds.specs.declared.checkpoints.KeptSeed.{KeptSeed}
use Rattle.bar_seeds.specs.declared.checkpoints.Checkpoints.{Checkpoints}

abbrev pub kept_seed : ℕ → List ℕ → KeptSeed
kept_seed round seed = record { round = round; seed = seed }

-- the parties below this number have a place
abbrev pub parties_in : Checkpoints → ℕ
parties_in c = length c.seeds.items

-- the kept seed of a peer
abbrev pub kept_of : Checkpoints → ℕ → Option KeptSeed
kept_of c peer = slice_index_or c.seeds.items peer None

-- the round of the kept seed of a peer, at first 0
abbrev pub kept_round : Checkpoints → ℕ → ℕ
kept_round c peer = option_map_or (λ k. k.round) (kept_of c peer) 0

-- the value of that round, at first the anchor
abbrev pub kept_value : Checkpoints → List ℕ → ℕ → List ℕ
kept_value c anchor peer = option_map_or (λ k. k.seed) (kept_of c peer) anchor

-- What is kept changes for one peer alone, and its round doesn't decrease.
pub record MovesOn (peer : ℕ) (old new : Checkpoints) : Type 0 where
  pub room : parties_in new ≡ parties_in old
  pub others : (p : ℕ) → p ≢ peer → kept_of new p ≡ kept_of old p
  pub on : kept_round old peer ≤ kept_round new peer

-- The checkpoints that are kept of the seeds of a session's peers.
use Rattle.std.specs.Prelude.{◌≡◌, ℕ, ◌+◌, ◌-◌, ◌≤◌, true, List, [], unwrap_or, slice_get}
use Rattle.bar_seeds.specs.Seeds.{is_seed}
use Rattle.bar_seeds.specs.declared.checkpoints.Checkpoints.{Checkpoints}
use Rattle.bar_seeds.specs.Code.Checkpoints.{kept_round, kept_value, parties_in}
use Rattle.bar_session.specs.SessionData.{SessionData}

-- the anchor of a peer
abbrev pub anchor_in : SessionData → ℕ → List ℕ
anchor_in s peer = unwrap_or (slice_get s.anchors (peer - 1)) []

-- There is room for each peer of the session, and the value kept for each peer is its seed of the round kept for it.
pub record AreSeeds (s : SessionData) (points : Checkpoints) : Type 0 where
  pub room : parties_in points ≡ s.shape.peers + 1
  pub seeds : (peer : ℕ) → 1 ≤ peer → peer ≤ s.shape.peers
      → is_seed s.shape.id (anchor_in s peer) peer (kept_round points peer) (kept_value points (anchor_in s peer) peer) ≡ true

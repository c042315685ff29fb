-- When a round begins.
use Rattle.std.specs.Prelude.{◌≡◌, ℕ, ◌+◌, ◌≤◌}
use Rattle.bar_session.specs.Time.{round_after, slot_after}
use Rattle.bar_rules.specs.Member.{Member}
use Rattle.bar_rules.specs.Peer.Log.{Log, ticks}

-- The next tick is at the first slot of a round of the session.
pub record IsRoundDue (me : Member) (log : Log) (round : ℕ) : Type 0 where
  pub high : round ≤ me.session.shape.rounds
  pub now : round_after (ticks log + 1) ≡ round
  pub slot : slot_after (ticks log + 1) ≡ 0

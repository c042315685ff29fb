-- Whom the broadcaster evicted, and on what evidence.
use Rattle.std.specs.Prelude.{◌≡◌, ℕ, None, option_map}
use Rattle.bar_bytes.specs.Code.Rooms.{kept_in}
use Rattle.bar_wire.specs.Evidence.{evidence_bytes}
use Rattle.bar_wire.specs.Grammar.{IsPeer}
use Rattle.bar_rules.specs.Member.{Session}
use Rattle.bar_rules.specs.Peer.Log.{Log, kept}
use Rattle.bar_rules.specs.Broadcaster.Sending.{evicted}
use Rattle.bar_caster.specs.declared.evictions.Evictions.{Evictions}

-- The evictions are those of a log: the evidence that the log keeps against each peer, and the evicted peers in order. A room whose number
-- isn't a peer's is empty.
pub record AreOfLog (s : Session) (e : Evictions) (log : Log) : Type 0 where
  pub peers : e.peers ≡ s.shape.peers
  pub evidence : (party : ℕ) → IsPeer s.shape party → kept_in e.evidence party ≡ option_map evidence_bytes (kept log party)
  pub others : (party : ℕ) → (¬ IsPeer s.shape party) → kept_in e.evidence party ≡ None
  pub list : e.list.items ≡ evicted s log

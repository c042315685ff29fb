use Rattle.std.proofs.Common.{◌≡◌, ◌+◌, ◌∙◌, ◌∷◌, sym, ap, subst}
use Rattle.std.specs.Prelude.{option_map}
use Rattle.bar_store.specs.Code.Holds.{Holds}
use Rattle.bar_ledger.specs.Code.Recalls.{Recalls}
use Rattle.bar_wire.specs.Evidence.{evidence_bytes}
use Rattle.bar_session.specs.Time.{round_after}
use Rattle.bar_rules.specs.Member.{Member}
use Rattle.bar_rules.specs.Values.{datagram_bytes}
use Rattle.bar_rules.specs.Peer.Knowledge.{Knowledge, known, this_round, with_tick}
use Rattle.bar_rules.specs.Peer.Log.{Ticked}
use Rattle.bar_peer.specs.Code.Memory.{member_of}
use Rattle.bar_peer.proofs.memory.Memory.tick.Goals as goal

pub returns-clause-learns : goal.returns-clause-learns
returns-clause-learns c = λ log h.
    let me : Member = member_of c.args.self.now.who in
    let k : Knowledge = known me log in
    let e : known me (Ticked ∷ log) ≡ with_tick me k = c.knowledge_is_enough.ensures.entry me log Ticked in
    let now : c.round_after-round.result ≡ this_round (with_tick me k) = c.round_after-round.ensures ∙ ap (λ n. round_after (n + 1)) (sym h.time) in
    record {
      time = (λ i. (e i).ticks) ∙ ap (λ n. n + 1) h.time;
      store = subst (λ (k : Knowledge). Holds me k c.forget.new.self) (sym e) (c.forget.ensures.keeps me k h.store now);
      ledger = subst (λ (k : Knowledge). Recalls me k c.forget-2.new.self) (sym e) (c.forget-2.ensures.keeps me k h.ledger now);
      manifests = λ round. (λ i. option_map (datagram_bytes me.session) ((e i).manifest round)) ∙ h.manifests round;
      evictions = λ round. (λ i. (e i).has_evict round) ∙ h.evictions round;
      announced = λ party. (λ i. (e i).is_announced party) ∙ h.announced party;
      evidence = λ party. (λ i. option_map evidence_bytes ((e i).evidence party)) ∙ h.evidence party;
    }

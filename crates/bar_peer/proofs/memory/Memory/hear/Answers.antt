use Rattle.std.proofs.Common.{◌≡◌, ◌∙◌, true, sym, ap, subst}
use Rattle.std.proofs.lemmas.Bool.{and_parts}
use Rattle.bar_wire.specs.Datagram.{Datagram, kind_of}
use Rattle.bar_wire.specs.Code.Views.{datagram, plain}
use Rattle.bar_rules.specs.Member.{Member}
use Rattle.bar_rules.specs.Peer.Knowledge.{Knowledge, known, with_heard}
use Rattle.bar_laws.specs.Soundness.{IsSound}
use Rattle.bar_ledger.specs.Code.Recalls.{Recalls}
use Rattle.bar_store.specs.Code.Holds.{Holds}
use Rattle.bar_exchange.specs.Code.Keeping.{IsAdmittedNow}
use Rattle.bar_peer.specs.declared.credentials.Credentials.{Credentials}
use Rattle.bar_peer.specs.Code.Hearing.{RecallsHeard}
use Rattle.bar_peer.specs.Code.Memory.{member_of}
use Rattle.bar_peer.specs.Code.Repeats.{is_of_exchange}
use Rattle.bar_peer.proofs.Hearing.Held.{heard_tells, admitted_now, leaves_room, same_blocks, exchange_holds, exchange_memory}
use Rattle.bar_peer.proofs.Hearing.Keys.{admitted_row}
use Rattle.bar_peer.proofs.Admitting.Rows.{of_others}
use Rattle.bar_peer.proofs.memory.Memory.hear.Goals as goal

pub returns-in-Manifest-clause-learns : goal.returns-in-Manifest-clause-learns
returns-in-Manifest-clause-learns c log obeys h =
    let me : Member = member_of c.args.self.now.who in
    let d : Datagram = datagram me.session.shape c.args.arrival.now.view in
    let now = admitted_now c.datagrams_fit_their_rooms.ensures.obedient me log d c.args.arrival.now.bytes.now c.requires.view.spelled obeys in
    heard_tells c.knowledge_is_enough.ensures.entry c.args.self.now c.hear_manifest.new.self log d c.hear_manifest.ensures.party.who
    (c.hear_manifest.ensures.learns (known me log) h now (ap (λ b. kind_of (plain b)) c.in-Manifest.is))

pub returns-in-Block-clause-learns : goal.returns-in-Block-clause-learns
returns-in-Block-clause-learns c log obeys h =
    let me : Member = member_of c.args.self.now.who in
    let d : Datagram = datagram me.session.shape c.args.arrival.now.view in
    let now = admitted_now c.datagrams_fit_their_rooms.ensures.obedient me log d c.args.arrival.now.bytes.now c.requires.view.spelled obeys in
    heard_tells c.knowledge_is_enough.ensures.entry c.args.self.now c.hear_block.new.self log d c.hear_block.ensures.party.who
    (c.hear_block.ensures.learns (known me log) h (c.logs_are_sound.ensures me log obeys.1) now (ap (λ b. kind_of (plain b)) c.in-Block.is))

pub returns-in-Evict-clause-learns : goal.returns-in-Evict-clause-learns
returns-in-Evict-clause-learns c log obeys h =
    let me : Member = member_of c.args.self.now.who in
    let d : Datagram = datagram me.session.shape c.args.arrival.now.view in
    heard_tells c.knowledge_is_enough.ensures.entry c.args.self.now c.hear_evict.new.self log d c.hear_evict.ensures.party.who
    (c.hear_evict.ensures.learns (known me log) h (ap (λ b. kind_of (plain b)) c.in-Evict.is))

pub returns-in-Key-clause-learns : goal.returns-in-Key-clause-learns
returns-in-Key-clause-learns c log obeys h =
    let old = c.args.self.now in
    let opened = c.open.new.self in
    let new = c.hear_of_exchange.new.self in
    let first = c.open.ensures.rest in
    let rest = c.hear_of_exchange.ensures.rest in
    let me : Member = member_of old.who in
    let v = c.args.arrival.now.view in
    let d : Datagram = datagram me.session.shape v in
    let k : Knowledge = known me log in
    let now : IsAdmittedNow me k d c.args.arrival.now.bytes.now =
    admitted_now c.datagrams_fit_their_rooms.ensures.obedient me log d c.args.arrival.now.bytes.now c.requires.view.spelled obeys
    in
    let sound : IsSound me k = c.logs_are_sound.ensures me log obeys.1 in
    let room = leaves_room c.exchanges_are_few.ensures.obedient_left c.logs_are_sound.ensures c.knowledge_is_enough.ensures.entry me log d c.requires.view.spelled.fits obeys in
    let of : is_of_exchange (plain v.body) ≡ true = ap (λ b. is_of_exchange (plain b)) c.in-Key.is in
    let store : Holds me (with_heard me d k) new.store =
    subst (Holds me (with_heard me d k)) (sym rest.store) (c.open.ensures.learns k h sound now (ap (λ b. kind_of (plain b)) c.in-Key.is))
    in
    let recalled : Recalls me k opened.ledger = subst (Recalls me k) (sym first.ledger) h.ledger in
    let ledger : Recalls me (with_heard me d k) new.ledger =
    subst (λ (w : Credentials). RecallsHeard w v c.args.arrival.now.bytes.now opened.ledger new.ledger) first.who c.hear_of_exchange.ensures.learns k recalled
    sound room now of
    in
    heard_tells c.knowledge_is_enough.ensures.entry old new log d (rest.who ∙ first.who)
    (exchange_memory me k d old new of h
    (record {
      ticks = rest.ticks ∙ first.ticks;
      manifests = rest.manifests ∙ first.manifests;
      evictions = rest.evictions ∙ first.evictions;
      evidence = rest.evidence ∙ first.evidence;
    }) store ledger)

pub returns-in_default : goal.returns-in_default
returns-in_default c = record {
  learns = λ log obeys h.
      let old = c.args.self.now in
      let new = c.hear_of_exchange-in_default.new.self in
      let rest = c.hear_of_exchange-in_default.ensures.rest in
      let n = c.in_default in
      let me : Member = member_of old.who in
      let v = c.args.arrival.now.view in
      let d : Datagram = datagram me.session.shape v in
      let k : Knowledge = known me log in
      let now : IsAdmittedNow me k d c.args.arrival.now.bytes.now =
      admitted_now c.datagrams_fit_their_rooms.ensures.obedient me log d c.args.arrival.now.bytes.now c.requires.view.spelled obeys
      in
      let sound : IsSound me k = c.logs_are_sound.ensures me log obeys.1 in
      let room = leaves_room c.exchanges_are_few.ensures.obedient_left c.logs_are_sound.ensures c.knowledge_is_enough.ensures.entry me log d c.requires.view.spelled.fits obeys in
      let of : is_of_exchange (plain v.body) ≡ true =
      (and_parts _ _ (of_others me k v.from v.to v.body n.not-Manifest n.not-Block n.not-Evict ∙ admitted_row me k d obeys.0.0)).0
      in
      let held : Holds me (with_heard me d k) old.store =
      exchange_holds me k d old.store of (same_blocks me d k v.body n.not-Block n.not-Key) h.store
      in
      let store : Holds me (with_heard me d k) new.store = subst (Holds me (with_heard me d k)) (sym rest.store) held in
      let ledger : Recalls me (with_heard me d k) new.ledger = c.hear_of_exchange-in_default.ensures.learns k h.ledger sound room now of in
      heard_tells c.knowledge_is_enough.ensures.entry old new log d rest.who
      (exchange_memory me k d old new of h
      (record { ticks = rest.ticks; manifests = rest.manifests; evictions = rest.evictions; evidence = rest.evidence }) store ledger);
  party = record {
    who = c.hear_of_exchange-in_default.ensures.rest.who;
    ticks = c.hear_of_exchange-in_default.ensures.rest.ticks;
  };
}

use Rattle.std.proofs.Common.{◌≡◌, ◌∙◌, ◌||◌, sym, ap, subst}
use Rattle.bar_wire.specs.Datagram.{Datagram, Body, Evict}
use Rattle.bar_wire.specs.Grammar.{InRange}
use Rattle.bar_wire.specs.Places.{pairs}
use Rattle.bar_wire.specs.Code.Views.{datagram, plain}
use Rattle.bar_rules.specs.Member.{Member}
use Rattle.bar_peer.specs.Code.Memory.{member_of}
use Rattle.bar_peer.proofs.Hearing.FromBroadcaster.{by_body, same_recalled, same_held, marked, round_marked}
use Rattle.bar_peer.proofs.memory.Memory.hear_evict.Goals as goal

pub returns-clause-learns : goal.returns-clause-learns
returns-clause-learns c k h is =
    let old = c.args.self.now in
    let me : Member = member_of old.who in
    let v = c.args.arrival.now.view in
    let d : Datagram = datagram me.session.shape v in
    let w = c.in-Evict in
    let shape = me.session.shape in
    let body : d.message.body ≡ Evict w.round (pairs w.parties.now) = ap plain w.is in
    let range = subst (λ (b : Body). InRange shape b) body c.requires.view.spelled.fits.range in
    by_body me k d (Evict w.round (pairs w.parties.now)) _ body (record {
      time = h.time;
      store = same_held me k old.store _ _ h.store;
      ledger = same_recalled me k old.ledger _ _ _ _ h.ledger;
      manifests = h.manifests;
      evictions = λ r.
          (λ i. h.evictions r i || sym (round_marked w.round r shape.rounds _ range.0.1 old.eviction_rounds) i)
          ∙ sym (c.add.ensures.rounds r);
      announced = λ p.
          (λ i. h.announced p i || sym (marked shape.peers _ 0 (pairs w.parties.now) p range.1.2 old.eviction_parties) i)
          ∙ sym (c.add.ensures.parties p);
      evidence = h.evidence;
    })

use Rattle.std.proofs.Common.{◌≡◌, ◌∙◌, List, ℕ, length, Some, sym, ap, subst, arith, if◌then◌else◌, ◌==◌}
use Rattle.std.specs.Simd.{first_chunks}
use Rattle.bar_wire.specs.Datagram.{Datagram, Body, Manifest}
use Rattle.bar_wire.specs.Grammar.{InRange}
use Rattle.bar_wire.specs.Code.Views.{datagram, plain, AreWhole}
use Rattle.bar_wire.specs.declared.view.Body.{Body as RawBody}
use Rattle.bar_rules.specs.Member.{Member}
use Rattle.bar_rules.specs.Values.{datagram_bytes}
use Rattle.bar_rules.specs.Peer.Knowledge.{learned}
use Rattle.bar_store.specs.Code.Held.{digest_list}
use Rattle.bar_store.specs.Code.Holds.{Holds}
use Rattle.bar_bytes.specs.Code.Rooms.{kept_in}
use Rattle.bar_peer.specs.Code.Memory.{member_of}
use Rattle.bar_wire.proofs.Steps.{length_chunks}
use Rattle.bar_peer.proofs.Hearing.FromBroadcaster.{by_body, same_recalled, manifest_new, kept_more, whole_count}
use Rattle.bar_peer.proofs.memory.Memory.hear_manifest.Goals as goal

pub add_manifest-requires-clause-few : goal.add_manifest-requires-clause-few
add_manifest-requires-clause-few c =
    let v = c.args.arrival.now.view in
    let w = c.in-Manifest in
    let shape = c.args.self.now.who.session.shape in
    let body : plain v.body ≡ Manifest w.round (first_chunks 32 w.count w.digests.now) = ap plain w.is in
    let range = subst (λ (b : Body). InRange shape b) body c.requires.view.spelled.fits.range in
    let whole = subst (λ (b : RawBody). AreWhole b) w.is c.requires.view.body.whole in
    omega (arith, whole_count w.count (length w.digests.now) whole, length_chunks 32 w.count w.digests.now, range.1, c.args.self.now.table_lists)

pub returns-then-add_manifest-clause-learns : goal.returns-then-add_manifest-clause-learns
returns-then-add_manifest-clause-learns c k h now is =
    let old = c.args.self.now in
    let me : Member = member_of old.who in
    let v = c.args.arrival.now.view in
    let d : Datagram = datagram me.session.shape v in
    let w = c.in-Manifest in
    let list : List (List ℕ) = digest_list w.digests.now in
    let whole = subst (λ (b : RawBody). AreWhole b) w.is c.requires.view.body.whole in
    let body : d.message.body ≡ Manifest w.round list =
    ap plain w.is ∙ (λ i. Manifest w.round (first_chunks 32 (sym (whole_count w.count (length w.digests.now) whole) i) w.digests.now))
    in
    let none = manifest_new me k d w.round list now.admitted body in
    let store : Holds me (learned me d k d.message.body) c.add_manifest.new.self = c.if-add_manifest.ensures.learns me k d h.store none body in
    by_body me k d (Manifest w.round list) _ body (record {
      time = h.time;
      store = subst (λ (b : Body). Holds me (learned me d k b) c.add_manifest.new.self) body store;
      ledger = same_recalled me k old.ledger _ _ _ _ h.ledger;
      manifests = λ r.
          kept_more (datagram_bytes me.session) k.manifest d w.round r _ none (h.manifests r)
          ∙ (λ i. if r == w.round then Some (sym now.bytes_are i) else kept_in old.manifests r)
          ∙ sym (c.keep.ensures.kept r);
      evictions = h.evictions;
      announced = h.announced;
      evidence = h.evidence;
    })

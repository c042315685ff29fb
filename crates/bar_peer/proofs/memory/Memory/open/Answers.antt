use Rattle.std.proofs.Common.{◌≡◌, ◌≤◌, ◌∙◌, [], Some, sym, ap, take}
use Rattle.std.specs.Prelude.{option_map}
use Rattle.std.specs.Option.{option_or}
use Rattle.bar_terms.specs.Table.{digests_of}
use Rattle.bar_wire.specs.Datagram.{Datagram, KeyGiven, Place, Key, place_of}
use Rattle.bar_wire.specs.Code.Views.{datagram, plain}
use Rattle.bar_session.specs.Time.{round_after}
use Rattle.bar_rules.specs.Member.{Member}
use Rattle.bar_rules.specs.Peer.Knowledge.{this_round}
use Rattle.bar_wire.specs.Code.Sides.{place_in}
use Rattle.bar_store.specs.Code.Held.{block_in}
use Rattle.bar_peer.specs.Code.Memory.{member_of}
use Rattle.bar_peer.specs.Code.Opening.{block_in_items}
use Rattle.bar_peer.proofs.Hearing.Keys.{IsTheirPlace, their_place, heard_given, unheard_given, table_near, key_learned, nothing_learned, no_place}
use Rattle.bar_peer.proofs.memory.Memory.open.Goals as goal

pub returns-in_default-place-clause-learns : goal.returns-in_default-place-clause-learns
returns-in_default-place-clause-learns c k h sound now is =
    let me : Member = member_of c.args.self.now.who in
    let d : Datagram = datagram me.session.shape c.args.arrival.now.view in
    let w = c.in-Key in
    let g : KeyGiven = record { round = w.round; kind = w.xkind; role = w.role; key = w.key.now } in
    absurd (no_place d g (ap plain w.is)
    (sym c.args.arrival.now.placed ∙ ap (option_map place_in) c.in_default-place.is))

pub returns-in_default-heard_view-clause-learns : goal.returns-in_default-heard_view-clause-learns
returns-in_default-heard_view-clause-learns c k h sound now is =
    let me : Member = member_of c.args.self.now.who in
    let d : Datagram = datagram me.session.shape c.args.arrival.now.view in
    let w = c.in-Key in
    let g : KeyGiven = record { round = w.round; kind = w.xkind; role = w.role; key = w.key.now } in
    let body : d.message.body ≡ Key g = ap plain w.is in
    let p : Place = place_in c.in-Some.place in
    let at : place_of d.message ≡ Some p = sym c.args.arrival.now.placed ∙ ap (option_map place_in) c.in-Some.is in
    let life : 2 ≤ me.session.shape.life = c.args.self.now.who.is_member.session.shape.life_low in
    let place : IsTheirPlace me k p = their_place me k d g p life c.requires.view.spelled.fits now.admitted body at in
    let none = c.in_default-heard_view.ensures.told k h (record { spelled = sound.spelled }) place.recent in
    nothing_learned me k d g p c.args.self.now.store [] h.store body at
    (unheard_given me k p (digests_of c.args.self.now.store.table.lists) g.key [] none)

pub returns-in_default-unseal-clause-learns : goal.returns-in_default-unseal-clause-learns
returns-in_default-unseal-clause-learns c k h sound now is =
    let me : Member = member_of c.args.self.now.who in
    let s = c.args.self.now.store in
    let d : Datagram = datagram me.session.shape c.args.arrival.now.view in
    let w = c.in-Key in
    let g : KeyGiven = record { round = w.round; kind = w.xkind; role = w.role; key = w.key.now } in
    let body : d.message.body ≡ Key g = ap plain w.is in
    let p : Place = place_in c.in-Some.place in
    let at : place_of d.message ≡ Some p = sym c.args.arrival.now.placed ∙ ap (option_map place_in) c.in-Some.is in
    let life : 2 ≤ me.session.shape.life = c.args.self.now.who.is_member.session.shape.life_low in
    let place : IsTheirPlace me k p = their_place me k d g p life c.requires.view.spelled.fits now.admitted body at in
    let heard = c.in-Some-heard_view.ensures.told k h (record { spelled = sound.spelled }) place.recent in
    nothing_learned me k d g p s c.unseal.new.out h.store body at
    (heard_given me k p (datagram me.session.shape c.in-Some-heard_view.case) (digests_of s.table.lists) g.key [] c.unseal.new.out sound place heard
    (table_near me k s sound h.store) c.in_default-unseal.ensures.given)

pub returns-clause-learns : goal.returns-clause-learns
returns-clause-learns c k h sound now is =
    let me : Member = member_of c.args.self.now.who in
    let s = c.args.self.now.store in
    let d : Datagram = datagram me.session.shape c.args.arrival.now.view in
    let w = c.in-Key in
    let g : KeyGiven = record { round = w.round; kind = w.xkind; role = w.role; key = w.key.now } in
    let body : d.message.body ≡ Key g = ap plain w.is in
    let p : Place = place_in c.in-Some.place in
    let at : place_of d.message ≡ Some p = sym c.args.arrival.now.placed ∙ ap (option_map place_in) c.in-Some.is in
    let life : 2 ≤ me.session.shape.life = c.args.self.now.who.is_member.session.shape.life_low in
    let place : IsTheirPlace me k p = their_place me k d g p life c.requires.view.spelled.fits now.admitted body at in
    let heard = c.in-Some-heard_view.ensures.told k h (record { spelled = sound.spelled }) place.recent in
    let promise = c.in-Some-unseal.promise in
    let items = take promise.len promise.items in
    let blocks = c.unseal.new.out in
    let given = heard_given me k p (datagram me.session.shape c.in-Some-heard_view.case) (digests_of s.table.lists) g.key items blocks sound place heard
    (table_near me k s sound h.store) c.in-Some-unseal.ensures.given
    in
    let round : c.round-now.result ≡ this_round k = c.round-now.ensures ∙ ap round_after (sym h.time) in
    key_learned me k d g p s c.hold_all.new.store h.store c.hold_all.ensures.same body at
    (λ u.
    c.hold_all.ensures.held u
    ∙ (λ i. option_or (block_in s u) (block_in_items (digests_of s.table.lists) (h.store.life i) (round i) (take (c.from.ensures i) promise.items) blocks u))
    ∙ ap (option_or (block_in s u)) (given u))

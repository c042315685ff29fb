use Rattle.std.proofs.Common.{◌≡◌, ◌+◌, ◌∙◌, true, nat_le, is_some, sym, ap}
use Rattle.std.specs.Prelude.{option_map}
use Rattle.std.proofs.lemmas.Bool.{eq-eqb}
use Rattle.bar_wire.specs.Datagram.{Datagram, round_of}
use Rattle.bar_wire.specs.Bodies.{is_peer_kind}
use Rattle.bar_wire.specs.Evidence.{evidence_bytes}
use Rattle.bar_wire.specs.Code.Sides.{place_in}
use Rattle.bar_wire.specs.Code.Views.{datagram, plain}
use Rattle.bar_session.specs.Time.{round_after}
use Rattle.bar_rules.specs.Member.{Member}
use Rattle.bar_bytes.specs.Code.Rooms.{kept_in}
use Rattle.bar_bytes.proofs.Options.{some-copied, some-mapped}
use Rattle.bar_peer.specs.Code.Memory.{member_of}
use Rattle.bar_peer.proofs.Admitting.Tests.{shown_if_recent, peer_placed, peer_round}
use Rattle.bar_peer.proofs.memory.Memory.may_show.Goals as goal

pub returns-in-Some-clause-exact : goal.returns-in-Some-clause-exact
returns-in-Some-clause-exact c k h =
    let m = c.args.self.now in
    let me : Member = member_of m.who in
    let v = c.args.arrival.now.view in
    let d : Datagram = datagram me.session.shape v in
    let peer : is_peer_kind (plain v.body) ≡ true = sym c.is_peer_kind.ensures ∙ search in
    let round : c.in-Some.place.x.round ≡ round_of (plain v.body) =
    peer_round d.message (place_in c.in-Some.place) peer
    (sym c.args.arrival.now.placed ∙ ap (option_map place_in) c.in-Some.is)
    in
    c.is_within.ensures
    ∙ (λ i. nat_le ((c.round.ensures ∙ ap round_after (sym h.time)) i) (round i + ap (λ s. s.life) c.shape-life.ensures.value i))
    ∙ shown_if_recent me k d peer
    (eq-eqb v.to me.party search)
    (h.announced v.from ∙ sym c.is_named.ensures ∙ c.if-is_named.false)
    (sym (some-mapped evidence_bytes (k.evidence v.from))
    ∙ ap (λ o. is_some o) (h.evidence v.from ∙ ap (kept_in m.evidence) (sym c.from.ensures) ∙ sym c.get.ensures)
    ∙ some-copied c.get.result
    ∙ sym c.is_some.ensures
    ∙ c.if-is_some.false)

pub returns-in-None-clause-exact : goal.returns-in-None-clause-exact
returns-in-None-clause-exact c k h =
    let me : Member = member_of c.args.self.now.who in
    let v = c.args.arrival.now.view in
    let d : Datagram = datagram me.session.shape v in
    let peer : is_peer_kind (plain v.body) ≡ true = sym c.is_peer_kind.ensures ∙ search in
    absurd (peer_placed d.message peer (sym c.args.arrival.now.placed ∙ ap (option_map place_in) c.in-None.is))

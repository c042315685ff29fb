use Rattle.std.proofs.Common.{◌≡◌, ◌∙◌, Some, None, sym, ap}
use Rattle.std.specs.Prelude.{option_map}
use Rattle.bar_wire.specs.Datagram.{Message}
use Rattle.bar_wire.specs.Code.Views.{datagram}
use Rattle.bar_wire.specs.Code.Sides.{place_in}
use Rattle.bar_ledger.specs.Code.Lookups.{heard_in}
use Rattle.bar_peer.specs.Code.Memory.{member_of}
use Rattle.bar_peer.proofs.Admitting.Namesakes.{like_in, like_none}
use Rattle.bar_peer.proofs.memory.Memory.heard_like.Goals as goal

pub returns-in_err-place : goal.returns-in_err-place
returns-in_err-place c k h in_time =
    let shape = c.args.self.now.who.session.shape in
    let m : Message = (datagram shape c.args.arrival.now.view).message in
    let none : c.args.arrival.now.place ≡ None = search in
    like_none c.args.self.now.who.session k m (sym c.args.arrival.now.placed ∙ ap (option_map place_in) none) ∙ search

pub returns : goal.returns
returns c k h in_time =
    let shape = c.args.self.now.who.session.shape in
    let m : Message = (datagram shape c.args.arrival.now.view).message in
    let place = c.in_ok-place.place in
    let some : c.args.arrival.now.place ≡ Some place = search in
    like_in (member_of c.args.self.now.who) k c.args.self.now.ledger m (place_in place) h.ledger
    (sym c.args.arrival.now.placed ∙ ap (option_map place_in) some)
    in_time
    ∙ (λ i. heard_in c.args.self.now.ledger (sym c.kind_of.ensures i) place.x place.role)
    ∙ sym c.heard_from.ensures

use Rattle.std.proofs.Common.{◌≡◌, ◌∙◌, Some, sym, ap}
use Rattle.std.specs.Prelude.{unwrap_or}
use Rattle.bar_window.specs.declared.exchange.Role.{Role}
use Rattle.bar_wire.specs.Datagram.{place_of}
use Rattle.bar_seal.specs.Leaves.{leaf_of}
use Rattle.bar_rules.specs.Peer.Exchanges.{role_of}
use Rattle.bar_rules.specs.Peer.Signing.{seat_by}
use Rattle.bar_peer.specs.Code.Memory.{member_of}
use Rattle.bar_peer.proofs.memory.Memory.leaf.Goals as goal

pub returns : goal.returns
returns c k d h recent f =
    let x = c.args.say.x in
    let me = member_of c.args.self.now.who in
    let side : c.side.result ≡ role_of me x = c.side.ensures me k h.ledger in
    let seat : c.seat_of-seat.result ≡ seat_by k (place_of d.message) =
    c.seat_of-seat.ensures ∙ ap (λ o. unwrap_or o 0) (sym (h.ledger.seats x recent)) ∙ sym (ap (seat_by k) f.place)
    in
    ap Some
    (c.leaf_for.ensures d.message.body f.kind (f.part ∙ ap (λ (role : Role). Some (x.round, x.kind, role)) (sym side))
    ∙ ap (leaf_of d.message.body) seat)

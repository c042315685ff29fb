use Rattle.std.proofs.Common.{◌≡◌, ◌&&◌, ◌∙◌, true, false, is_some, sym, ap, refl}
use Rattle.bar_wire.specs.Code.Views.{plain}
use Rattle.bar_rules.specs.Peer.Admission.{is_row_met}
use Rattle.bar_peer.specs.Code.Memory.{member_of}
use Rattle.bar_peer.specs.Code.Repeats.{is_of_exchange}
use Rattle.bar_peer.proofs.Admitting.Rows.{of_exchange}
use Rattle.bar_peer.proofs.memory.Memory.meets_row_of_exchange.Goals as goal

pub returns-in_default-clause-row : goal.returns-in_default-clause-row
returns-in_default-clause-row g c k bytes h spelled is =
    let v = c.args.arrival.now.view in
    let none : is_of_exchange (plain v.body) ≡ false = of_exchange v c.args.arrival.now.place c.args.arrival.now.placed ∙ ap is_some c.in_default.is in
    ap (λ b. b && is_row_met (member_of c.args.self.now.who) k v.from v.to (plain v.body)) (sym none)

pub returns-in-Balanced-clause-row : goal.returns-in-Balanced-clause-row
returns-in-Balanced-clause-row g c k bytes h spelled is =
    let v = c.args.arrival.now.view in
    let some : is_of_exchange (plain v.body) ≡ true = of_exchange v c.args.arrival.now.place c.args.arrival.now.placed ∙ ap is_some c.in-Some.is in
    c.admit.ensures.row (member_of c.args.self.now.who) k bytes refl h.store h.ledger spelled is
    ∙ ap (λ b. b && is_row_met (member_of c.args.self.now.who) k v.from v.to (plain v.body)) (sym some)

pub returns-in-Push-clause-row : goal.returns-in-Push-clause-row
returns-in-Push-clause-row g c k bytes h spelled is =
    let v = c.args.arrival.now.view in
    let some : is_of_exchange (plain v.body) ≡ true = of_exchange v c.args.arrival.now.place c.args.arrival.now.placed ∙ ap is_some c.in-Some.is in
    c.admit-in-Push.ensures.row (member_of c.args.self.now.who) k bytes refl h.store h.ledger is
    ∙ ap (λ b. b && is_row_met (member_of c.args.self.now.who) k v.from v.to (plain v.body)) (sym some)

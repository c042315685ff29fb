use Rattle.std.proofs.Common.{◌≡◌, ◌∙◌, Option, Some, refl, sym, ap, subst}
use Rattle.std.specs.Prelude.{option_map, IfSome}
use Rattle.bar_wire.specs.Datagram.{Place, place_of}
use Rattle.bar_wire.specs.Code.Sides.{place_in}
use Rattle.bar_wire.specs.Code.Views.{plain}
use Rattle.bar_session.specs.Time.{round_after}
use Rattle.bar_rules.specs.Member.{Member}
use Rattle.bar_rules.specs.Peer.Agreement.{IsRecent}
use Rattle.bar_exchange.specs.Code.Placing.{message_in}
use Rattle.bar_peer.specs.Code.Memory.{member_of}
use Rattle.bar_peer.proofs.Replying.NoExchange.{no_orders}
use Rattle.bar_peer.proofs.answers.says_to.Goals as goal

pub returns-in_default-clause-orders : goal.returns-in_default-clause-orders
returns-in_default-clause-orders c k h recent =
    let v = c.args.arrival.now.view in
    sym (no_orders (member_of c.args.memory.now.who) k c.args.is_new v.from v.to (plain v.body)
    (ap (option_map place_in) (sym c.in_default.is) ∙ c.args.arrival.now.placed))

pub returns-in-Balanced-clause-orders : goal.returns-in-Balanced-clause-orders
returns-in-Balanced-clause-orders c k h recent =
    let me : Member = member_of c.args.memory.now.who in
    let at : place_of (message_in c.args.arrival.now.view) ≡ Some (place_in c.in-Some.place) =
    sym c.args.arrival.now.placed ∙ ap (option_map place_in) c.in-Some.is
    in
    c.replies.ensures.orders me k refl h.ledger
    (λ new. subst (λ (o : Option Place). IfSome (option_map (λ p. p.exchange) o) (λ x. IsRecent me k x.round)) at (recent new))

pub returns-in-Push-clause-orders : goal.returns-in-Push-clause-orders
returns-in-Push-clause-orders c k h recent =
    c.replies-in-Push.ensures.orders (member_of c.args.memory.now.who) k refl (c.round-round.ensures ∙ ap round_after (sym h.time))

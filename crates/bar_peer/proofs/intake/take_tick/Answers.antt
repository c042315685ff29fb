use Rattle.std.proofs.Common.{◌≤◌, ◌∷◌, sym, subst}
use Rattle.bar_rules.specs.Peer.Log.{Ticked}
use Rattle.bar_rules.specs.Peer.Rules.{IsObedient}
use Rattle.bar_peer.specs.declared.credentials.Credentials.{Credentials}
use Rattle.bar_peer.specs.Code.Memory.{member_of}
use Rattle.bar_peer.specs.Code.Sending.{HasOutcome}
use Rattle.bar_peer.specs.Code.Steps.{ticked}
use Rattle.bar_peer.specs.Code.Ticking.{most_orders}
use Rattle.bar_peer.proofs.intake.take_tick.Goals as goal

pub returns-clause-stands : goal.returns-clause-stands
returns-clause-stands c log obeys tells empty room =
    let who = c.tick.ensures.who in
    subst (λ (w : Credentials). HasOutcome (ticked (member_of w) log) c.act.new.memory c.act.new.orders) who
    (c.act.ensures.stands (Ticked ∷ log) (subst (λ (w : Credentials). IsObedient (member_of w) (ticked (member_of w) log).state) (sym who) obeys)
    (c.tick.ensures.learns log tells) empty (subst (λ (w : Credentials). most_orders w.session ≤ c.args.orders.now.room) (sym who) room))

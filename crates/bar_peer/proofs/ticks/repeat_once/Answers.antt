use Rattle.std.proofs.Common.{◌≡◌, ◌∙◌, List, [], ◌∷◌, sym, ap, subst, arith}
use Rattle.std.specs.List.{AllByRecursion}
use Rattle.bar_rules.specs.Member.{Member}
use Rattle.bar_rules.specs.Peer.Knowledge.{Knowledge, known}
use Rattle.bar_rules.specs.Peer.Log.{Log}
use Rattle.bar_rules.specs.Peer.Orders.{Order}
use Rattle.bar_rules.specs.Peer.Run.{Out, perform, perform_all}
use Rattle.bar_exchange.specs.Code.Says.{order_again, orders_at_tick}
use Rattle.bar_exchange.specs.declared.say.Say.{Say}
use Rattle.bar_peer.specs.Code.Memory.{member_of}
use Rattle.bar_peer.specs.Code.Sending.{IsTimely, HasOutcome}
use Rattle.bar_peer.specs.Code.Ticking.{orders_of_open}
use Rattle.bar_peer.proofs.Orders.Sendings.{state_again}
use Rattle.bar_peer.proofs.Ticking.Timely.{again_is_timely}
use Rattle.bar_peer.proofs.ticks.repeat_once.Goals as goal

pub returns-in-Nothing-clause-stands : goal.returns-in-Nothing-clause-stands
returns-in-Nothing-clause-stands c = λ out h recent room.
    let m = c.args.memory.now in
    let me : Member = member_of m.who in
    let k : Knowledge = known me out.state in
    let is : [] ≡ orders_of_open me k c.args.x = ap orders_at_tick (sym c.in-Nothing.is) ∙ c.again.ensures k h.tells in
    subst (λ (os : List Order). HasOutcome (perform_all me out os) m c.args.orders.now) is h

pub returns-in-One-clause-stands : goal.returns-in-One-clause-stands
returns-in-One-clause-stands c = λ out h recent room.
    let m = c.args.memory.now in
    let me : Member = member_of m.who in
    let k : Knowledge = known me out.state in
    let say : Say = c.in-One.say in
    let is : order_again say.kind say.x ∷ [] ≡ orders_of_open me k c.args.x =
    ap orders_at_tick (sym c.in-One.is) ∙ c.again.ensures k h.tells
    in
    let timely : AllByRecursion (IsTimely me k) (say ∷ []) = again_is_timely me k c.args.x (say ∷ []) recent is in
    subst (λ (os : List Order). HasOutcome (perform_all me out os) m c.repeat.new.orders) is
    (c.repeat.ensures.stands out h timely.0 (omega arith))

pub returns-in-Two-clause-stands : goal.returns-in-Two-clause-stands
returns-in-Two-clause-stands c = λ out h recent room.
    let m = c.args.memory.now in
    let me : Member = member_of m.who in
    let k : Knowledge = known me out.state in
    let first : Say = c.in-Two.first in
    let second : Say = c.in-Two.second in
    let is : order_again first.kind first.x ∷ order_again second.kind second.x ∷ [] ≡ orders_of_open me k c.args.x =
    ap orders_at_tick (sym c.in-Two.is) ∙ c.again.ensures k h.tells
    in
    let timely : AllByRecursion (IsTimely me k) (first ∷ second ∷ []) = again_is_timely me k c.args.x (first ∷ second ∷ []) recent is in
    let between : Out = perform me out (order_again first.kind first.x) in
    let later : IsTimely me (known me between.state) second =
    subst (λ (log : Log). IsTimely me (known me log) second) (sym (state_again me out first.kind first.x)) timely.1.0
    in
    let one : HasOutcome between m c.repeat-in-Two.new.orders = c.repeat-in-Two.ensures.stands out h timely.0 (omega arith) in
    subst (λ (os : List Order). HasOutcome (perform_all me out os) m c.repeat-in-Two-2.new.orders) is
    (c.repeat-in-Two-2.ensures.stands between one later (omega (arith, c.repeat-in-Two.ensures.length, c.repeat-in-Two.ensures.room.room)))

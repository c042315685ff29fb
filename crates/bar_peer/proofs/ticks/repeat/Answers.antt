use Rattle.std.proofs.Common.{◌≡◌, ◌∙◌, ℕ, Option, is_some, true, false, refl, sym, subst, arith}
use Rattle.bar_wire.specs.Datagram.{Datagram}
use Rattle.bar_rules.specs.Member.{Member}
use Rattle.bar_rules.specs.Peer.Knowledge.{Knowledge, known}
use Rattle.bar_rules.specs.Peer.Run.{Out}
use Rattle.bar_peer.specs.declared.order.Order.TheVariants as queued
use Rattle.bar_peer.specs.Code.Memory.{member_of}
use Rattle.bar_peer.specs.Code.Sending.{send_now, HasOutcome}
use Rattle.bar_peer.proofs.Orders.Recency.{recent_by_time}
use Rattle.bar_peer.proofs.Orders.Sendings.{sent_again, stands_with, pushed, not_pushed}
use Rattle.bar_peer.proofs.ticks.repeat.Goals as goal

pub returns-then-may_repeat-clause-stands : goal.returns-then-may_repeat-clause-stands
returns-then-may_repeat-clause-stands c = λ out h timely room.
    let m = c.args.memory.now in
    let o = c.args.orders.now in
    let say = c.args.say in
    let me : Member = member_of m.who in
    let k : Knowledge = known me out.state in
    let s : Option (ℕ × Datagram) = send_now me k say in
    let recent = recent_by_time me k say.kind say.x.round m.who.is_member.session.shape.life_low timely in
    let some : is_some s ≡ true = sym (c.may_repeat.ensures k h.tells recent) ∙ c.if-may_repeat.true in
    subst (λ (after : Out). HasOutcome after m c.push.new.self) (sym (sent_again me out say.kind say.x))
    (stands_with m o c.push.new.self out (queued.Say say) s refl timely h
    (c.push.ensures.pushed (omega arith) ∙ pushed (queued.Say say) s o.list.items some))

pub returns-else-may_repeat-clause-stands : goal.returns-else-may_repeat-clause-stands
returns-else-may_repeat-clause-stands c = λ out h timely room.
    let m = c.args.memory.now in
    let o = c.args.orders.now in
    let say = c.args.say in
    let me : Member = member_of m.who in
    let k : Knowledge = known me out.state in
    let s : Option (ℕ × Datagram) = send_now me k say in
    let recent = recent_by_time me k say.kind say.x.round m.who.is_member.session.shape.life_low timely in
    let none : is_some s ≡ false = sym (c.may_repeat.ensures k h.tells recent) ∙ c.if-may_repeat.false in
    subst (λ (after : Out). HasOutcome after m o) (sym (sent_again me out say.kind say.x))
    (stands_with m o o out (queued.Say say) s refl timely h (not_pushed (queued.Say say) s o.list.items none))

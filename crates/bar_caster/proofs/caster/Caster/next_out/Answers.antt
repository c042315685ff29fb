use Rattle.std.proofs.Common.{sym, subst}
use Rattle.bar_rules.specs.Code.Giving.{GivesNext}
use Rattle.bar_core.specs.Code.Orders.{left_in}
use Rattle.bar_caster.specs.Code.Memory.{member_of, stream_of}
use Rattle.bar_caster.specs.Code.StandsFor.{AreLeft, log_of}
use Rattle.bar_caster.proofs.Given.{none_left, next_of, never_none}
use Rattle.bar_caster.proofs.Short.{sent_short}
use Rattle.bar_caster.proofs.caster.Caster.next_out.Goals as goal

pub returns-in_err-order-clause-gives : goal.returns-in_err-order-clause-gives
returns-in_err-order-clause-gives g c inputs sends tells are =
    let caster = c.args.self.now in
    let m = caster.memory in
    subst (λ r. GivesNext m.session sends r c.args.buf.now (AreLeft m c.next.new.self inputs)) (sym c.from_residual.ensures)
    (none_left (member_of m) (stream_of m) (log_of m inputs) (left_in caster.orders) (left_in c.next.new.self) sends
    c.in_err-order.ensures.first.0
    c.in_err-order.ensures.first.1
    are)

pub returns-in_default-clause-gives : goal.returns-in_default-clause-gives
returns-in_default-clause-gives g c inputs sends tells are =
    let caster = c.args.self.now in
    let m = caster.memory in
    let next = next_of (member_of m) (stream_of m) (log_of m inputs) c.in_ok-order.order (left_in caster.orders) (left_in c.next.new.self) sends
    c.in_ok-order.ensures.first
    are
    in
    let short = sent_short (member_of m) (stream_of m) m.is_broadcaster c.signs_once_a_round.ensures inputs c.in_ok-order.order.peer c.in_ok-order.order.item
    next.given
    next.due in
    absurd (never_none m.session next.given c.write.result c.write.new.buf (c.write.ensures (log_of m inputs) next.given tells next.due short) c.in_default.not-Some)

pub returns-clause-gives : goal.returns-clause-gives
returns-clause-gives g c inputs sends tells are =
    let caster = c.args.self.now in
    let m = caster.memory in
    let next = next_of (member_of m) (stream_of m) (log_of m inputs) c.in_ok-order.order (left_in caster.orders) (left_in c.next.new.self) sends
    c.in_ok-order.ensures.first
    are
    in
    let short = sent_short (member_of m) (stream_of m) m.is_broadcaster c.signs_once_a_round.ensures inputs c.in_ok-order.order.peer c.in_ok-order.order.item
    next.given
    next.due in (next.given, next.rest, next.is, c.in-Some.ensures (log_of m inputs) next.given tells next.due short, next.others)

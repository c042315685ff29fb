use Rattle.std.proofs.Common.{◌∙◌, ℕ, [], ◌∷◌, sym, ap, subst}
use Rattle.bar_rules.specs.Peer.Knowledge.{known}
use Rattle.bar_rules.specs.Peer.Run.{log_after}
use Rattle.bar_peer.specs.Code.Memory.{member_of}
use Rattle.bar_core.specs.Code.Orders.{left_in}
use Rattle.bar_peer.specs.Code.StandsFor.{AreLeft}
use Rattle.bar_rules.specs.Code.Giving.{GivesNext}
use Rattle.bar_peer.proofs.Giving.Next.{none_left, next_of, never_none}
use Rattle.bar_peer.proofs.peer.Peer.next_out.Goals as goal

pub returns-in_err-order-clause-gives : goal.returns-in_err-order-clause-gives
returns-in_err-order-clause-gives g c inputs sends tells h =
    let p = c.args.self.now in
    let me = member_of p.memory.who in
    subst (λ r. GivesNext me.session sends r c.args.buf.now (AreLeft p.memory c.next.new.self inputs)) (sym c.from_residual.ensures)
    (none_left me (known me (log_after me [] inputs)) (left_in p.orders) (left_in c.next.new.self) sends c.in_err-order.ensures.first.0
    c.in_err-order.ensures.first.1
    h)

pub returns-in_default-clause-gives : goal.returns-in_default-clause-gives
returns-in_default-clause-gives g c inputs sends tells h =
    let p = c.args.self.now in
    let me = member_of p.memory.who in
    let k = known me (log_after me [] inputs) in
    let next = next_of me inputs p.memory.who.is_member c.leaf_discipline.ensures c.logs_are_sound.ensures c.signed_by_rule.ensures
    c.what_was_said_is_written_again.ensures.run
    c.evidence_fits_its_room.ensures
    c.in_ok-order.order
    (left_in p.orders)
    (left_in c.next.new.self)
    sends
    c.in_ok-order.ensures.first
    h
    in
    absurd (never_none me next.given c.give.result c.give.new.buf (c.give.ensures k next.given tells next.due) c.in_default.not-Some)

pub returns-clause-gives : goal.returns-clause-gives
returns-clause-gives g c inputs sends tells h =
    let p = c.args.self.now in
    let me = member_of p.memory.who in
    let k = known me (log_after me [] inputs) in
    let next = next_of me inputs p.memory.who.is_member c.leaf_discipline.ensures c.logs_are_sound.ensures c.signed_by_rule.ensures
    c.what_was_said_is_written_again.ensures.run
    c.evidence_fits_its_room.ensures
    c.in_ok-order.order
    (left_in p.orders)
    (left_in c.next.new.self)
    sends
    c.in_ok-order.ensures.first
    h
    in (
      next.given,
      next.rest,
      next.is ∙ ap (λ (to : ℕ). (to, next.given) ∷ next.rest) (sym c.receiver.ensures),
      c.in-Some.ensures k next.given tells next.due,
      next.others,
    )

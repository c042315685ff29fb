use Rattle.std.proofs.Common.{Bool, ◌∙◌, sym, refl, subst, arith}
use Rattle.bar_rules.specs.Peer.Knowledge.{Knowledge, known}
use Rattle.bar_rules.specs.Peer.Run.{perform}
use Rattle.bar_exchange.specs.Code.Says.{order_by}
use Rattle.bar_peer.specs.Code.Memory.{member_of}
use Rattle.bar_peer.specs.Code.Sending.{IsCarriedOut}
use Rattle.bar_peer.proofs.Orders.Outcomes.{stands_sent, stands_unsent}
use Rattle.bar_peer.proofs.Orders.Recency.{recent_by_time}
use Rattle.bar_peer.proofs.Orders.Repeats.{repeated}
use Rattle.bar_peer.proofs.queue.reply_once.Goals as goal

pub returns-then-may_repeat-clause-stands : goal.returns-then-may_repeat-clause-stands
returns-then-may_repeat-clause-stands c out obeys stands own left =
    let who = c.args.memory.now.who in
    let say = c.args.say in
    let k : Knowledge = known (member_of who) out.state in
    let recent = recent_by_time (member_of who) k say.kind say.x.round who.is_member.session.shape.life_low own.timely in
    stands_sent c.args.memory.now c.args.memory.now c.args.orders.now c.push.new.self say out refl stands own
    (c.push.ensures.pushed (omega (arith, left)))
    (repeated say.kind say.x out c.args.memory.now stands.tells own.answers
    (sym (c.may_repeat.ensures k stands.tells recent) ∙ c.if-may_repeat.true))

pub returns-then-say-clause-stands : goal.returns-then-say-clause-stands
returns-then-say-clause-stands c out obeys stands own left =
    let who = c.args.memory.now.who in
    let me = member_of who in
    let say = c.args.say in
    let k : Knowledge = known me out.state in
    let recent = recent_by_time me k say.kind say.x.round who.is_member.session.shape.life_low own.timely in
    stands_sent c.args.memory.now c.say.new.self c.args.orders.now c.push-then-say.new.self say out c.say.ensures.party.who stands own
    (c.push-then-say.ensures.pushed (omega (arith, left)))
    (subst (λ (b : Bool). IsCarriedOut me say out (perform me out (order_by say.kind say.x)) b c.say.new.self) c.if-say.true
    (c.say.ensures.carried_out out obeys stands.tells own (sym (c.may_repeat.ensures k stands.tells recent) ∙ c.if-may_repeat.false)))

pub returns-else-say-clause-stands : goal.returns-else-say-clause-stands
returns-else-say-clause-stands c out obeys stands own left =
    let who = c.args.memory.now.who in
    let me = member_of who in
    let say = c.args.say in
    let k : Knowledge = known me out.state in
    let recent = recent_by_time me k say.kind say.x.round who.is_member.session.shape.life_low own.timely in
    stands_unsent c.args.memory.now c.say.new.self c.args.orders.now say out c.say.ensures.party.who stands
    (subst (λ (b : Bool). IsCarriedOut me say out (perform me out (order_by say.kind say.x)) b c.say.new.self) c.if-say.false
    (c.say.ensures.carried_out out obeys stands.tells own (sym (c.may_repeat.ensures k stands.tells recent) ∙ c.if-may_repeat.false)))

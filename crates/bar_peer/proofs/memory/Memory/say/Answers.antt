use Rattle.std.proofs.Common.{◌∙◌, true, false, sym, refl}
use Rattle.bar_wire.specs.declared.kind.Kind.TheVariants as kinds
use Rattle.bar_rules.specs.Peer.Knowledge.{Knowledge, known}
use Rattle.bar_peer.specs.Code.Memory.{member_of}
use Rattle.bar_peer.proofs.Replying.ByKind.{at_kind, gives_response, gives_case, gives_key}
use Rattle.bar_peer.proofs.Replying.PushReply.{offer_known, gives_none, gives_reply}
use Rattle.bar_peer.proofs.Orders.Repeats.{nothing_said}
use Rattle.bar_peer.proofs.memory.Memory.say.Goals as goal

pub returns-then-not-knows_offer-clause-carried_out :
    goal.returns-then-not-knows_offer-clause-carried_out
returns-then-not-knows_offer-clause-carried_out c out obeys tells own unsaid =
    let who = c.args.self.now.who in
    let k : Knowledge = known (member_of who) out.state in
    let life = who.is_member.session.shape.life_low in
    at_kind c.args.self.now c.args.self.now c.args.say.x false c.args.say.kind kinds.Reply c.in-Reply.is
    (gives_none c.args.self.now c.args.say.x life
    (λ k h recent push.
    offer_known (member_of who) k c.args.self.now.ledger c.args.say.x h.ledger recent push
    ∙ sym c.knows_offer.ensures
    ∙ c.if-not-knows_offer.true))
    out
    unsaid
    obeys
    tells
    own

pub returns-in-Response-clause-carried_out : goal.returns-in-Response-clause-carried_out
returns-in-Response-clause-carried_out c out obeys tells own unsaid =
    let who = c.args.self.now.who in
    let k : Knowledge = known (member_of who) out.state in
    let life = who.is_member.session.shape.life_low in
    at_kind c.args.self.now _ c.args.say.x true c.args.say.kind kinds.Response c.in-Response.is
    (gives_response c.args.self.now _ c.args.say.x c.knowledge_is_enough.ensures.entry
    (record { who = refl; ticks = refl; store = refl; manifests = refl; evictions = refl; evidence = refl })
    life
    (λ k d h. c.say_response.ensures.learns (member_of who) k d h.store h.ledger))
    out
    unsaid
    obeys
    tells
    own

pub returns-else-not-knows_offer-clause-carried_out :
    goal.returns-else-not-knows_offer-clause-carried_out
returns-else-not-knows_offer-clause-carried_out c out obeys tells own unsaid =
    let who = c.args.self.now.who in
    let k : Knowledge = known (member_of who) out.state in
    let life = who.is_member.session.shape.life_low in
    at_kind c.args.self.now _ c.args.say.x c.say_reply.result c.args.say.kind kinds.Reply c.in-Reply.is
    (gives_reply c.args.self.now _ c.args.say.x c.say_reply.result c.knowledge_is_enough.ensures.entry
    (record { who = refl; ticks = refl; store = refl; manifests = refl; evictions = refl; evidence = refl })
    life
    (λ k h recent push.
    offer_known (member_of who) k c.args.self.now.ledger c.args.say.x h.ledger recent push
    ∙ sym c.knows_offer.ensures
    ∙ c.if-not-knows_offer.false)
    (λ k d q h. c.say_reply.ensures.learns (member_of who) k d q h.store h.ledger)
    (λ k q h. c.say_reply.ensures.without (member_of who) k q h.store h.ledger))
    out
    unsaid
    obeys
    tells
    own

pub returns-in-Case-clause-carried_out : goal.returns-in-Case-clause-carried_out
returns-in-Case-clause-carried_out c out obeys tells own unsaid =
    let who = c.args.self.now.who in
    let k : Knowledge = known (member_of who) out.state in
    let life = who.is_member.session.shape.life_low in
    at_kind c.args.self.now _ c.args.say.x c.say_case.result c.args.say.kind kinds.Case c.in-Case.is
    (gives_case c.args.self.now _ c.args.say.x c.say_case.result c.knowledge_is_enough.ensures.entry
    (record { who = refl; ticks = refl; store = refl; manifests = refl; evictions = refl; evidence = refl })
    life
    (λ k d h. c.say_case.ensures.learns (member_of who) k d h.ledger)
    (λ k h. c.say_case.ensures.without (member_of who) k h.ledger))
    out
    unsaid
    obeys
    tells
    own

pub returns-in-Key-clause-carried_out : goal.returns-in-Key-clause-carried_out
returns-in-Key-clause-carried_out c out obeys tells own unsaid =
    let who = c.args.self.now.who in
    let k : Knowledge = known (member_of who) out.state in
    let life = who.is_member.session.shape.life_low in
    at_kind c.args.self.now _ c.args.say.x c.say_key.result c.args.say.kind kinds.Key c.in-Key.is
    (gives_key c.args.self.now _ c.args.say.x c.say_key.result c.knowledge_is_enough.ensures.entry
    (record { who = refl; ticks = refl; store = refl; manifests = refl; evictions = refl; evidence = refl })
    life
    (λ k d h. c.say_key.ensures.learns (member_of who) k d h.ledger))
    out
    unsaid
    obeys
    tells
    own

pub returns-in_default : goal.returns-in_default
returns-in_default c = record {
  carried_out = λ out obeys tells own unsaid.
      let who = c.args.self.now.who in
      let k : Knowledge = known (member_of who) out.state in
      nothing_said c.args.say.kind c.args.say.x out c.args.self.now
      (c.in_default.not-Response, c.in_default.not-Reply, c.in_default.not-Case, c.in_default.not-Key)
      tells
      unsaid;
  party = record { who = refl; ticks = refl };
}

use Rattle.std.proofs.Common.{◌∙◌, sym}
use Rattle.std.proofs.lemmas.Bool.{and_parts}
use Rattle.bar_peer.proofs.Orders.Outcomes.{two_stand}
use Rattle.bar_peer.proofs.queue.reply.Goals as goal

pub returns-in-Two-clause-stands : goal.returns-in-Two-clause-stands
returns-in-Two-clause-stands c out =
    two_stand c.args.memory.now c.reply_once-one.new.memory c.reply_once-two.new.memory c.args.orders.now
    c.reply_once-one.new.orders
    c.reply_once-two.new.orders c.in-Two.first c.in-Two.second c.args.says out c.in-Two.is c.reply_once-one.ensures.party.who
    c.reply_once-one.ensures.room.room
    c.reply_once-one.ensures.length
    c.reply_once-one.ensures.stands
    c.reply_once-two.ensures.stands

pub returns-in-Two-clause-same : goal.returns-in-Two-clause-same
returns-in-Two-clause-same c same =
    let parts = and_parts _ _ (sym c.both.ensures ∙ same) in
    c.reply_once-two.ensures.same parts.1 ∙ c.reply_once-one.ensures.same parts.0

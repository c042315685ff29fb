use Rattle.bar_window.specs.Code.Window.{members}
use Rattle.bar_exchange.proofs.PartKept.{no_entry}
use Rattle.bar_push.proofs.ReplyKept.{reply_of, reply_learned, no_trade}
use Rattle.bar_push.proofs.keeping.keep_reply.Goals as goal

pub returns-in_default-clause-learns : goal.returns-in_default-clause-learns
returns-in_default-clause-learns c me k d r m body place wants gives =
    let a = c.args.answer in
    let o = reply_of me k c.args.ledger.now d c.args.bytes.now c.args.x r (members a.want) (members a.give) a.junk m body place in
    absurd (no_entry c.find.result _ o.kept c.find.ensures.entry c.in_default.not-Some o.at.found)

pub returns-in_default-terms-clause-learns : goal.returns-in_default-terms-clause-learns
returns-in_default-terms-clause-learns c me k d r m body place wants gives =
    let a = c.args.answer in
    let o = reply_of me k c.args.ledger.now d c.args.bytes.now c.args.x r (members a.want) (members a.give) a.junk m body place in
    absurd (no_trade me k c.args.ledger.now d c.args.x c.in-Some.entry.now _ _ _ o c.in-Some.ensures.entry c.in_default-terms.is)

pub returns-clause-learns : goal.returns-clause-learns
returns-clause-learns c me k d r m body place wants gives =
    let a = c.args.answer in
    let w = c.in-Push in
    reply_learned me k c.args.ledger.now _ d c.args.bytes.now c.args.x r w.young w.aged w.want w.give a.want a.give w.junk a.junk c.in-Some.entry.now m body place wants gives
    c.in-Some.ensures.entry w.is c.keep_part.ensures.changes

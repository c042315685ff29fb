use Rattle.bar_window.specs.Code.Window.{members}
use Rattle.bar_push.proofs.Held.{answer_is}
use Rattle.bar_push.proofs.choosing.answer_to_offer.Goals as goal

pub returns-clause-known : goal.returns-clause-known
returns-clause-known c me k h allowed near young aged =
    answer_is me k c.args.round c.args.cap c.args.young.now c.args.aged.now (members c.history.result) c.push_answer.result young aged
    (c.history.ensures.known me k h near) allowed c.push_answer.ensures.want c.push_answer.ensures.give c.push_answer.ensures.junk

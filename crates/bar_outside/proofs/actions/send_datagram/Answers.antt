use Rattle.std.proofs.lemmas.Result.{err_from_is_err_and}
use Rattle.bar_outside.proofs.Following.{failed_call}
use Rattle.bar_outside.proofs.actions.send_datagram.Goals as goal

pub returns-in_err-send : goal.returns-in_err-send
returns-in_err-send g c = λ w.
    let p = err_from_is_err_and c.from_residual.result c.from_residual.ensures.1 in
    rw (p.1, p.2) (failed_call _ _ w _ _ c.in_err-send.field-0.0 c.in_err-send.ensures)

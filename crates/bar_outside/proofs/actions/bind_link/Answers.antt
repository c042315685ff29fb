use Rattle.std.proofs.lemmas.Result.{err_from_is_err_and}
use Rattle.bar_outside.proofs.Following.{failed_call}
use Rattle.bar_outside.proofs.actions.bind_link.Goals as goal

pub returns-in_err-bind : goal.returns-in_err-bind
returns-in_err-bind g c = λ w.
    let p = err_from_is_err_and c.from_residual.result c.from_residual.ensures.1 in
    rw (p.1, p.2) (failed_call _ _ w _ _ c.in_err-bind.field-0.0 c.in_err-bind.ensures)

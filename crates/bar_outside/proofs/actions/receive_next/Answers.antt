use Rattle.std.proofs.lemmas.Result.{err_from_is_err_and}
use Rattle.bar_outside.proofs.Following.{failed_call}
use Rattle.bar_outside.proofs.actions.receive_next.Goals as goal

pub returns-in_err-next-clause-follows : goal.returns-in_err-next-clause-follows
returns-in_err-next-clause-follows g c = λ w.
    let p = err_from_is_err_and c.from_residual.result c.from_residual.ensures.1 in
    rw (p.1, p.2) (failed_call _ _ w _ _ c.in_err-next.field-0.0 c.in_err-next.ensures.acts)

use Rattle.std.proofs.Common.{ap}
use Rattle.std.proofs.lemmas.Result.{err_from_is_err_and}
use Rattle.bar_core.specs.Rules.{Rules}
use Rattle.bar_node.proofs.RunEnds.{not-run, run-failed, close-failed, run-done, summary-is}
use Rattle.bar_node.proofs.running.run_node.Goals as goal

pub returns-in_err-inbox-clause-ran : goal.returns-in_err-inbox-clause-ran
returns-in_err-inbox-clause-ran g c = λ was.
    let p = err_from_is_err_and c.from_residual.result c.from_residual.ensures.1 in
    rw (p.1, p.2) (not-run _ _ _ _ _ _ _)

pub returns-in_err-outbox-clause-ran : goal.returns-in_err-outbox-clause-ran
returns-in_err-outbox-clause-ran g c = λ was.
    let p = err_from_is_err_and c.from_residual-in_err-outbox.result c.from_residual-in_err-outbox.ensures.1 in
    rw (p.1, p.2) (not-run _ _ _ _ _ _ _)

pub returns-in_err-counts-clause-ran : goal.returns-in_err-counts-clause-ran
returns-in_err-counts-clause-ran g c = λ was.
    let p = err_from_is_err_and c.from_residual-in_err-counts.result c.from_residual-in_err-counts.ensures.1 in
    rw (p.1, p.2) (run-failed _ _ _ _ _ _ _ _ _ _ _ (c.in_err-counts.ensures.ran was))

pub returns-in_err-close-clause-ran : goal.returns-in_err-close-clause-ran
returns-in_err-close-clause-ran g c = λ was.
    let p = err_from_is_err_and c.from_residual-in_err-close.result c.from_residual-in_err-close.ensures.1 in
    rw (p.1, p.2)
    (close-failed _ _ _ _ _ _ _ _ _ _ _ (c.in_ok-counts.ensures.ran was) _ c.in_ok-counts.ensures.rules _ _
    (λ w. c.in_err-close.ensures _ (c.in_ok-counts.ensures.ran was).took.stands w was))

pub returns-clause-ran : goal.returns-clause-ran
returns-clause-ran g c = λ was.
    let i = c.in_ok-counts.ensures.ran was in
    run-done _ _ _ _ _ _ _ _ _ _ c.in_ok-counts.counts i _ c.in_ok-counts.ensures.rules _ _ _ (λ w. c.in_ok-close.ensures _ i.took.stands w was)
    i.took.stands
    (summary-is (g.C.Core.face c.args.core.now).rules _ _ _ _ _ c.ticks_taken.ensures
    (g.met.C.Core.timed c.run_inputs.new.core _ i.took.stands) (ap (λ (r : Rules). r.last) c.in_ok-counts.ensures.rules) i.took.counted)

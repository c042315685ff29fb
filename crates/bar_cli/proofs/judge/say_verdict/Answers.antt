use Rattle.std.proofs.Common.{◌∷◌, [], Ok, Err, refl, ap, sym, ◌∙◌}
use Rattle.std.proofs.lemmas.Result.{err_from_is_err_and}
use Rattle.bar_outside.specs.Plan.Action.{show}
use Rattle.bar_outside.proofs.Ending.{EndsWith-doing, EndsWith-memory}
use Rattle.bar_judge.specs.Code.Verdicts.{plain_verdict}
use Rattle.bar_cli.specs.Judge.Judging.{status_of_verdict}
use Rattle.bar_cli.proofs.JudgeRows.{says-on}
use Rattle.bar_cli.proofs.StatusLemmas.{never-file, never-link, quiet, unsaid-at}
use Rattle.bar_cli.proofs.judge.say_verdict.Goals as goal

pub returns-in_err-line-clause-ends : goal.returns-in_err-line-clause-ends
returns-in_err-line-clause-ends g c =
    let p = err_from_is_err_and c.from_residual.result c.from_residual.ensures.1 in
    rw (p.1, p.2) (λ w. EndsWith-memory _ _)

pub returns-in_err-show_bytes-clause-ends : goal.returns-in_err-show_bytes-clause-ends
returns-in_err-show_bytes-clause-ends g c =
    let p = err_from_is_err_and c.from_residual-in_err-show_bytes.result c.from_residual-in_err-show_bytes.ensures.1 in
    let v = plain_verdict c.args.verdict.now in
    rw (p.1, p.2, ← c.in_ok-line.ensures, ← c.as_bytes.ensures.value)
    (λ w. EndsWith-doing (show c.as_bytes.result.now ∷ []) (status_of_verdict v) [] _ _ tt (says-on v)
    (Err c.in_err-show_bytes.field-0.0) (c.in_err-show_bytes.ensures w))

pub returns-in_err-show_bytes-clause-unprinted : goal.returns-in_err-show_bytes-clause-unprinted
returns-in_err-show_bytes-clause-unprinted g c =
    let p = err_from_is_err_and c.from_residual-in_err-show_bytes.result c.from_residual-in_err-show_bytes.ensures.1 in
    rw p.1 (unsaid-at p.0 _ (λ e. absurd (never-file _ _ _ _ c.in_err-show_bytes.ensures (ap Err (sym p.2 ∙ e))))
    (λ e. absurd (never-link _ _ _ _ refl refl (c.in_err-show_bytes.ensures quiet) (ap Err (sym p.2 ∙ e)))))

pub returns-clause-ends : goal.returns-clause-ends
returns-clause-ends g c =
    let v = plain_verdict c.args.verdict.now in
    rw (c.status_of.ensures.code, c.status_of.ensures.line, ← c.in_ok-line.ensures, ← c.as_bytes.ensures.value)
    (λ w. EndsWith-doing (show c.as_bytes.result.now ∷ []) (status_of_verdict v) [] _ _ tt (says-on v) (Ok tt)
    (c.in_ok-show_bytes.ensures w))

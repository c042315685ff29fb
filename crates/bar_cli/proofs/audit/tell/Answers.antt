use Rattle.std.proofs.Common.{◌≡◌, ◌∷◌, [], Ok, Err, refl, ap, sym, ◌∙◌}
use Rattle.std.proofs.lemmas.Result.{err_from_is_err_and}
use Rattle.bar_outside.specs.Plan.Action.{show}
use Rattle.bar_outside.proofs.Ending.{EndsWith-doing, EndsWith-memory}
use Rattle.bar_cli.specs.Audit.Plan.{audit_text, balance_of}
use Rattle.bar_cli.specs.Audit.Text.{status_of_balance}
use Rattle.bar_cli.proofs.AuditRows.{told-on}
use Rattle.bar_cli.proofs.AuditLemmas.{balance-told, text-told}
use Rattle.bar_cli.proofs.StatusLemmas.{never-file, never-link, quiet, untold-at}
use Rattle.bar_cli.proofs.audit.tell.Goals as goal

pub returns-in_err-text-clause-ends : goal.returns-in_err-text-clause-ends
returns-in_err-text-clause-ends g c =
    let p = err_from_is_err_and c.from_residual.result c.from_residual.ensures.1 in
    rw (p.1, p.2) (λ w s recordings knows. EndsWith-memory _ _)

pub returns-in_err-show_bytes-clause-ends : goal.returns-in_err-show_bytes-clause-ends
returns-in_err-show_bytes-clause-ends g c =
    let p = err_from_is_err_and c.from_residual-in_err-show_bytes.result c.from_residual-in_err-show_bytes.ensures.1 in
    rw (p.1, p.2)
    (λ w s recordings knows.
    let one = c.recorded_exchanges_are_one_list.ensures.one s recordings _ knows.recorded in
    let text : c.as_bytes.result.now ≡ audit_text s recordings =
    text-told s recordings _ _ (c.as_bytes.ensures.value ∙ c.in_ok-text.ensures s recordings knows) one in
    EndsWith-doing (show (audit_text s recordings) ∷ []) (status_of_balance (balance_of s recordings)) [] _ _ tt
    (told-on (balance_of s recordings)) (Err c.in_err-show_bytes.field-0.0) (rw text at (c.in_err-show_bytes.ensures w)))

pub returns-in_err-show_bytes-clause-unprinted : goal.returns-in_err-show_bytes-clause-unprinted
returns-in_err-show_bytes-clause-unprinted g c =
    let p = err_from_is_err_and c.from_residual-in_err-show_bytes.result c.from_residual-in_err-show_bytes.ensures.1 in
    rw p.1 (untold-at p.0 _ (λ e. absurd (never-file _ _ _ _ c.in_err-show_bytes.ensures (ap Err (sym p.2 ∙ e))))
    (λ e. absurd (never-link _ _ _ _ refl refl (c.in_err-show_bytes.ensures quiet) (ap Err (sym p.2 ∙ e)))))

pub returns-clause-ends : goal.returns-clause-ends
returns-clause-ends g c = λ w s recordings knows.
    let one = c.recorded_exchanges_are_one_list.ensures.one s recordings _ knows.recorded in
    let text : c.as_bytes.result.now ≡ audit_text s recordings =
    text-told s recordings _ _ (c.as_bytes.ensures.value ∙ c.in_ok-text.ensures s recordings knows) one in
    let balance : c.unbalanced.result ≡ balance_of s recordings =
    balance-told s recordings _ _ (c.unbalanced.ensures.first s recordings knows) one in
    rw (c.status_of.ensures.code, c.status_of.ensures.line, balance)
    (EndsWith-doing (show (audit_text s recordings) ∷ []) (status_of_balance (balance_of s recordings)) [] _ _ tt
    (told-on (balance_of s recordings)) (Ok tt) (rw text at (c.in_ok-show_bytes.ensures w)))

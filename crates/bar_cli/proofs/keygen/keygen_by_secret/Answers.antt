use Rattle.std.proofs.Common.{◌≡◌, ◌∙◌, [], Ok, Err, refl, ap, sym, length, arith, None}
use Rattle.std.proofs.lemmas.Result.{err_from_is_err_and}
use Rattle.bar_outside.specs.Plan.{with_out}
use Rattle.bar_outside.specs.Stages.Stages.{does}
use Rattle.bar_outside.proofs.Ending.{EndsWith-doing, EndsWith-unread}
use Rattle.bar_outside.proofs.StageEnds.{EndsWith-stage, EndsWith-stage_memory, EndsWith-stage_refused}
use Rattle.bar_roster.specs.KeyText.{key_text_of}
use Rattle.bar_cli.specs.Keygen.Plan.{key_made, keygen_actions, lines_of, making_end, secret_of}
use Rattle.bar_cli.specs.Refusals.{secret_refused}
use Rattle.bar_cli.specs.Code.Views.{keygen_view}
use Rattle.bar_cli.proofs.MadeFiles.{can-make, made-of}
use Rattle.bar_cli.proofs.StatusLemmas.{never-link, no-refusal, quiet, unprinted-at}
use Rattle.bar_cli.proofs.keygen.keygen_by_secret.Goals as goal

pub returns-in_err-bytes-clause-ends : goal.returns-in_err-bytes-clause-ends
returns-in_err-bytes-clause-ends g c = λ w was.
    let p = err_from_is_err_and c.from_residual.result c.from_residual.ensures.1 in
    let r = c.in_err-bytes.ensures was in
    rw (p.1, p.2, r.2) (EndsWith-unread _ _ _ _ (with_out w (g.K.Sink.stream c.args.out.now)) r.0 r.1)

pub returns-in_err-make_file-clause-ends : goal.returns-in_err-make_file-clause-ends
returns-in_err-make_file-clause-ends g c = λ w was.
    let p = err_from_is_err_and c.from_residual-in_err-make_file.result c.from_residual-in_err-make_file.ensures.1 in
    let accepted = rw c.deref.ensures.value at c.in-Some.ensures.some in
    rw (p.1, p.2) (EndsWith-stage _ secret_of 8 secret_refused (λ secret. does (making_end (keygen_view c.args.asked.now) secret)) _ _
    (with_out w (g.K.Sink.stream c.args.out.now)) _ (c.in_ok-bytes.ensures was) _ _ _ _ accepted
    (EndsWith-doing (keygen_actions (keygen_view c.args.asked.now) c.in-Some.secret) 0 [] _ _
    (can-make c.args.asked.now.key.now (key_text_of (key_made (keygen_view c.args.asked.now) c.in-Some.secret))
    (lines_of (keygen_view c.args.asked.now) c.in-Some.secret) (g.F.Files.disk c.read_file.new.files was).created_here) refl
    (Err c.in_err-make_file.field-0.0)
    (made-of c.args.asked.now.key.now _ _ _ _ _ _ _ c.in_ok-made.ensures.text c.in_ok-made.ensures.lines
    (c.in_err-make_file.ensures.follows w was))))

pub returns-clause-ends : goal.returns-clause-ends
returns-clause-ends g c = λ w was.
    let accepted = rw c.deref.ensures.value at c.in-Some.ensures.some in
    EndsWith-stage _ secret_of 8 secret_refused (λ secret. does (making_end (keygen_view c.args.asked.now) secret)) _ _
    (with_out w (g.K.Sink.stream c.args.out.now)) _ (c.in_ok-bytes.ensures was) _ _ _ _ accepted
    (EndsWith-doing (keygen_actions (keygen_view c.args.asked.now) c.in-Some.secret) 0 [] _ _
    (can-make c.args.asked.now.key.now (key_text_of (key_made (keygen_view c.args.asked.now) c.in-Some.secret))
    (lines_of (keygen_view c.args.asked.now) c.in-Some.secret) (g.F.Files.disk c.read_file.new.files was).created_here) refl
    (Ok tt)
    (made-of c.args.asked.now.key.now _ _ _ _ _ _ _ c.in_ok-made.ensures.text c.in_ok-made.ensures.lines
    (c.in_ok-make_file.ensures.follows w was)))

pub returns-in_err-bytes-clause-enough : goal.returns-in_err-bytes-clause-enough
returns-in_err-bytes-clause-enough g c =
    let p = err_from_is_err_and c.from_residual.result c.from_residual.ensures.1 in rw p.1 (no-refusal p.0)

pub returns-in_err-make_file-clause-enough : goal.returns-in_err-make_file-clause-enough
returns-in_err-make_file-clause-enough g c =
    let p = err_from_is_err_and c.from_residual-in_err-make_file.result c.from_residual-in_err-make_file.ensures.1 in
    rw p.1 (no-refusal p.0)

pub returns-in_err-make_file-clause-unprinted : goal.returns-in_err-make_file-clause-unprinted
returns-in_err-make_file-clause-unprinted g c =
    let p = err_from_is_err_and c.from_residual-in_err-make_file.result c.from_residual-in_err-make_file.ensures.1 in
    rw p.1 (unprinted-at p.0 _ (λ e. c.in_err-make_file.ensures.unprinted (ap Err (sym p.2 ∙ e)))
    (λ e. absurd (never-link _ _ _ _ refl refl (c.in_err-make_file.ensures.follows quiet (λ path. None)) (ap Err (sym p.2 ∙ e)))))

pub returns-in_default-clause-ends : goal.returns-in_default-clause-ends
returns-in_default-clause-ends g c = λ w was.
    let long : length c.deref.result.now ≡ c.len.result = grind (arith, c.deref.ensures.len, c.len.ensures) in
    let other = c.secret_of.ensures.none c.in_default.is ∙ ap Err long in
    let refused = rw c.deref.ensures.value at other in
    EndsWith-stage_refused _ secret_of 8 secret_refused (λ secret. does (making_end (keygen_view c.args.asked.now) secret)) _ _
    (with_out w (g.K.Sink.stream c.args.out.now)) _ (c.in_ok-bytes.ensures was) c.len.result refl refused

pub returns-in_err-made-clause-ends : goal.returns-in_err-made-clause-ends
returns-in_err-made-clause-ends g c = λ w was.
    let p = err_from_is_err_and c.from_residual-in_err-made.result c.from_residual-in_err-made.ensures.1 in
    rw (p.1, p.2) (EndsWith-stage_memory _ secret_of 8 secret_refused (λ secret. does (making_end (keygen_view c.args.asked.now) secret)) _ _
    (with_out w (g.K.Sink.stream c.args.out.now)) _ (c.in_ok-bytes.ensures was))

use Rattle.std.proofs.Common.{◌≡◌, Err, refl, rules}
use Rattle.std.proofs.lemmas.Result.{err_from_is_err_and}
use Rattle.bar_outside.specs.Plan.{with_files, with_out}
use Rattle.bar_outside.proofs.Ending.{EndsWith-unread}
use Rattle.bar_outside.proofs.StageEnds.{EndsWith-stage, EndsWith-stage_memory, EndsWith-stage_refused}
use Rattle.bar_judge.specs.Code.Verdicts.{plain_verdict}
use Rattle.bar_cli.specs.Judge.Judging.{verdict_of_proof}
use Rattle.bar_cli.specs.Judge.Plan.{saying}
use Rattle.bar_cli.specs.Refusals.{proof_refused}
use Rattle.bar_cli.proofs.StatusLemmas.{proof-end}
use Rattle.bar_cli.proofs.Alternatives.{second-stands}
use Rattle.bar_cli.proofs.verify.verify_session.Goals as goal

pub returns-in-Ok-clause-ends : goal.returns-in-Ok-clause-ends
returns-in-Ok-clause-ends g c = λ w was.
    EndsWith-stage _ (verdict_of_proof c.args.session.now) 8 proof_refused saying _ _ (with_out w (g.K.Sink.stream c.args.out.now)) _
    (c.in_ok-bytes.ensures was) _ _ _ _ (rw c.deref.ensures.value at c.in-Ok.ensures.ok)
    (c.say_verdict.ensures.ends (with_files w (g.F.Files.disk c.read_file.new.files was)))

pub returns-in-Ok-clause-answers : goal.returns-in-Ok-clause-answers
returns-in-Ok-clause-answers g c = proof-end (plain_verdict c.in-Ok.verdict) c.say_verdict.result c.say_verdict.ensures.code

pub returns-in_err-bytes-clause-ends : goal.returns-in_err-bytes-clause-ends
returns-in_err-bytes-clause-ends g c = λ w was.
    let p = err_from_is_err_and c.from_residual.result c.from_residual.ensures.1 in
    let r = c.in_err-bytes.ensures was in
    rw (p.1, p.2, r.2) (EndsWith-unread _ _ _ _ (with_out w (g.K.Sink.stream c.args.out.now)) r.0 r.1)

pub returns-in-Err-NoMemory-clause-ends : goal.returns-in-Err-NoMemory-clause-ends
returns-in-Err-NoMemory-clause-ends g c = λ w was.
    EndsWith-stage_memory _ (verdict_of_proof c.args.session.now) 8 proof_refused saying _ _ (with_out w (g.K.Sink.stream c.args.out.now)) _
    (c.in_ok-bytes.ensures was)

pub returns-clause-ends : goal.returns-clause-ends
returns-clause-ends g c = λ w was.
    let told : verdict_of_proof c.args.session.now c.in_ok-bytes.bytes.items ≡ Err c.in-Err.fault =
    rw c.deref.ensures.value at (second-stands c.in-Err.ensures.err (search rules))
    in
    EndsWith-stage_refused _ (verdict_of_proof c.args.session.now) 8 proof_refused saying _ _ (with_out w (g.K.Sink.stream c.args.out.now)) _
    (c.in_ok-bytes.ensures was) _ refl told

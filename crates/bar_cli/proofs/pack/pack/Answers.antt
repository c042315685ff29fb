use Rattle.std.proofs.Common.{◌≡◌, Err, refl, rules}
use Rattle.std.proofs.lemmas.Result.{err_from_is_err_and}
use Rattle.bar_outside.specs.Plan.{with_out}
use Rattle.bar_outside.proofs.Ending.{EndsWith-unread}
use Rattle.bar_outside.proofs.StageEnds.{EndsWith-stage, EndsWith-stage_memory, EndsWith-stage_refused}
use Rattle.bar_cli.specs.Refusals.{session_refused}
use Rattle.bar_session_files.specs.Accepting.{session_of}
use Rattle.bar_cli.proofs.Alternatives.{second-stands}
use Rattle.bar_cli.proofs.pack.pack.Goals as goal

pub returns-in-Ok-clause-ends : goal.returns-in-Ok-clause-ends
returns-in-Ok-clause-ends g c = λ w was.
    EndsWith-stage _ session_of 4 session_refused _ _ _ (with_out w (g.K.Sink.stream c.args.out.now)) _ (c.in_ok-text.ensures was) _ _ _ _
    (rw c.deref.ensures.value at c.in-Ok.ensures.ok) (c.pack_session.ensures.ends w was)

pub returns-in_err-text-clause-ends : goal.returns-in_err-text-clause-ends
returns-in_err-text-clause-ends g c = λ w was.
    let p = err_from_is_err_and c.from_residual.result c.from_residual.ensures.1 in
    let r = c.in_err-text.ensures was in
    rw (p.1, p.2, r.2) (EndsWith-unread _ _ _ _ (with_out w (g.K.Sink.stream c.args.out.now)) r.0 r.1)

pub returns-in-Err-NoMemory-clause-ends : goal.returns-in-Err-NoMemory-clause-ends
returns-in-Err-NoMemory-clause-ends g c = λ w was.
    EndsWith-stage_memory _ session_of 4 session_refused _ _ _ (with_out w (g.K.Sink.stream c.args.out.now)) _ (c.in_ok-text.ensures was)

pub returns : goal.returns
returns g c =
    let told : session_of c.in_ok-text.text.items ≡ Err c.in-Err.fault =
    rw c.deref.ensures.value at (second-stands c.in-Err.ensures.err (search rules))
    in
    record {
      ends = λ w was.
          EndsWith-stage_refused _ session_of 4 session_refused _ _ _ (with_out w (g.K.Sink.stream c.args.out.now)) _
          (c.in_ok-text.ensures was) _ refl told;
      answers = refl;
      unprinted = λ quiet. refl;
    }

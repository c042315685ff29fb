use Rattle.std.proofs.Common.{◌≡◌, Err, refl, rules}
use Rattle.std.proofs.lemmas.Result.{err_from_is_err_and}
use Rattle.bar_roster.specs.declared.fault.SessionFault.TheVariants.{NoMemory}
use Rattle.bar_session_files.specs.Accepting.{session_of}
use Rattle.bar_session_files.specs.Refusals.{session_refused}
use Rattle.bar_party_commands.proofs.RunEnding.{accepted-so, other-fault, refused-so, unmeant, unread}
use Rattle.bar_party_commands.proofs.caster_command.broadcaster.Goals as goal

pub returns-in_err-text-clause-ends : goal.returns-in_err-text-clause-ends
returns-in_err-text-clause-ends g c = λ was.
    let p = err_from_is_err_and c.from_residual.result c.from_residual.ensures.1 in
    let r = c.in_err-text.ensures was in
    rw (p.1, p.2, r.2) (unread _ session_of 4 session_refused _ _ _ _ _ r.0 r.1)

pub returns-in-Ok-clause-ends : goal.returns-in-Ok-clause-ends
returns-in-Ok-clause-ends g c = λ was.
    accepted-so _ session_of 4 session_refused _ _ _ _ _ c.in_ok-text.text (c.in_ok-text.ensures was) _ _ _ _
    (rw c.deref.ensures.value at c.in-Ok.ensures.ok) (c.cast_in_session.ensures.ends was)

pub returns-in-Err-NoMemory-clause-ends : goal.returns-in-Err-NoMemory-clause-ends
returns-in-Err-NoMemory-clause-ends g c = λ was.
    unmeant _ session_of 4 session_refused _ _ _ _ _ c.in_ok-text.text (c.in_ok-text.ensures was)

pub returns : goal.returns
returns g c =
    let told : session_of c.in_ok-text.text.items ≡ Err c.in-Err.fault =
    rw c.deref.ensures.value at (other-fault c.in-Err.fault NoMemory _ c.in-Err.ensures.err (search rules))
    in
    record {
      ends = λ was.
          refused-so _ session_of 4 session_refused _ _ _ _ _ c.in_ok-text.text (c.in_ok-text.ensures was) c.in-Err.fault told refl;
      unprinted = λ quiet. refl;
    }

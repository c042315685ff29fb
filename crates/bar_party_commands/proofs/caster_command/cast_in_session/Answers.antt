use Rattle.std.proofs.Common.{◌≡◌, Err, refl, rules, true}
use Rattle.std.proofs.lemmas.Result.{err_from_is_err_and}
use Rattle.bar_roster.specs.declared.key_fault.KeyFileFault.TheVariants.{NoMemory}
use Rattle.bar_session_files.specs.Accepting.{fresh_key_of}
use Rattle.bar_session_files.specs.Refusals.{key_refused}
use Rattle.bar_party_commands.proofs.RunEnding.{accepted-so, other-fault, refused-so, unmeant, unread}
use Rattle.bar_party_commands.proofs.caster_command.cast_in_session.Goals as goal

pub returns-in_err-bytes-clause-ends : goal.returns-in_err-bytes-clause-ends
returns-in_err-bytes-clause-ends g c = λ was.
    let p = err_from_is_err_and c.from_residual.result c.from_residual.ensures.1 in
    let r = c.in_err-bytes.ensures was in
    rw (p.1, p.2, r.2) (unread _ (fresh_key_of true c.args.session) 5 key_refused _ _ _ _ _ r.0 r.1)

pub returns-in-Ok-clause-ends : goal.returns-in-Ok-clause-ends
returns-in-Ok-clause-ends g c = λ was.
    accepted-so _ (fresh_key_of true c.args.session) 5 key_refused _ _ _ _ _ c.in_ok-bytes.bytes (c.in_ok-bytes.ensures was) _ _ _ _
    (rw c.deref.ensures.value at c.in-Ok.ensures.ok) (c.cast_stream.ensures.ends was)

pub returns-in-Err-NoMemory-clause-ends : goal.returns-in-Err-NoMemory-clause-ends
returns-in-Err-NoMemory-clause-ends g c = λ was.
    unmeant _ (fresh_key_of true c.args.session) 5 key_refused _ _ _ _ _ c.in_ok-bytes.bytes (c.in_ok-bytes.ensures was)

pub returns : goal.returns
returns g c =
    let told : fresh_key_of true c.args.session c.in_ok-bytes.bytes.items ≡ Err c.in-Err.fault =
    rw c.deref.ensures.value at (other-fault c.in-Err.fault NoMemory _ c.in-Err.ensures.err (search rules))
    in
    record {
      ends = λ was.
          refused-so _ (fresh_key_of true c.args.session) 5 key_refused _ _ _ _ _
          c.in_ok-bytes.bytes (c.in_ok-bytes.ensures was) c.in-Err.fault told refl;
      unprinted = λ quiet. refl;
    }

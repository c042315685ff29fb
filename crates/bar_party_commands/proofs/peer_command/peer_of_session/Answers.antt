use Rattle.std.proofs.Common.{◌≡◌, ◌∙◌, Err, Ok, ap, arith, false, refl, rules, sym}
use Rattle.std.proofs.lemmas.Result.{err_from_is_err_and}
use Rattle.bar_roster.specs.declared.key_fault.KeyFileFault.TheVariants.{NoMemory}
use Rattle.bar_session_files.specs.Accepting.{fresh_key_of}
use Rattle.bar_party_commands.specs.PeerPlan.{peer_actions, rules_by}
use Rattle.bar_session_files.specs.Refusals.{key_refused}
use Rattle.bar_party_commands.specs.Code.Views.{peer_view}
use Rattle.bar_party_commands.proofs.Adding.{can-peer}
use Rattle.bar_party_commands.proofs.RunEnding.{accepted-so, following, other-fault, refused-so, unmeant, unread}
use Rattle.bar_party_commands.proofs.Unprinted.{unprinted-at}
use Rattle.bar_party_commands.proofs.peer_command.peer_of_session.Goals as goal

pub returns-in_err-bytes-clause-ends : goal.returns-in_err-bytes-clause-ends
returns-in_err-bytes-clause-ends g c = λ was.
    let p = err_from_is_err_and c.from_residual.result c.from_residual.ensures.1 in
    let r = c.in_err-bytes.ensures was in
    rw (p.1, p.2, r.2) (unread _ (fresh_key_of false c.args.session) 5 key_refused _ _ _ _ _ r.0 r.1)

pub returns-in_err-peer_of_key-in-Ok-clause-ends : goal.returns-in_err-peer_of_key-in-Ok-clause-ends
returns-in_err-peer_of_key-in-Ok-clause-ends g c = λ was.
    let p = err_from_is_err_and c.from_residual-in_err-peer_of_key-in-Ok.result c.from_residual-in_err-peer_of_key-in-Ok.ensures.1 in
    rw (p.1, p.2)
    (accepted-so _ (fresh_key_of false c.args.session) 5 key_refused _ _ _ _ _
    c.in_ok-bytes.bytes (c.in_ok-bytes.ensures was) c.in-Ok.key.secrets _ _ _
    (rw c.deref.ensures.value at c.in-Ok.ensures.ok)
    (following (peer_actions (peer_view c.args.names.now) c.args.session c.in-Ok.key.secrets)
    (rules_by c.args.session c.in-Ok.key.secrets) _ _ (Err c.in_err-peer_of_key-in-Ok.field-0.0)
    (can-peer (peer_view c.args.names.now) c.args.session c.in-Ok.key.secrets)
    (c.in_err-peer_of_key-in-Ok.ensures.follows was)))

pub returns-in_err-peer_of_key-in-Ok-clause-unprinted : goal.returns-in_err-peer_of_key-in-Ok-clause-unprinted
returns-in_err-peer_of_key-in-Ok-clause-unprinted g c =
    let p = err_from_is_err_and c.from_residual-in_err-peer_of_key-in-Ok.result c.from_residual-in_err-peer_of_key-in-Ok.ensures.1 in
    rw p.1
    (unprinted-at p.0 _ (λ e. c.in_err-peer_of_key-in-Ok.ensures.unprinted (ap Err (sym p.2 ∙ e)))
    (λ e. c.in_err-peer_of_key-in-Ok.ensures.quiet (ap Err (sym p.2 ∙ e))))

pub returns-in-Ok-clause-ends : goal.returns-in-Ok-clause-ends
returns-in-Ok-clause-ends g c = λ was.
    accepted-so _ (fresh_key_of false c.args.session) 5 key_refused _ _ _ _ _
    c.in_ok-bytes.bytes (c.in_ok-bytes.ensures was) c.in-Ok.key.secrets _ _ _
    (rw c.deref.ensures.value at c.in-Ok.ensures.ok)
    (following (peer_actions (peer_view c.args.names.now) c.args.session c.in-Ok.key.secrets)
    (rules_by c.args.session c.in-Ok.key.secrets) _ _ (Ok tt)
    (can-peer (peer_view c.args.names.now) c.args.session c.in-Ok.key.secrets) (c.in_ok-peer_of_key-in-Ok.ensures.follows was))

pub returns-in-Err-NoMemory-clause-ends : goal.returns-in-Err-NoMemory-clause-ends
returns-in-Err-NoMemory-clause-ends g c = λ was.
    unmeant _ (fresh_key_of false c.args.session) 5 key_refused _ _ _ _ _ c.in_ok-bytes.bytes (c.in_ok-bytes.ensures was)

pub returns : goal.returns
returns g c =
    let told : fresh_key_of false c.args.session c.in_ok-bytes.bytes.items ≡ Err c.in-Err.fault =
    rw c.deref.ensures.value at (other-fault c.in-Err.fault NoMemory _ c.in-Err.ensures.err (search rules))
    in
    record {
      ends = λ was.
          refused-so _ (fresh_key_of false c.args.session) 5 key_refused _ _ _ _ _
          c.in_ok-bytes.bytes (c.in_ok-bytes.ensures was) c.in-Err.fault told refl;
      answers = λ e. absurd (omega arith);
      unprinted = λ quiet. refl;
    }

use Rattle.std.proofs.Common.{◌≡◌, ◌⊎◌, inl, inr, false, refl}
use Rattle.std.proofs.lemmas.Bool.{false≢true}
use denote.Enum.Bare.{sameb}
use Rattle.bar_roster.specs.contracts.key_fault.KeyFileFault.{the_type}
use Rattle.bar_roster.specs.declared.key_fault.KeyFileFault.{KeyFileFault}
use Rattle.bar_roster.specs.declared.key_fault.KeyFileFault.TheVariants.{NoMemory}
use Rattle.bar_cli.specs.Refusals.{key_refused}
use Rattle.std.proofs.lemmas.Result.{err_from_is_err_and}
use Rattle.bar_outside.specs.Plan.{with_out}
use Rattle.bar_outside.proofs.Ending.{EndsWith-unread}
use Rattle.bar_outside.proofs.StageEnds.{EndsWith-stage, EndsWith-stage_memory, EndsWith-stage_refused}
use Rattle.bar_session_files.specs.Accepting.{secrets_of_key}
use Rattle.bar_cli.proofs.replay.replay_session.Goals as goal

-- a fault that the test distinguishes from running out of memory
is-other : (fault : KeyFileFault) (P : Type 0) → false ≡ sameb the_type fault NoMemory → (fault ≡ NoMemory) ⊎ P → P
is-other fault P test (inl e) = absurd (false≢true (rw e at test))
is-other fault P test (inr p) = p

pub returns-in-Ok-clause-ends : goal.returns-in-Ok-clause-ends
returns-in-Ok-clause-ends g c = λ w was.
    EndsWith-stage _ (secrets_of_key c.args.session) 5 key_refused _ _ _ (with_out w (g.K.Sink.stream c.args.out.now)) _
    (c.in_ok-bytes.ensures was) _ _ _ _ (rw c.deref.ensures.value at c.in-Ok.ensures.ok) (c.replay_key.ensures.ends w was)

pub returns-in_err-bytes-clause-ends : goal.returns-in_err-bytes-clause-ends
returns-in_err-bytes-clause-ends g c = λ w was.
    let p = err_from_is_err_and c.from_residual.result c.from_residual.ensures.1 in
    let r = c.in_err-bytes.ensures was in
    rw (p.1, p.2, r.2) (EndsWith-unread _ _ _ _ (with_out w (g.K.Sink.stream c.args.out.now)) r.0 r.1)

pub returns-then-eq-clause-ends : goal.returns-then-eq-clause-ends
returns-then-eq-clause-ends g c = λ w was.
    EndsWith-stage_memory _ (secrets_of_key c.args.session) 5 key_refused _ _ _ (with_out w (g.K.Sink.stream c.args.out.now)) _
    (c.in_ok-bytes.ensures was)

pub returns-else-eq-clause-ends : goal.returns-else-eq-clause-ends
returns-else-eq-clause-ends g c = λ w was.
    let refused = is-other _ _ (c.if-eq.ensures) (c.in-Err.ensures.err) in
    EndsWith-stage_refused _ (secrets_of_key c.args.session) 5 key_refused _ _ _ (with_out w (g.K.Sink.stream c.args.out.now)) _
    (c.in_ok-bytes.ensures was) _ refl (rw c.deref.ensures.value at refused)

use Rattle.std.proofs.Common.{◌<◌, ◌≤◌, ◌∙◌, Err, subst, arith}
use Rattle.std.proofs.lemmas.Result.{err_from_is_err_and}
use Rattle.bar_outside.specs.Disk.{Reads}
use Rattle.bar_record.specs.Code.Inputs.{inputs_left}
use Rattle.bar_cli.specs.Code.Views.{audit_view}
use Rattle.bar_cli.proofs.AuditLemmas.{count, gathered-all, gathered-late, gathered-memory, gathered-more, gathered-none, gathered-refused, gathered-unread}
use Rattle.bar_cli.proofs.audit.recordings.read_recordings.Goals as goal

pub loop-place-init : goal.loop-place-init
loop-place-init g c = λ was. gathered-none (audit_view c.args.names.now) c.args.session.now _ _ (c.make-audit.ensures c.args.session.now)

pub returns-in_err-name : goal.returns-in_err-name
returns-in_err-name g c = λ w was.
    let p = err_from_is_err_and c.from_residual.result c.from_residual.ensures.1 in
    rw (p.1, p.2) (gathered-memory _ _ _ _ _ _ (c.loop-place.invariant was) w)

pub returns-in_err-bytes : goal.returns-in_err-bytes
returns-in_err-bytes g c = λ w was.
    let within : c.loop-place.place < count (audit_view c.args.names.now) = omega (arith, c.loop-place-test.true) in
    let p = err_from_is_err_and c.from_residual-in_err-bytes.result c.from_residual-in_err-bytes.ensures.1 in
    let r = c.in_err-bytes.ensures was in
    rw (p.1, p.2, r.2)
    (gathered-unread _ _ _ _ _ _ (c.loop-place.invariant was) within _ r.0
    (subst (λ path. Reads path (g.F.Files.disk c.loop-place.files was) (g.F.Files.disk c.read_file.new.files was) (Err r.0))
    (c.as_str.ensures.value ∙ c.in_ok-name.ensures) r.1) w)

pub returns-in-Err : goal.returns-in-Err
returns-in-Err g c = λ w was.
    let within : c.loop-place.place < count (audit_view c.args.names.now) = omega (arith, c.loop-place-test.true) in
    gathered-refused _ _ _ _ _ _ (c.loop-place.invariant was) within _ c.in_ok-bytes.bytes
    (rw (c.as_str.ensures.value ∙ c.in_ok-name.ensures) at (c.in_ok-bytes.ensures was)) c.in-Err.fault
    (rw c.deref.ensures.value at c.in-Err.ensures.refused) w

pub returns-in_default : goal.returns-in_default
returns-in_default g c = λ w was.
    let within : c.loop-place.place < count (audit_view c.args.names.now) = omega (arith, c.loop-place-test.true) in
    gathered-late _ _ _ _ _ _ (c.loop-place.invariant was) within _ c.in_ok-bytes.bytes
    (rw (c.as_str.ensures.value ∙ c.in_ok-name.ensures) at (c.in_ok-bytes.ensures was)) w

pub loop-place-preserved : goal.loop-place-preserved
loop-place-preserved g c = λ was.
    let within : c.loop-place.place < count (audit_view c.args.names.now) = omega (arith, c.loop-place-test.true) in
    gathered-more _ _ _ _ _ _ (c.loop-place.invariant was) within _ c.in_ok-bytes.bytes
    (rw (c.as_str.ensures.value ∙ c.in_ok-name.ensures) at (c.in_ok-bytes.ensures was)) (inputs_left c.in-Ok.items) _
    (rw c.deref.ensures.value at c.in-Ok.ensures.listed) c.in-Ok-add_recording.ensures

pub returns : goal.returns
returns g c = λ w was.
    let past : count (audit_view c.args.names.now) ≤ c.loop-place.place = omega (arith, c.loop-place-test.false) in
    ((c.loop-place.invariant was).recordings, (c.loop-place.invariant was).knows, gathered-all _ _ _ _ _ _ (c.loop-place.invariant was) past w)

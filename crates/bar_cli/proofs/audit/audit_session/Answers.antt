use Rattle.std.proofs.Common.{true, false, rules, tests}
use Rattle.std.proofs.lemmas.Result.{err_from_is_err_and}
use Rattle.bar_outside.specs.Plan.{with_files, with_out}
use Rattle.bar_cli.specs.Code.Views.{audit_view}
use Rattle.bar_cli.proofs.AuditLemmas.{accepted-parties, range-is, refused-parties}
use Rattle.bar_cli.proofs.audit.audit_session.Goals as goal

pub returns-then-not-is_range-clause-ends : goal.returns-then-not-is_range-clause-ends
returns-then-not-is_range-clause-ends g c = λ w was.
    let names = audit_view c.args.names.now in
    refused-parties names c.args.session.now _
    (range-is names _ _ _ false c.shape.ensures.value c.is_range.ensures (search (rules, tests)))

pub returns-in_err-audit-clause-ends : goal.returns-in_err-audit-clause-ends
returns-in_err-audit-clause-ends g c = λ w was.
    let p = err_from_is_err_and c.from_residual.result c.from_residual.ensures.1 in
    let names = audit_view c.args.names.now in
    rw (p.1, p.2)
    (accepted-parties names c.args.session.now _ _ _ _
    (range-is names _ _ _ true c.shape.ensures.value c.is_range.ensures (search (rules, tests)))
    (c.in_err-audit.ensures (with_out w (g.K.Sink.stream c.args.out.now)) was))

pub returns-in-Ok-clause-ends : goal.returns-in-Ok-clause-ends
returns-in-Ok-clause-ends g c = λ w was.
    let names = audit_view c.args.names.now in
    let r = rw c.in-Ok.is at (c.in_ok-audit.ensures (with_out w (g.K.Sink.stream c.args.out.now)) was) in
    accepted-parties names c.args.session.now _ _ _ _
    (range-is names _ _ _ true c.shape.ensures.value c.is_range.ensures (search (rules, tests)))
    (r.2 _ _ _ (c.tell.ensures.ends (with_files w (g.F.Files.disk c.read_recordings.new.files was)) c.args.session.now r.0 r.1))

pub returns-in-Err-clause-ends : goal.returns-in-Err-clause-ends
returns-in-Err-clause-ends g c = λ w was.
    let names = audit_view c.args.names.now in
    accepted-parties names c.args.session.now _ _ _ _
    (range-is names _ _ _ true c.shape.ensures.value c.is_range.ensures (search (rules, tests)))
    (rw c.in-Err.is at (c.in_ok-audit.ensures (with_out w (g.K.Sink.stream c.args.out.now)) was))

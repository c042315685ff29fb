use Rattle.std.proofs.Common.{refl}
use Rattle.bar_outside.proofs.StageRows.{refusal}
use Rattle.bar_cli.specs.Audit.Plan.{audit_stages}
use Rattle.bar_cli.specs.Refusals.{recording_refused}
use Rattle.bar_cli.proofs.AuditRows.{audit-order, bad-recording_comes}
use Rattle.bar_cli.proofs.audit.laws.an_audit_refuses_bad_parties_and_recordings.Goals as goal

pub returns-clause-only : goal.returns-clause-only
returns-clause-only c = λ names old new ends told.
    ((audit-order names old new 8 told (c.stages_go_in_order.ensures.goes (audit_stages names) old new 8 ends told)).refused refl refl refl).1

pub returns-clause-recording : goal.returns-clause-recording
returns-clause-recording c = λ names fault old new status ends told bad.
    (c.stages_go_in_order.ensures.goes (audit_stages names) old new status ends told).stopped (refusal 8 (recording_refused fault))
    (bad-recording_comes names old.files.content fault bad)

pub returns-clause-recording_line : goal.returns-clause-recording_line
returns-clause-recording_line c = λ names content fault bad.
    c.stages_go_in_order.ensures.line (audit_stages names) content (refusal 8 (recording_refused fault))
    (bad-recording_comes names content fault bad) refl

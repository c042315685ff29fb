use Rattle.std.proofs.Common.{refl}
use Rattle.bar_outside.proofs.StageRows.{named-within, never-stops}
use Rattle.bar_cli.specs.Audit.Plan.{IsAuditCall, audit_stages}
use Rattle.bar_cli.proofs.AuditRows.{audit-order, no-recording, within}
use Rattle.bar_cli.proofs.audit.laws.an_audit_fails_only.Goals as goal

pub returns-clause-named : goal.returns-clause-named
returns-clause-named c = λ names old new ends told.
    named-within (IsAuditCall names) (audit_stages names) new.files.failed (within names)
    ((c.stages_go_in_order.ensures.goes (audit_stages names) old new 3 ends told).named refl)

pub returns-clause-in_order : goal.returns-clause-in_order
returns-clause-in_order c = λ names old new ends told.
    let a = (audit-order names old new 7 told (c.stages_go_in_order.ensures.goes (audit_stages names) old new 7 ends told)).at_output refl in
    record { accepted = a.0; printed = a.1.front }

pub returns-clause-no_recording : goal.returns-clause-no_recording
returns-clause-no_recording c = λ names s party old new status ends told next none.
    never-stops (audit_stages names) old new status (no-recording names old.files.content s party next none)
    (c.stages_go_in_order.ensures.goes (audit_stages names) old new status ends told).gone

use Rattle.std.proofs.Common.{refl}
use Rattle.bar_cli.specs.Audit.Plan.{audit_stages}
use Rattle.bar_cli.proofs.AuditRows.{audit-order}
use Rattle.bar_cli.proofs.audit.laws.an_audit_refuses_a_bad_session.Goals as goal

pub returns-clause-only : goal.returns-clause-only
returns-clause-only c = λ names old new ends told.
    ((audit-order names old new 4 told (c.stages_go_in_order.ensures.goes (audit_stages names) old new 4 ends told)).refused refl refl refl).1

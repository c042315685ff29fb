use Rattle.std.proofs.Common.{inl, inr}
use Rattle.bar_cli.specs.Audit.Plan.{audit_stages}
use Rattle.bar_cli.proofs.AuditRows.{audit-order}
use Rattle.bar_cli.proofs.audit.laws.a_front_of_an_audit_is_printed.Goals as goal

pub returns : goal.returns
returns c = λ names old new status ends told.
    elim (audit-order names old new status told (c.stages_go_in_order.ensures.goes (audit_stages names) old new status ends told)).front
    [ inl none ↦ inl none | inr a ↦ inr (record { accepted = a.0; printed = a.1.front }) ]

use Rattle.std.proofs.Common.{◌≡◌, ◌⊎◌, subst}
use Rattle.bar_outside.proofs.Stages.{status-comes}
use Rattle.bar_outside.proofs.Unlinked.{done-unlinked}
use Rattle.bar_cli.specs.Audit.Plan.{audit_plan, audit_stages}
use Rattle.bar_cli.proofs.AuditRows.{audit_end, told-comes, unlinked-plan}
use Rattle.bar_cli.proofs.audit.laws.an_audit_is_told_where_all_is_accepted.Goals as goal

pub returns : goal.returns
returns c = record {
  without_faults = λ names old new status ends told a no_file no_output.
      subst (λ final. (status ≡ final) ⊎ (status ≡ 70))
      (status-comes (audit_stages names) old.files.content (audit_end names old.files.content a) (told-comes names old.files.content a))
      (done-unlinked (audit_plan names) old new status ends told (unlinked-plan names old.files.content) no_file no_output);
  reliable = λ names old new status ends reliable told a.
      (c.stages_go_in_order.ensures.goes (audit_stages names) old new status ends told).reliable (audit_end names old.files.content a)
      (told-comes names old.files.content a) reliable;
}

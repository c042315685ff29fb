use Rattle.bar_cli.specs.Audit.Audited.{balance_in}
use Rattle.bar_cli.specs.Audit.Plan.{audit_stages}
use Rattle.bar_cli.proofs.AuditRows.{audit_end, balanced, told-comes, told-on, unbalanced}
use Rattle.bar_cli.proofs.audit.laws.an_audit_is_told.Goals as goal

pub returns : goal.returns
returns c =
    let law = c.stages_go_in_order.ensures in
    let listed = c.recorded_exchanges_are_one_list.ensures.listed in
    let paid = c.keys_are_paid.ensures in
    record {
      balanced = λ names old new ends told. balanced listed paid names old new told (law.goes (audit_stages names) old new 0 ends told);
      unbalanced = λ names old new ends told. unbalanced listed paid names old new told (law.goes (audit_stages names) old new 1 ends told);
      then = λ names old new status ends told a.
          (law.goes (audit_stages names) old new status ends told).stopped (audit_end names old.files.content a)
          (told-comes names old.files.content a);
      line = λ names content a.
          law.line (audit_stages names) content (audit_end names content a) (told-comes names content a) (told-on (balance_in names content a));
    }

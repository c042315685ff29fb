use Rattle.std.proofs.Common.{refl}
use Rattle.bar_cli.specs.Audit.Plan.{audit_stages}
use Rattle.bar_cli.proofs.AuditRows.{audit-order, stays}
use Rattle.bar_cli.proofs.audit.laws.an_audit_stays.Goals as goal

pub returns : goal.returns
returns c =
    let goes = c.stages_go_in_order.ensures.goes in
    record {
      stays = λ names old new status ends told.
          stays names old new status told (goes (audit_stages names) old new status ends told)
          c.recorded_exchanges_are_one_list.ensures.listed c.runs_are_balanced.ensures;
      session = λ names old new ends told.
          ((audit-order names old new 4 told (goes (audit_stages names) old new 4 ends told)).refused refl refl refl).0.out;
      input = λ names old new ends told.
          ((audit-order names old new 8 told (goes (audit_stages names) old new 8 ends told)).refused refl refl refl).0.out;
    }

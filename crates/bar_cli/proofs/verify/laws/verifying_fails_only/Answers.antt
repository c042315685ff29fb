use Rattle.std.proofs.Common.{refl}
use Rattle.bar_outside.proofs.StageRows.{named-within}
use Rattle.bar_cli.specs.Verify.{IsVerifyCall, verify_stages}
use Rattle.bar_cli.proofs.VerifyRows.{verify-order, within}
use Rattle.bar_cli.proofs.verify.laws.verifying_fails_only.Goals as goal

pub returns-clause-named : goal.returns-clause-named
returns-clause-named c = λ names old new ends told.
    named-within (IsVerifyCall names) (verify_stages names) new.files.failed (within names)
    ((c.stages_go_in_order.ensures.goes (verify_stages names) old new 3 ends told).named refl)

pub returns-clause-in_order : goal.returns-clause-in_order
returns-clause-in_order c = λ names old new ends told.
    let a = (verify-order names old new 7 told (c.stages_go_in_order.ensures.goes (verify_stages names) old new 7 ends told)).at_output refl in
    record { verdict = a.0.0; accepted = a.0.1; printed = a.1.front }

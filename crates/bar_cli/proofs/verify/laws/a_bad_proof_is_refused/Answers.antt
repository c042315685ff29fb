use Rattle.std.proofs.Common.{refl}
use Rattle.bar_cli.specs.Verify.{verify_stages}
use Rattle.bar_cli.proofs.VerifyRows.{verify-order}
use Rattle.bar_cli.proofs.verify.laws.a_bad_proof_is_refused.Goals as goal

pub returns-clause-only : goal.returns-clause-only
returns-clause-only c = λ names old new ends told.
    ((verify-order names old new 8 told (c.stages_go_in_order.ensures.goes (verify_stages names) old new 8 ends told)).refused refl refl refl).1

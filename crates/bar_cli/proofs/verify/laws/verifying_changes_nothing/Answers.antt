use Rattle.std.proofs.Common.{refl}
use Rattle.bar_cli.specs.Verify.{verify_stages}
use Rattle.bar_cli.proofs.VerifyRows.{verify-order}
use Rattle.bar_cli.proofs.verify.laws.verifying_changes_nothing.Goals as goal

pub returns : goal.returns
returns c =
    let goes = c.stages_go_in_order.ensures.goes in
    record {
      files = λ names old new status ends told. (verify-order names old new status told (goes (verify_stages names) old new status ends told)).files;
      session = λ names old new ends told.
          ((verify-order names old new 4 told (goes (verify_stages names) old new 4 ends told)).refused refl refl refl).0.out;
      proof = λ names old new ends told.
          ((verify-order names old new 8 told (goes (verify_stages names) old new 8 ends told)).refused refl refl refl).0.out;
    }

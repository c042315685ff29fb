use Rattle.std.proofs.Common.{inl, inr}
use Rattle.bar_cli.specs.Verify.{verify_stages}
use Rattle.bar_cli.proofs.VerifyRows.{verify-order}
use Rattle.bar_cli.proofs.verify.laws.a_front_of_the_proofs_verdict_is_printed.Goals as goal

pub returns : goal.returns
returns c = λ names old new status ends told.
    elim (verify-order names old new status told (c.stages_go_in_order.ensures.goes (verify_stages names) old new status ends told)).front
    [ inl none ↦ inl none | inr a ↦ inr (record { verdict = a.0.0; accepted = a.0.1; printed = a.1.front }) ]

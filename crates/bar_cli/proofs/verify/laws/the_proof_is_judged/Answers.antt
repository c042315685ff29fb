use Rattle.std.proofs.Common.{inl, inr, refl}
use Rattle.bar_cli.specs.Verify.{Verified, verify_stages}
use Rattle.bar_cli.proofs.JudgeRows.{not_shown-so, shown-so}
use Rattle.bar_cli.proofs.VerifyRows.{verified}
use Rattle.bar_cli.proofs.verify.laws.the_proof_is_judged.Goals as goal

pub returns-clause-shown : goal.returns-clause-shown
returns-clause-shown c = λ names old new ends told.
    shown-so (λ v. Verified names v old new)
    (verified names old new 0 told (c.stages_go_in_order.ensures.goes (verify_stages names) old new 0 ends told) c.proofs_are_spelled.ensures
    (inl refl))

pub returns-clause-not_shown : goal.returns-clause-not_shown
returns-clause-not_shown c = λ names old new ends told.
    not_shown-so (λ v. Verified names v old new)
    (verified names old new 1 told (c.stages_go_in_order.ensures.goes (verify_stages names) old new 1 ends told) c.proofs_are_spelled.ensures
    (inr refl))

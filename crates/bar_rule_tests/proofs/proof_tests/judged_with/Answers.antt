use Rattle.std.proofs.Common.{◌∙◌, sym}
use Rattle.bar_rule_tests.proofs.proof_tests.judged_with.Goals as goal

pub judge_proof-requires-clause-verifier : goal.judge_proof-requires-clause-verifier
judge_proof-requires-clause-verifier g c = c.of-verifier.ensures.accepts

pub judge_proof-requires-clause-leaves : goal.judge_proof-requires-clause-leaves
judge_proof-requires-clause-leaves g c =
    record { names = c.of-verifier.ensures.names; length_is = c.of-verifier.ensures.length ∙ sym c.shape.ensures.session.signatures }

use Rattle.std.proofs.Common.{◌∙◌, sym}
use Rattle.bar_rule_tests.proofs.proof_tests.packed_with.Goals as goal

pub pack-requires-clause-verifier : goal.pack-requires-clause-verifier
pack-requires-clause-verifier g c = c.of-verifier.ensures.accepts

pub pack-requires-clause-leaves : goal.pack-requires-clause-leaves
pack-requires-clause-leaves g c =
    record { names = c.of-verifier.ensures.names; length_is = c.of-verifier.ensures.length ∙ sym c.shape.ensures.session.signatures }

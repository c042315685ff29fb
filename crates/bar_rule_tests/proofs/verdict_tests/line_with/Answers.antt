use Rattle.std.proofs.Common.{◌∙◌, sym}
use Rattle.bar_rule_tests.proofs.verdict_tests.line_with.Goals as goal

pub verdict-verdict-requires-clause-verifier : goal.verdict-verdict-requires-clause-verifier
verdict-verdict-requires-clause-verifier g c = c.of-verifier.ensures.accepts

pub verdict-verdict-requires-clause-leaves : goal.verdict-verdict-requires-clause-leaves
verdict-verdict-requires-clause-leaves g c =
    record { names = c.of-verifier.ensures.names; length_is = c.of-verifier.ensures.length ∙ sym c.shape.ensures.session.signatures }

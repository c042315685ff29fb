use Rattle.bar_rule_tests.proofs.audit_tests.add.Goals as goal

pub add-requires : goal.add-requires
add-requires g c = record { verifier = c.of-verifier.ensures.accepts }

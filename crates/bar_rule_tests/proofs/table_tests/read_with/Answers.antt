use Rattle.bar_rule_tests.proofs.table_tests.read_with.Goals as goal

pub read_table-requires : goal.read_table-requires
read_table-requires g c = c.of-verifier.ensures.accepts

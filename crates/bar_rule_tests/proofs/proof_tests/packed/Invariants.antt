use Rattle.bar_rule_tests.proofs.proof_tests.packed.Given as goal

abbrev pub ghosts-packed_with : goal.ghosts-packed_with
ghosts-packed_with a = record { name = a.blank.name; parts = a.blank.parts }

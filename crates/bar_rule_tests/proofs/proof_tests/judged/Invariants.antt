use Rattle.bar_rule_tests.proofs.proof_tests.judged.Given as goal

abbrev pub ghosts-judged_with : goal.ghosts-judged_with
ghosts-judged_with a = record { name = a.blank.name; parts = a.blank.parts }

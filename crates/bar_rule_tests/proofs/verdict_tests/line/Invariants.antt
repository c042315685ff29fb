use Rattle.bar_rule_tests.proofs.verdict_tests.line.Given as goal

abbrev pub ghosts-line_with : goal.ghosts-line_with
ghosts-line_with a = record { name = a.blank.name; parts = a.blank.parts }

use Rattle.bar_rule_tests.proofs.table_tests.read.Given as goal

abbrev pub ghosts-read_with : goal.ghosts-read_with
ghosts-read_with a = record { name = a.blank.name; parts = a.blank.parts }

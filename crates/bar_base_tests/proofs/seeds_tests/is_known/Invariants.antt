use Rattle.bar_base_tests.proofs.seeds_tests.is_known.Given as goal

abbrev pub ghosts-is_known_from : goal.ghosts-is_known_from
ghosts-is_known_from a = record { name = a.blank.name; parts = a.blank.parts }

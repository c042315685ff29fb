use Rattle.bar_base_tests.proofs.seeds_tests.is_seed.Given as goal

abbrev pub ghosts-is_seed_from : goal.ghosts-is_seed_from
ghosts-is_seed_from a = record { name = a.blank.name; parts = a.blank.parts }

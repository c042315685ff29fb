use Rattle.bar_base_tests.proofs.seal_tests.is_checked.Given as goal

abbrev pub ghosts-check_counted : goal.ghosts-check_counted
ghosts-check_counted g a = record { name = a.blank.name; parts = a.blank.parts }

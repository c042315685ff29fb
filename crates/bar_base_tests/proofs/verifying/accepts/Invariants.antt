use Rattle.bar_base_tests.proofs.verifying.accepts.Given as goal

abbrev pub ghosts-is_counted : goal.ghosts-is_counted
ghosts-is_counted g a = record { name = a.blank.name; parts = a.blank.parts }

use Rattle.bar_keys.proofs.accepts.Given as goal

abbrev pub ghosts-is_counted : goal.ghosts-is_counted
ghosts-is_counted a = record { name = a.blank.name; parts = a.blank.parts }

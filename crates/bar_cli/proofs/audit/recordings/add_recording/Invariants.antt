use Rattle.bar_cli.proofs.audit.recordings.add_recording.Given as goal

abbrev pub ghosts-add_counted : goal.ghosts-add_counted
ghosts-add_counted a = record { name = a.blank.name; parts = a.blank.parts }

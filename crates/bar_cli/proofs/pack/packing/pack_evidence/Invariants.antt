use Rattle.bar_cli.proofs.pack.packing.pack_evidence.Given as goal

abbrev pub ghosts-pack_counted : goal.ghosts-pack_counted
ghosts-pack_counted a = record { name = a.blank.name; parts = a.blank.parts }

use Rattle.bar_party.proofs.fuzz.reading.judged.Given as goal

abbrev pub ghosts-verdict_counted : goal.ghosts-verdict_counted
ghosts-verdict_counted a = record { name = a.blank.name; parts = a.blank.parts }

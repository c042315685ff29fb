use Rattle.bar_seal.proofs.lms.is_accepted_under.Given as goal

abbrev pub ghosts-accepts_uncounted : goal.ghosts-accepts_uncounted
ghosts-accepts_uncounted a = record { name = a.blank.name; parts = a.blank.parts }

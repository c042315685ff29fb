use Rattle.bar_caster.proofs.as_core.CasterCore.take.Given as goal

abbrev pub ghosts-take_uncounted : goal.ghosts-take_uncounted
ghosts-take_uncounted g a = record { name = a.blank.name; parts = a.blank.parts }

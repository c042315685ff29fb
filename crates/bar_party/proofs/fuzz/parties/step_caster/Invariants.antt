use Rattle.bar_party.proofs.fuzz.parties.step_caster.Given as goal

abbrev pub ghosts-step_caster_with : goal.ghosts-step_caster_with
ghosts-step_caster_with a = record { name = a.blank.name; parts = a.blank.parts }

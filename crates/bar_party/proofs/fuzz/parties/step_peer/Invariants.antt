use Rattle.bar_party.proofs.fuzz.parties.step_peer.Given as goal

abbrev pub ghosts-step_peer_with : goal.ghosts-step_peer_with
ghosts-step_peer_with a = record { name = a.blank.name; parts = a.blank.parts }

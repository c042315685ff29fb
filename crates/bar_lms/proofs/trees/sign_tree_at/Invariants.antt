use Rattle.bar_lms.proofs.trees.sign_tree_at.Given as goal

abbrev pub ghosts-sign_from : goal.ghosts-sign_from
ghosts-sign_from a = record { name = a.blank.name; parts = a.blank.parts }

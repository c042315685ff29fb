use Rattle.bar_rule_tests.proofs.audit_tests.audit_of.Given as goal

abbrev pub ghosts-audit_with : goal.ghosts-audit_with
ghosts-audit_with a = record { name = a.blank.name; parts = a.blank.parts }

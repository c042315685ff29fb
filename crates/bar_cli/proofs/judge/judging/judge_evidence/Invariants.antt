use Rattle.bar_cli.proofs.judge.judging.judge_evidence.Given as goal

abbrev pub ghosts-judge_counted : goal.ghosts-judge_counted
ghosts-judge_counted a = record { name = a.blank.name; parts = a.blank.parts }

use Rattle.bar_cli.proofs.verify.judging.judge_file.Given as goal

abbrev pub ghosts-judge_counted : goal.ghosts-judge_counted
ghosts-judge_counted a = record { name = a.blank.name; parts = a.blank.parts }

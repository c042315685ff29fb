use Rattle.std.proofs.Common.{rules, append_assoc}
use Rattle.bar_child_processes.proofs.words.name_of.Goals as goal

pub returns : goal.returns
returns c = simp append_assoc (search rules)

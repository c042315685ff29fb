use Rattle.bar_node.proofs.FoundFiles.{touched-plan}
use Rattle.bar_node.proofs.laws.a_run_touches_its_files.Goals as goal

pub returns : goal.returns
returns c = touched-plan

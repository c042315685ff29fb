use Rattle.bar_node.proofs.FoundFiles.{found-whole}
use Rattle.bar_node.proofs.laws.a_run_finds.Goals as goal

pub returns : goal.returns
returns c = found-whole

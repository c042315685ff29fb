use Rattle.bar_node.proofs.FoundFiles.{run-unchanged}
use Rattle.bar_node.proofs.laws.a_run_changes_its_files.Goals as goal

pub returns : goal.returns
returns g c = λ recording played found r core. run-unchanged recording played found r (g.C.Core.stands core)

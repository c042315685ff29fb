use Rattle.bar_child_processes.proofs.LawLemmas.{faultless}
use Rattle.bar_child_processes.proofs.laws.sessions_without_faults_are_told_by_their_children.Goals as goal

pub returns : goal.returns
returns c = faultless

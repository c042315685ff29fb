use Rattle.bar_child_processes.proofs.LawLemmas.{done}
use Rattle.bar_child_processes.proofs.laws.a_done_session_has_children_that_ended_well.Goals as goal

pub returns : goal.returns
returns c = done

use Rattle.bar_child_processes.proofs.LawLemmas.{failed}
use Rattle.bar_child_processes.proofs.laws.a_failed_session_has_a_child_that_failed.Goals as goal

pub returns : goal.returns
returns c = failed

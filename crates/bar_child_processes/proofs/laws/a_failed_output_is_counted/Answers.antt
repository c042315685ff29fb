use Rattle.bar_child_processes.proofs.LawLemmas.{failed_output}
use Rattle.bar_child_processes.proofs.laws.a_failed_output_is_counted.Goals as goal

pub returns : goal.returns
returns c = failed_output

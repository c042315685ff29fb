use Rattle.bar_lms.proofs.HssLemmas.{names-leaves}
use Rattle.bar_lms.proofs.laws.hss_accepted_names_its_leaves.Goals as goal

pub returns : goal.returns
returns c top low key message sig accepted five = names-leaves top low key message sig accepted five

use Rattle.std.proofs.Common.{[]}
use Rattle.bar_rules.specs.Peer.Run.{log_after}
use Rattle.bar_laws.proofs.Runs.{keeps-leaves, run-obedient}
use Rattle.bar_laws.proofs.leaves.leaf_discipline.Goals as goal

pub returns : goal.returns
returns c = λ me is inputs. keeps-leaves me (log_after me [] inputs) is.session (run-obedient me [] inputs tt)

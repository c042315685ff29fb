use Rattle.std.proofs.Common.{[]}
use Rattle.bar_rules.specs.Peer.Run.{log_after}
use Rattle.bar_laws.proofs.Repeating.{says-cases-again}
use Rattle.bar_laws.proofs.Runs.{run-obedient}
use Rattle.bar_laws.proofs.again.briefcases_are_said_again.Goals as goal

pub returns : goal.returns
returns c = λ me is inputs. says-cases-again me (log_after me [] inputs) is (run-obedient me [] inputs tt)

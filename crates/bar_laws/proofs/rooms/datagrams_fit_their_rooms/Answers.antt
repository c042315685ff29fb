use Rattle.std.proofs.Common.{[]}
use Rattle.bar_rules.specs.Peer.Run.{log_after}
use Rattle.bar_laws.proofs.Fitting.{heard-largest}
use Rattle.bar_laws.proofs.Runs.{run-obedient}
use Rattle.bar_laws.proofs.rooms.datagrams_fit_their_rooms.Goals as goal

pub returns-clause-run : goal.returns-clause-run
returns-clause-run c = λ me inputs. heard-largest me (log_after me [] inputs) (run-obedient me [] inputs tt)

pub returns-clause-obedient : goal.returns-clause-obedient
returns-clause-obedient c = heard-largest

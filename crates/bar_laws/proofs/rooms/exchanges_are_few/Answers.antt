use Rattle.std.proofs.Common.{[], ◌∷◌, subst}
use Rattle.bar_rules.specs.Peer.Rules.{IsObedient}
use Rattle.bar_rules.specs.Peer.Run.{log_after}
use Rattle.bar_laws.proofs.Logs.{obedient-before}
use Rattle.bar_laws.proofs.Keeping.{has-rooms, keeps-few, leaves-room}
use Rattle.bar_laws.proofs.Runs.{run-obedient}
use Rattle.bar_laws.proofs.rooms.exchanges_are_few.Goals as goal

pub returns-clause-run_rooms : goal.returns-clause-run_rooms
returns-clause-run_rooms c = λ me inputs. has-rooms me (log_after me [] inputs) (run-obedient me [] inputs tt)

pub returns-clause-obedient_rooms : goal.returns-clause-obedient_rooms
returns-clause-obedient_rooms c = has-rooms

pub returns-clause-run : goal.returns-clause-run
returns-clause-run c = λ me inputs. keeps-few me (log_after me [] inputs) (run-obedient me [] inputs tt)

pub returns-clause-obedient : goal.returns-clause-obedient
returns-clause-obedient c = keeps-few

pub returns-clause-run_left : goal.returns-clause-run_left
returns-clause-run_left c = λ me inputs new before e split. leaves-room me before e (obedient-before me new (e ∷ before) (subst (λ l. IsObedient me l) split (run-obedient me [] inputs tt)))

pub returns-clause-obedient_left : goal.returns-clause-obedient_left
returns-clause-obedient_left c = leaves-room

use Rattle.std.proofs.Common.{[]}
use Rattle.bar_rules.specs.Peer.Run.{log_after}
use Rattle.bar_laws.proofs.Memory.{rewritten, remembered}
use Rattle.bar_laws.proofs.Runs.{run-obedient}
use Rattle.bar_laws.proofs.rewriting.what_was_said_is_written_again.Goals as goal

pub returns-clause-run : goal.returns-clause-run
returns-clause-run c = λ me inputs. rewritten me (log_after me [] inputs) (run-obedient me [] inputs tt)

pub returns-clause-obedient : goal.returns-clause-obedient
returns-clause-obedient c = rewritten

pub returns-clause-run_memory : goal.returns-clause-run_memory
returns-clause-run_memory c = λ me is inputs two. remembered me is (log_after me [] inputs) two (run-obedient me [] inputs tt)

pub returns-clause-obedient_memory : goal.returns-clause-obedient_memory
returns-clause-obedient_memory c = λ me is log h two. remembered me is log two h

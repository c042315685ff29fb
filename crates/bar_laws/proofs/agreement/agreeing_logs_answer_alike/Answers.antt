use Rattle.std.proofs.Common.{[]}
use Rattle.bar_rules.specs.Peer.Run.{log_after}
use Rattle.bar_laws.proofs.Memory.{answers-alike, goes-on}
use Rattle.bar_laws.proofs.Runs.{run-obedient}
use Rattle.bar_laws.proofs.agreement.agreeing_logs_answer_alike.Goals as goal

pub returns-clause-run : goal.returns-clause-run
returns-clause-run c = λ me is inputs two same input. answers-alike me (log_after me [] inputs) two input same is.session.shape.life_low (run-obedient me [] inputs tt)

pub returns-clause-obedient : goal.returns-clause-obedient
returns-clause-obedient c = λ me is one h two same input. answers-alike me one two input same is.session.shape.life_low h

pub returns-clause-lasting : goal.returns-clause-lasting
returns-clause-lasting c = λ me is inputs two same further. goes-on me (log_after me [] inputs) two further is.session.shape.life_low (run-obedient me [] inputs tt) same

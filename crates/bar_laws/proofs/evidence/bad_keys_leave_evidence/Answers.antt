use Rattle.std.proofs.Common.{[]}
use Rattle.bar_rules.specs.Peer.Run.{log_after}
use Rattle.bar_laws.proofs.Runs.{run-obedient}
use Rattle.bar_laws.proofs.Judging.{run-watchful, opens-badly-kept}
use Rattle.bar_laws.proofs.evidence.bad_keys_leave_evidence.Goals as goal

pub returns : goal.returns
returns c = λ me inputs x d. opens-badly-kept me (log_after me [] inputs) x d (run-obedient me [] inputs tt) (run-watchful me [] inputs tt)

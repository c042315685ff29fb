use Rattle.std.proofs.Common.{[]}
use Rattle.bar_rules.specs.Peer.Run.{log_after}
use Rattle.bar_laws.proofs.Runs.{run-obedient}
use Rattle.bar_laws.proofs.Judging.{kept-shown}
use Rattle.bar_laws.proofs.evidence.kept_evidence_is_shown.Goals as goal

pub returns : goal.returns
returns c = λ me inputs party evidence two.
    kept-shown c.what_opens_badly_stays_so.ensures me (log_after me [] inputs) party evidence two (run-obedient me [] inputs tt)

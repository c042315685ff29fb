use Rattle.std.proofs.Common.{[]}
use Rattle.bar_rules.specs.Peer.Run.{log_after}
use Rattle.bar_laws.proofs.Broadcasts.{late-admitted, manifests-repeated}
use Rattle.bar_laws.proofs.Runs.{run-obedient}
use Rattle.bar_laws.proofs.broadcasting.manifests_are_said_again.Goals as goal

pub returns-clause-repeats : goal.returns-clause-repeats
returns-clause-repeats c = manifests-repeated

pub returns-clause-late : goal.returns-clause-late
returns-clause-late c me is inputs = late-admitted me (log_after me [] inputs) (run-obedient me [] inputs tt)

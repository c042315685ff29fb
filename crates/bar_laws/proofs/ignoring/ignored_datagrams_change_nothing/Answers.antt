use Rattle.bar_laws.proofs.Runs.{casters-ignore, peers-ignore}
use Rattle.bar_laws.proofs.ignoring.ignored_datagrams_change_nothing.Goals as goal

pub returns-clause-peers : goal.returns-clause-peers
returns-clause-peers c = peers-ignore

pub returns-clause-casters : goal.returns-clause-casters
returns-clause-casters c = casters-ignore

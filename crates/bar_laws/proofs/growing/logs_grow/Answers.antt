use Rattle.bar_laws.proofs.LogGrowth.{casters-grow, parties-grow, peers-grow}
use Rattle.bar_laws.proofs.growing.logs_grow.Goals as goal

pub returns-clause-peers : goal.returns-clause-peers
returns-clause-peers c = peers-grow

pub returns-clause-casters : goal.returns-clause-casters
returns-clause-casters c = casters-grow

pub returns-clause-parties : goal.returns-clause-parties
returns-clause-parties c = parties-grow

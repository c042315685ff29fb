use Rattle.bar_laws.proofs.Worlds.{peers-run, broadcaster-runs}
use Rattle.bar_laws.proofs.own_runs.parties_run_alone.Goals as goal

pub returns-clause-peers : goal.returns-clause-peers
returns-clause-peers c = peers-run

pub returns-clause-broadcaster : goal.returns-clause-broadcaster
returns-clause-broadcaster c = broadcaster-runs

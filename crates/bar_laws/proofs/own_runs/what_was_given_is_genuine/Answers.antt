use Rattle.bar_laws.proofs.Worlds.{given-genuine}
use Rattle.bar_laws.proofs.own_runs.what_was_given_is_genuine.Goals as goal

pub returns : goal.returns
returns c = given-genuine

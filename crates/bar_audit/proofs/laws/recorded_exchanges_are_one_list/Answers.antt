use Rattle.bar_audit.proofs.Listed.{is-listed, is-one}
use Rattle.bar_audit.proofs.laws.recorded_exchanges_are_one_list.Goals as goal

pub returns-clause-listed : goal.returns-clause-listed
returns-clause-listed c = is-listed

pub returns-clause-one : goal.returns-clause-one
returns-clause-one c = is-one

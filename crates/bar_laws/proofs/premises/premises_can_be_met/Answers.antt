use Rattle.bar_laws.proofs.Worlds.{sessions-exist, setups-exist, peers-are-members, plain-moves-are-honest}
use Rattle.bar_laws.proofs.premises.premises_can_be_met.Goals as goal

pub returns-clause-sessions : goal.returns-clause-sessions
returns-clause-sessions c = sessions-exist

pub returns-clause-setups : goal.returns-clause-setups
returns-clause-setups c = setups-exist

pub returns-clause-members : goal.returns-clause-members
returns-clause-members c = peers-are-members

pub returns-clause-honest : goal.returns-clause-honest
returns-clause-honest c = plain-moves-are-honest

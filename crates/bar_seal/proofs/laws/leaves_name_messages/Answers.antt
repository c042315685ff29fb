use Rattle.bar_seal.proofs.Slots.{peers_named, caster_named}
use Rattle.bar_seal.proofs.laws.leaves_name_messages.Goals as goal

pub returns-clause-peers : goal.returns-clause-peers
returns-clause-peers c = peers_named

pub returns-clause-broadcaster : goal.returns-clause-broadcaster
returns-clause-broadcaster c = caster_named

use Rattle.bar_roster.proofs.KeyLemmas.{held_where_accepted}
use Rattle.bar_roster.proofs.laws.accepted_secrets_are_held.Goals as goal

pub returns : goal.returns
returns c s caster fresh bytes k accepted = held_where_accepted s caster fresh bytes k accepted

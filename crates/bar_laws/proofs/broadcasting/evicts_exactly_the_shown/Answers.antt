use Rattle.bar_laws.proofs.Broadcasts.{evicts-exactly}
use Rattle.bar_laws.proofs.broadcasting.evicts_exactly_the_shown.Goals as goal

pub returns : goal.returns
returns c = evicts-exactly

use Rattle.bar_laws.proofs.Broadcasts.{signs-once}
use Rattle.bar_laws.proofs.broadcasting.signs_once_a_round.Goals as goal

pub returns : goal.returns
returns c = signs-once

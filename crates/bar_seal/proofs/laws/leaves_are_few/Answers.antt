use Rattle.bar_seal.proofs.Slots.{leaves_few}
use Rattle.bar_seal.proofs.laws.leaves_are_few.Goals as goal

pub returns : goal.returns
returns c = leaves_few

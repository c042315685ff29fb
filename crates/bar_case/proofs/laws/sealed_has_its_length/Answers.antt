use Rattle.bar_case.proofs.OwnKey.{length_sealed}
use Rattle.bar_case.proofs.laws.sealed_has_its_length.Goals as goal

pub returns : goal.returns
returns c = length_sealed

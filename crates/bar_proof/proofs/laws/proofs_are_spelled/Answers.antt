use Rattle.bar_proof.proofs.SpelledFiles.{spelled-so}
use Rattle.bar_proof.proofs.laws.proofs_are_spelled.Goals as goal

pub returns : goal.returns
returns c = spelled-so

use Rattle.bar_laws.proofs.Worlds.{nobody-accused}
use Rattle.bar_laws.proofs.parties.nobody_is_accused.Goals as goal

pub returns : goal.returns
returns c = nobody-accused

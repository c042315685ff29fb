use Rattle.bar_laws.proofs.Unannounced.{nobody-announced}
use Rattle.bar_laws.proofs.parties.nobody_is_announced.Goals as goal

pub returns : goal.returns
returns c = nobody-announced

use Rattle.bar_laws.proofs.Worlds.{nobody-evicted}
use Rattle.bar_laws.proofs.parties.nobody_is_evicted.Goals as goal

pub returns : goal.returns
returns c = nobody-evicted

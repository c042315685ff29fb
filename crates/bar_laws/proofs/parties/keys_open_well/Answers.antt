use Rattle.bar_laws.proofs.Worlds.{keys-open-well}
use Rattle.bar_laws.proofs.parties.keys_open_well.Goals as goal

pub returns : goal.returns
returns c = keys-open-well

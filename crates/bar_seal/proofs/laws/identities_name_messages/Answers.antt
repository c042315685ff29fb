use Rattle.bar_seal.proofs.Named.{same_names}
use Rattle.bar_seal.proofs.laws.identities_name_messages.Goals as goal

pub returns : goal.returns
returns c = same_names

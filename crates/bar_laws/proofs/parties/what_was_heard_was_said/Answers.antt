use Rattle.bar_laws.proofs.Worlds.{heard-said}
use Rattle.bar_laws.proofs.parties.what_was_heard_was_said.Goals as goal

pub returns : goal.returns
returns c = heard-said

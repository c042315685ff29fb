use Rattle.bar_laws.proofs.Fitting.{signed-short}
use Rattle.bar_laws.proofs.rooms.signed_datagrams_are_short.Goals as goal

pub returns : goal.returns
returns c = signed-short

use Rattle.bar_laws.proofs.Undelivered.{missing-again}
use Rattle.bar_laws.proofs.again.missing_briefcases_are_said_again.Goals as goal

pub returns : goal.returns
returns c = missing-again

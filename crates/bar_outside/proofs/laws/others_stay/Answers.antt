use Rattle.bar_outside.proofs.Untouched.{untouched}
use Rattle.bar_outside.proofs.laws.others_stay.Goals as goal

pub returns : goal.returns
returns c = untouched

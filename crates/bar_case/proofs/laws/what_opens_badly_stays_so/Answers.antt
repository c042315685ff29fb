use Rattle.bar_case.proofs.Longer.{bad_stays}
use Rattle.bar_case.proofs.laws.what_opens_badly_stays_so.Goals as goal

pub returns : goal.returns
returns c = bad_stays

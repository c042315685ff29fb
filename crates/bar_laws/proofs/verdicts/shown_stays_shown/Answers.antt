use Rattle.bar_laws.proofs.Judging.{verdict-stays}
use Rattle.bar_laws.proofs.verdicts.shown_stays_shown.Goals as goal

pub returns : goal.returns
returns c = verdict-stays c.what_opens_badly_stays_so.ensures

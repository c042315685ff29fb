use Rattle.bar_system.proofs.Fitting.{some-fits}
use Rattle.bar_system.proofs.laws.some_content_fits.Goals as goal

pub returns : goal.returns
returns c = some-fits

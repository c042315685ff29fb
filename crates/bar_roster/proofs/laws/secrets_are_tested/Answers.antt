use Rattle.bar_roster.proofs.KeyLemmas.{fits_test}
use Rattle.bar_roster.proofs.laws.secrets_are_tested.Goals as goal

pub returns : goal.returns
returns c s party secret = fits_test s party secret

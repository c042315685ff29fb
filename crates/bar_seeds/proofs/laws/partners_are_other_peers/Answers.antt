use Rattle.bar_seeds.proofs.PartnerLemmas.{partner_low, partner_high, partner_other}
use Rattle.bar_seeds.proofs.laws.partners_are_other_peers.Goals as goal

pub returns-clause-low : goal.returns-clause-low
returns-clause-low c id peers seed kind me = partner_low id peers seed kind me

pub returns-clause-high : goal.returns-clause-high
returns-clause-high c id peers seed kind me some = partner_high id peers seed kind me some

pub returns-clause-other : goal.returns-clause-other
returns-clause-other c id peers seed kind me = partner_other id peers seed kind me

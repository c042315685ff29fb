use Rattle.bar_seeds.proofs.SeedLemmas.{own_seeds_met}
use Rattle.bar_seeds.proofs.laws.own_seeds_lead_to_earlier_ones.Goals as goal

pub returns : goal.returns
returns c = own_seeds_met

use Rattle.bar_seeds.proofs.SeedLemmas.{own_seed}
use Rattle.bar_seeds.proofs.laws.own_seeds_meet_the_anchor.Goals as goal

pub returns : goal.returns
returns c s rounds round within = own_seed s rounds round within

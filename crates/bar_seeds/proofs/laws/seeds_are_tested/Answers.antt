use Rattle.bar_seeds.proofs.SeedLemmas.{seed_test}
use Rattle.bar_seeds.proofs.laws.seeds_are_tested.Goals as goal

pub returns : goal.returns
returns c id anchor party round seed = seed_test id anchor party round seed

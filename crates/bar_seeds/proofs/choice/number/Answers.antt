use Rattle.bar_seeds.specs.Partners.{number_of}
use Rattle.bar_seeds.proofs.choice.number.Goals as goal

pub returns : goal.returns
unfolding number_of
returns c = rw c.choice_hash.ensures at c.first_number.ensures

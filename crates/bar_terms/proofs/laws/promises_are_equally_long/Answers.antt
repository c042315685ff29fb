use Rattle.bar_terms.proofs.Equal.{promises_equal, promises_some, promises_few}
use Rattle.bar_terms.proofs.laws.promises_are_equally_long.Goals as goal

pub returns : goal.returns
returns c = record { equal = promises_equal; some = promises_some; few = promises_few }

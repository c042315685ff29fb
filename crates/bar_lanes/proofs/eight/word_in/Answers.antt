use Rattle.std.proofs.Common.{arith}
use Rattle.bar_lanes.proofs.eight.word_in.Goals as goal

pub returns-clause-bytes : goal.returns-clause-bytes
returns-clause-bytes c = λ i. omega (arith, c.type_inv.bytes i)

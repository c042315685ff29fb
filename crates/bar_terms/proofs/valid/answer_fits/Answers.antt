use Rattle.std.proofs.Common.{arith}
use Rattle.bar_terms.proofs.Ends.{few_members}
use Rattle.bar_terms.proofs.valid.answer_fits.Goals as goal

pub overflow_add-result : goal.overflow_add-result
overflow_add-result c = grind (arith, c.size.ensures, c.from-then-wanted-from.ensures, few_members c.args.give.now)

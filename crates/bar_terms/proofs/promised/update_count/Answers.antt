use Rattle.std.proofs.Common.{arith}
use Rattle.bar_window.specs.Terms.{plain_terms}
use Rattle.bar_terms.proofs.Equal.{length_promise}
use Rattle.bar_terms.proofs.promised.update_count.Goals as goal

pub overflow_sub-result : goal.overflow_sub-result
overflow_sub-result c =
    omega (arith, length_promise c.args.cap (plain_terms c.args.terms.now) c.args.role, c.promise.ensures.len, c.junk_count.ensures)

pub returns : goal.returns
returns c = omega (arith, length_promise c.args.cap (plain_terms c.args.terms.now) c.args.role, c.promise.ensures.len, c.junk_count.ensures)

use Rattle.bar_terms.proofs.Equal.{terms_promise, empty_terms}
use Rattle.bar_terms.proofs.laws.valid_terms_can_promise.Goals as goal

pub returns : goal.returns
returns c = record { any = terms_promise; empty = empty_terms }

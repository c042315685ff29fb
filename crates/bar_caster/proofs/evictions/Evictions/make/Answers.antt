-- Nothing is kept, and nobody is listed.
use Rattle.std.proofs.Common.{sym}
use Rattle.bar_caster.proofs.Listing.{empty-stands}
use Rattle.bar_caster.proofs.evictions.Evictions.make.Goals as goal

pub returns-clause-empty : goal.returns-clause-empty
returns-clause-empty c = λ s peers. empty-stands s _ (sym peers) c.in_ok-evidence.ensures.empty c.in_ok-list.ensures.items

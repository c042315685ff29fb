use Rattle.bar_ledger.proofs.Changes.{found-own}
use Rattle.bar_ledger.proofs.ledger.Ledger.find.Goals as goal

pub returns-clause-own : goal.returns-clause-own
returns-clause-own c = let l = c.args.self.now in found-own c.args.x l.shape.life l.round l.slots.items

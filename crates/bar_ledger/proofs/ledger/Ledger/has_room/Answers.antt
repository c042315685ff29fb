use Rattle.bar_ledger.proofs.Changes.{found-own}
use Rattle.bar_ledger.proofs.ledger.Ledger.has_room.Goals as goal

pub returns-clause-own : goal.returns-clause-own
returns-clause-own c x = let l = c.args.self.now in found-own x l.shape.life l.round l.slots.items

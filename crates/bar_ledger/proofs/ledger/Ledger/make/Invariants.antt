use Rattle.bar_ledger.proofs.Making.{AreMade}
use Rattle.bar_ledger.proofs.ledger.Ledger.make.Given as goal

abbrev pub invariant-loop : goal.invariant-loop
invariant-loop l = AreMade l.shape l.slots.items l.counter

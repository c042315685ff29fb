use Rattle.std.proofs.Common.{◌≡◌, length, take}
use Rattle.bar_ledger.specs.Code.Slots.{entries_of}
use Rattle.bar_ledger.proofs.ledger.Ledger.free.Given as goal

abbrev pub invariant-loop-place : goal.invariant-loop-place
invariant-loop-place l = length (entries_of l.self.shape.life l.self.round (take l.place l.self.slots.items)) ≡ l.place

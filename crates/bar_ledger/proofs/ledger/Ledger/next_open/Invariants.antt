use Rattle.std.proofs.Common.{◌≡◌, take}
use Rattle.bar_ledger.specs.Code.Asking.{opens_of}
use Rattle.bar_ledger.specs.Code.Order.{first_above}
use Rattle.bar_ledger.specs.Code.Slots.{entries_of}
use Rattle.bar_ledger.proofs.ledger.Ledger.next_open.Given as goal

abbrev pub invariant-loop-place : goal.invariant-loop-place
invariant-loop-place l = l.best ≡ first_above l.after (opens_of (entries_of l.self.shape.life l.self.round (take l.place l.self.slots.items)))

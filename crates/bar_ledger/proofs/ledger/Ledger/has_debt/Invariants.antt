use Rattle.std.proofs.Common.{◌≡◌, take}
use Rattle.std.specs.List.{list_any}
use Rattle.bar_ledger.specs.Code.Debts.{is_owed}
use Rattle.bar_ledger.specs.Code.Slots.{entries_of}
use Rattle.bar_ledger.proofs.ledger.Ledger.has_debt.Given as goal

abbrev pub invariant-loop-place : goal.invariant-loop-place
invariant-loop-place l =
    l.any ≡ list_any (is_owed l.self.shape.life l.party l.round) (entries_of l.self.shape.life l.self.round (take l.place l.self.slots.items))

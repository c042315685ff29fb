use Rattle.std.proofs.Common.{◌≡◌, ◌≤◌, take, count_by}
use Rattle.bar_ledger.specs.Code.Asking.{is_asked}
use Rattle.bar_ledger.specs.Code.Slots.{entries_of}
use Rattle.bar_ledger.proofs.ledger.Ledger.asked.Given as goal

abbrev pub invariant-loop-place : goal.invariant-loop-place
invariant-loop-place l = record {
  counted : l.count ≡ count_by (is_asked l.kind l.round) (entries_of l.self.shape.life l.self.round (take l.place l.self.slots.items));
  few : l.count ≤ l.place;
}

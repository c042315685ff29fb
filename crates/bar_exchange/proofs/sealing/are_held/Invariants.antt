use Rattle.std.proofs.Common.{All, take}
use Rattle.bar_case.specs.Sealed.{IsHeldItem}
use Rattle.bar_store.specs.Code.Held.{block_in}
use Rattle.bar_exchange.proofs.sealing.are_held.Given as goal

abbrev pub invariant-loop-item : goal.invariant-loop-item
invariant-loop-item l = All (IsHeldItem (block_in l.store)) (take l.item-index l.items)

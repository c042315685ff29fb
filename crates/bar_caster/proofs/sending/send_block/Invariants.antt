use Rattle.std.proofs.Common.{◌≡◌, ◌+◌, ◌≤◌, ◌++◌, length}
use Rattle.bar_rules.specs.Peer.Log.{Log}
use Rattle.bar_caster.specs.Code.Fanout.{AreRanksOf}
use Rattle.bar_caster.specs.Code.Memory.{Represents, member_of}
use Rattle.bar_caster.specs.Code.Ticking.{update_now}
use Rattle.bar_caster.proofs.Pushed.{gets_block, pushed_to}
use Rattle.bar_caster.specs.declared.item.Item.TheVariants as items
use Rattle.bar_caster.proofs.sending.send_block.Given as goal

-- the orders for the peers before the current one are pushed
abbrev pub invariant-loop-before : goal.invariant-loop-before
invariant-loop-before l = record {
  few : length l.orders.list.items ≤ length l.initial.orders.list.items + l.before;
  room : l.orders.room ≡ l.initial.orders.room;
  given : l.orders.given ≡ l.initial.orders.given;
  sent : (log : Log) → Represents log l.memory → AreRanksOf (member_of l.memory) (update_now log l.index) l.ranks
      → length l.initial.orders.list.items + l.memory.session.shape.peers ≤ l.initial.orders.room
      → l.orders.list.items
      ≡ l.initial.orders.list.items ++ pushed_to (items.Block l.index) (gets_block (member_of l.memory) log l.index) l.before;
}

use Rattle.std.proofs.Common.{◌≡◌, ◌+◌, ◌*◌, ◌≤◌, ◌++◌, length}
use Rattle.bar_rules.specs.Peer.Log.{Log}
use Rattle.bar_caster.specs.Code.Memory.{Represents, member_of}
use Rattle.bar_caster.specs.Code.Ticking.{block_orders}
use Rattle.bar_caster.proofs.sending.send_blocks.Given as goal

-- the orders of the blocks before the current one are pushed
abbrev pub invariant-loop-index : goal.invariant-loop-index
invariant-loop-index g l = record {
  ranks : length l.ranks ≡ length l.initial.ranks;
  cost : l.steps ≡ l.initial.steps + l.index * l.memory.session.shape.peers;
  few : length l.orders.list.items ≤ length l.initial.orders.list.items + l.index * l.memory.session.shape.peers;
  room : l.orders.room ≡ l.initial.orders.room;
  given : l.orders.given ≡ l.initial.orders.given;
  sent : (log : Log) → Represents log l.memory
      → length l.initial.orders.list.items + l.memory.session.shape.per_round * l.memory.session.shape.peers ≤ l.initial.orders.room
      → l.orders.list.items ≡ l.initial.orders.list.items ++ block_orders (member_of l.memory) log 0 l.index;
}

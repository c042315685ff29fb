use Rattle.std.proofs.Common.{◌≡◌, ◌+◌, ◌≤◌, ◌++◌, length, is_none}
use Rattle.bar_rules.specs.Peer.Log.{Log, kept}
use Rattle.bar_caster.specs.Code.Memory.{Represents}
use Rattle.bar_caster.proofs.Pushed.{pushed_to}
use Rattle.bar_caster.proofs.sending.send_to_all.Given as goal

-- the orders for the peers before the current one are pushed
abbrev pub invariant-loop-before : goal.invariant-loop-before
invariant-loop-before l = record {
  few : length l.orders.list.items ≤ length l.initial.orders.list.items + l.before;
  room : l.orders.room ≡ l.initial.orders.room;
  given : l.orders.given ≡ l.initial.orders.given;
  sent : (log : Log) → Represents log l.memory → length l.initial.orders.list.items + l.memory.session.shape.peers ≤ l.initial.orders.room
      → l.orders.list.items ≡ l.initial.orders.list.items ++ pushed_to l.item (λ q. is_none (kept log q)) l.before;
}

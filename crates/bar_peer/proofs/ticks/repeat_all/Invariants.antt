use Rattle.std.proofs.Common.{◌≡◌, ◌+◌, ◌*◌, ◌≤◌, ◌++◌, [], List, length}
use Rattle.std.specs.List.{flat_map}
use Rattle.bar_window.specs.declared.exchange.Exchange.{Exchange}
use Rattle.bar_ledger.specs.Code.Memory.{opens_in}
use Rattle.bar_ledger.specs.Code.Order.{above}
use Rattle.bar_rules.specs.Peer.Knowledge.{known}
use Rattle.bar_rules.specs.Peer.Log.{Log}
use Rattle.bar_rules.specs.Peer.Run.{perform_all}
use Rattle.bar_rules.specs.Runs.{begun}
use Rattle.bar_peer.specs.Code.Memory.{member_of, Represents}
use Rattle.bar_peer.specs.Code.Sending.{HasOutcome}
use Rattle.bar_peer.specs.Code.Ticking.{orders_of_open, most_orders}
use Rattle.bar_peer.proofs.ticks.repeat_all.Given as goal

-- the outcome has the orders of the exchanges before the current one, and the other exchanges are left
abbrev pub invariant-loop : goal.invariant-loop
invariant-loop l = record {
  done : List Exchange;
  split : done ++ above l.after (opens_in l.memory.ledger) ≡ opens_in l.memory.ledger;
  count : length done ≡ l.counter;
  few : length l.orders.list.items ≤ length l.initial.orders.list.items + 2 * l.counter;
  room : l.orders.room ≡ l.initial.orders.room;
  given : l.orders.given ≡ l.initial.orders.given;
  stands : (log : Log) → Represents log l.memory → l.initial.orders.list.items ≡ [] → most_orders l.memory.who.session ≤ l.initial.orders.room
      → HasOutcome (perform_all (member_of l.memory.who) (begun log)
      (flat_map (orders_of_open (member_of l.memory.who) (known (member_of l.memory.who) log)) done)) l.memory l.orders;
}

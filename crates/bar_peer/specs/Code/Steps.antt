-- How one input changes a memory and its orders.
use Rattle.std.specs.Prelude.{◌≡◌, ◌≤◌, Bool, true, false, ℕ, List, [], ◌∷◌}
use Rattle.bar_wire.specs.Inputs.{Input}
use Rattle.bar_wire.specs.Inputs as event
use Rattle.bar_laws.specs.Evidence.{CatchesBadKeys}
use Rattle.bar_rules.specs.Member.{Member}
use Rattle.bar_rules.specs.Runs.{begun}
use Rattle.bar_rules.specs.Values.{datagram_of}
use Rattle.bar_rules.specs.Peer.Knowledge.{known}
use Rattle.bar_rules.specs.Peer.Log.{Log, Ticked}
use Rattle.bar_rules.specs.Peer.Rules.{IsObedient}
use Rattle.bar_rules.specs.Peer.Run.{Out, perform_all, take_datagram, take_input}
use Rattle.bar_rules.specs.Peer.Ticks.{orders_at_tick}
use Rattle.bar_peer.specs.declared.memory.Memory.{Memory}
use Rattle.bar_peer.specs.Code.Orders.{Orders}
use Rattle.bar_peer.specs.Code.Memory.{member_of, Represents}
use Rattle.bar_peer.specs.Code.Sending.{HasOutcome}
use Rattle.bar_peer.specs.Code.Ticking.{most_orders}

-- the log after a tick, and what the tick sends
abbrev pub ticked : Member → Log → Out
ticked me log = perform_all me (begun (Ticked ∷ log)) (orders_at_tick me (known me (Ticked ∷ log)))

abbrev pub TakesTick : Memory → Orders → Memory → Orders → Type 0
TakesTick m o n p =
    let me : Member = member_of m.who in
    (log : Log) → IsObedient me (ticked me log).state → Represents log m → o.list.items ≡ [] → most_orders m.who.session ≤ o.room
    → HasOutcome (ticked me log) n p

-- the same for a datagram with these bytes
abbrev pub TakesDatagram : List ℕ → Memory → Orders → Memory → Orders → Type 0
TakesDatagram bytes m o n p =
    let me : Member = member_of m.who in
    (log : Log) → CatchesBadKeys me log → IsObedient me (take_datagram me log (datagram_of me.session bytes)).state → Represents log m
    → o.list.items ≡ [] → 3 ≤ o.room
    → HasOutcome (take_datagram me log (datagram_of me.session bytes)) n p

-- the same for any input before the last tick was taken
abbrev pub TakesInput : Input → Memory → Orders → Memory → Orders → Type 0
TakesInput input m o n p =
    let me : Member = member_of m.who in
    (log : Log) → CatchesBadKeys me log → IsObedient me (take_input me log input).state → Represents log m → o.list.items ≡ []
    → most_orders m.who.session ≤ o.room
    → HasOutcome (take_input me log input) n p

abbrev pub is_tick : Input → Bool
is_tick event.Tick = true
is_tick (event.Datagram bytes) = false

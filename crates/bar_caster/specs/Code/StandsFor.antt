-- What the state of a broadcaster represents: the inputs that it took, and the datagrams that are still to be given out.
use Rattle.std.specs.Prelude.{ℕ, List}
use Rattle.bar_core.specs.Code.Orders.{left_in}
use Rattle.bar_wire.specs.Datagram.{Datagram}
use Rattle.bar_wire.specs.Inputs.{Input}
use Rattle.bar_rules.specs.Broadcaster.Sending.{caster_log_after}
use Rattle.bar_rules.specs.Peer.Log.{Log}
use Rattle.bar_caster.specs.declared.memory.Memory.{Memory}
use Rattle.bar_caster.specs.Code.Memory.{Represents, member_of, stream_of}
use Rattle.bar_caster.specs.Code.Orders.{Orders, AreFor}

abbrev pub Inputs : Type 0
Inputs = List Input

-- the log after these inputs
abbrev pub log_of : Memory → Inputs → Log
log_of m inputs = caster_log_after (member_of m) (stream_of m) inputs

-- the memory is that of a broadcaster after these inputs
abbrev pub StandsFor : Memory → Inputs → Type 0
StandsFor m inputs = Represents (log_of m inputs) m

-- these are the datagrams that are still to be given out, each with its receiver
abbrev pub AreLeft : Memory → Orders → Inputs → List (ℕ × Datagram) → Type 0
AreLeft m o inputs sends = AreFor (member_of m) (stream_of m) (log_of m inputs) (left_in o) sends

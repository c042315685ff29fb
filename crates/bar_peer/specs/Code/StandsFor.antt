-- What the state of a peer represents: the inputs that it took, and the output that is still to be given out.
use Rattle.std.specs.Prelude.{ℕ, ◌-◌, List, []}
use Rattle.std.specs.List.{flat_map, range_with_len}
use Rattle.bar_wire.specs.Datagram.{Datagram}
use Rattle.bar_wire.specs.Inputs.{Input}
use Rattle.bar_rules.specs.Peer.Knowledge.{known}
use Rattle.bar_rules.specs.Peer.Run.{log_after}
use Rattle.bar_rules.specs.Peer.Ticks.{content_of}
use Rattle.std.specs.Option.{option_to_list}
use Rattle.bar_store.specs.declared.store.Store.{Store}
use Rattle.bar_store.specs.Code.Held.{block_in}
use Rattle.bar_peer.specs.declared.memory.Memory.{Memory}
use Rattle.bar_peer.specs.Code.Orders.{Orders}
use Rattle.bar_peer.specs.declared.playing.Playing.{Playing}
use Rattle.bar_peer.specs.Code.Memory.{Represents, member_of}
use Rattle.bar_core.specs.Code.Orders.{left_in}
use Rattle.bar_peer.specs.Code.Sending.{AreFor}

abbrev pub Inputs : Type 0
Inputs = List Input

-- the memory is that of a peer after these inputs
abbrev pub StandsFor : Memory → List Input → Type 0
StandsFor m inputs = Represents (log_after (member_of m.who) [] inputs) m

-- these are the datagrams that are still to be given out, each with its receiver
abbrev pub AreLeft : Memory → Orders → List Input → List (ℕ × Datagram) → Type 0
AreLeft m o inputs sends = AreFor (member_of m.who) (known (member_of m.who) (log_after (member_of m.who) [] inputs)) (left_in o) sends

-- the contents that are still to be given out
abbrev pub contents_left : Store → Playing → List (List ℕ)
contents_left s p =
    flat_map (λ index. flat_map content_of (option_to_list (block_in s (record { round = p.round; index = index }))))
    (range_with_len p.next (p.end - p.next))

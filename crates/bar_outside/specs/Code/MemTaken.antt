-- The parts of an in-memory link, and what they represent.
use Rattle.std.specs.Prelude.{ℕ, Bool, true, List, length, nat_le}
use Rattle.std.specs.List.{list_all}
use Rattle.bar_outside.specs.Wire.{Arrival, Tick, Datagram, Bound, largest_packet}
use Rattle.bar_outside.specs.declared.mem_taken.MemTaken.{MemTaken}
use Rattle.bar_outside.specs.declared.mem_taken.MemTaken.TheVariants as raw
use Rattle.bar_outside.specs.declared.mem_place.Place.{Place}
use Rattle.bar_outside.specs.declared.mem_sent.Sent.{Sent}

abbrev pub is_small : MemTaken → Bool
is_small raw.Tick = true
is_small (raw.Datagram bytes) = nat_le (length bytes.items) largest_packet

-- no datagram is larger than the largest packet
abbrev pub are_small : List MemTaken → Bool
are_small list = list_all is_small list

abbrev pub arrival_in : MemTaken → Arrival
arrival_in raw.Tick = Tick
arrival_in (raw.Datagram bytes) = Datagram bytes.items

abbrev pub bytes_sent : Sent → ℕ × List ℕ
bytes_sent sent = (sent.to, sent.bytes.items)

abbrev pub bound_in : Place → Bound
bound_in place = record { me = place.me; port = place.port; begin_ms = place.begin_ms; tick_ms = place.tick_ms }

-- The datagrams that the code keeps.
use Rattle.std.specs.Prelude.{ℕ, List, map}
use Rattle.bar_world.specs.declared.packet.Packet.{Packet}

-- a datagram, after its receiver
abbrev pub packet_of : Packet → ℕ × List ℕ
packet_of packet = (packet.to, packet.bytes.items)

abbrev pub packets_of : List Packet → List (ℕ × List ℕ)
packets_of packets = map packet_of packets

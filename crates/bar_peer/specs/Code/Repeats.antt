-- Datagrams of exchanges that may still be asked about.
use Rattle.std.specs.Prelude.{IfSome, Bool, is_some}
use Rattle.bar_wire.specs.Datagram.{Message, Body, exchange_of, part_of}
use Rattle.bar_rules.specs.Member.{Member}
use Rattle.bar_rules.specs.Peer.Agreement.{IsRecent}
use Rattle.bar_rules.specs.Peer.Knowledge.{Knowledge}

-- if a message is of an exchange, the exchange may still be asked about
abbrev pub IsInTime : Member → Knowledge → Message → Type 0
IsInTime me k m = IfSome (exchange_of m) (λ x. IsRecent me k x.round)

-- whether a body is of an exchange
abbrev pub is_of_exchange : Body → Bool
is_of_exchange b = is_some (part_of b)

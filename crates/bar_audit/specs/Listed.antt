-- The recorded exchanges as one list.
use Rattle.std.specs.Prelude.{◌≡◌, List, [], ◌∷◌, filter}
use Rattle.std.specs.List.{filter_map, flat_map}
use Rattle.bar_window.specs.declared.exchange.Exchange.{Exchange}
use Rattle.bar_wire.specs.Datagram.{exchange_of}
use Rattle.bar_wire.specs.Inputs.{Input}
use Rattle.bar_rules.specs.Member.{Session}
use Rattle.bar_rules.specs.Peer.Exchanges.{inserted}
use Rattle.bar_audit.specs.Exchanges.{AreRecorded, is_recorded}
use Rattle.bar_audit.specs.Recordings.{Recording, datagrams_in}

-- the exchanges of the datagrams that inputs encode
abbrev pub exchanges_in : Session → List Input → List Exchange
exchanges_in s inputs = filter_map (λ d. exchange_of d.message) (datagrams_in s inputs)

abbrev pub exchanges_named : Session → List Recording → List Exchange
exchanges_named s recordings = flat_map (λ (r : Recording). exchanges_in s r.inputs) recordings

-- in order, each once
abbrev pub in_order : List Exchange → List Exchange
in_order [] = []
in_order (x ∷ xs) = inserted x (in_order xs)

-- the recorded ones of these exchanges
unfoldable pub recorded : Session → List Recording → List Exchange
recorded s recordings = in_order (filter (is_recorded s recordings) (exchanges_named s recordings))

-- this is a list of the recorded exchanges
abbrev pub IsListed : Type 0
IsListed = (s : Session) (recordings : List Recording) → AreRecorded s recordings (recorded s recordings)

-- it is the only such list
abbrev pub IsOneList : Type 0
IsOneList = (s : Session) (recordings : List Recording) (xs : List Exchange) → AreRecorded s recordings xs → xs ≡ recorded s recordings

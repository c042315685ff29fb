-- Received datagrams, as a peer with given credentials reads them.
use Rattle.bar_wire.specs.Datagram.{Datagram}
use Rattle.bar_wire.specs.Code.Views.{datagram, IsView}
use Rattle.bar_rules.specs.Member.{key_of_party}
use Rattle.bar_seal.specs.Code.Memo.{Pair}
use Rattle.bar_peer.specs.declared.arrival.Arrival.{Arrival}
use Rattle.bar_peer.specs.declared.credentials.Credentials.{Credentials}

-- the bytes encode the view
abbrev pub IsReadBy : Credentials → Arrival → Type 0
IsReadBy who a = IsView who.session.shape a.bytes.now a.view

-- the datagram
abbrev pub datagram_by : Credentials → Arrival → Datagram
datagram_by who a = datagram who.session.shape a.view

-- what is checked: the sender's key in the session, and the bytes
abbrev pub checked_by : Credentials → Arrival → Pair
checked_by who a = (key_of_party who.session a.view.from, a.bytes.now)

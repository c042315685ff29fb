-- How a ledger recalls an admitted datagram of an exchange.
use Rattle.std.specs.Prelude.{◌≡◌, ℕ, true, List}
use Rattle.bar_window.specs.declared.exchange.Exchange.{Exchange}
use Rattle.bar_window.specs.declared.exchange.Role.TheVariants.{Initiator}
use Rattle.bar_wire.specs.Datagram.{Datagram, is_of}
use Rattle.bar_wire.specs.Code.Views.{datagram, plain}
use Rattle.bar_wire.specs.declared.view.View.{View}
use Rattle.bar_rules.specs.Member.{Member}
use Rattle.bar_rules.specs.Peer.Exchanges.{request_kind}
use Rattle.bar_rules.specs.Peer.Knowledge.{Knowledge, with_heard}
use Rattle.bar_laws.specs.Soundness.{IsSound}
use Rattle.bar_ledger.specs.declared.ledger.Ledger.{Ledger}
use Rattle.bar_ledger.specs.Code.Recalls.{Recalls}
use Rattle.bar_exchange.specs.Code.Keeping.{IsAdmittedNow, HasRoomLeft}
use Rattle.bar_peer.specs.declared.credentials.Credentials.{Credentials}
use Rattle.bar_peer.specs.Code.Memory.{member_of}
use Rattle.bar_peer.specs.Code.Repeats.{is_of_exchange}

-- if the datagram asks for an exchange, there is room for one more
abbrev pub LeavesRoomFor : Member → Knowledge → Datagram → Type 0
LeavesRoomFor me k d = (x : Exchange) → is_of (request_kind x.kind) x Initiator d.message ≡ true → HasRoomLeft me k

-- if the old ledger recalls the knowledge before the datagram was admitted, the new one recalls the knowledge after it
abbrev pub RecallsHeard : Credentials → View → List ℕ → Ledger → Ledger → Type 0
RecallsHeard who v bytes old new =
    (k : Knowledge) → Recalls (member_of who) k old → IsSound (member_of who) k
    → LeavesRoomFor (member_of who) k (datagram who.session.shape v) → IsAdmittedNow (member_of who) k (datagram who.session.shape v) bytes
    → is_of_exchange (plain v.body) ≡ true → Recalls (member_of who) (with_heard (member_of who) (datagram who.session.shape v) k) new

-- What is required of a datagram that a ledger records: an admitted one, or a message that is said.
use Rattle.std.specs.Prelude.{◌≡◌, ℕ, ◌+◌, ◌*◌, ◌<◌, ◌≤◌, ◌&&◌, Bool, true, false, List, Some, None, length, nat_le, is_some}
use Rattle.std.specs.List.{IsDistinct, list_all}
use Rattle.bar_window.specs.declared.exchange.Exchange.{Exchange}
use Rattle.bar_window.specs.declared.exchange.Role.{Role}
use Rattle.bar_window.specs.declared.exchange.Role.TheVariants.{Initiator, Responder}
use Rattle.bar_window.specs.declared.exchange.XKind.TheVariants.{Balanced}
use Rattle.bar_window.specs.declared.terms.Terms.{Terms}
use Rattle.bar_window.specs.Exchange.{same_exchange}
use Rattle.bar_window.specs.Terms.{plain_terms}
use Rattle.bar_wire.specs.Bodies.{offer_in}
use Rattle.bar_wire.specs.Datagram.{Datagram, kind_of, place_of, is_of}
use Rattle.bar_wire.specs.Grammar.{IsDatagram}
use Rattle.bar_wire.specs.Limits.{exchanges_a_round}
use Rattle.bar_wire.specs.declared.kind.Kind.{Kind}
use Rattle.bar_wire.specs.declared.kind.Kind.TheVariants as kinds
use Rattle.bar_wire.specs.Code.Views.{AreTermWindows}
use Rattle.bar_rules.specs.Member.{Member, IsMember}
use Rattle.bar_rules.specs.Values.{datagram_bytes}
use Rattle.bar_rules.specs.Peer.Admission.{is_admitted}
use Rattle.bar_rules.specs.Peer.Agreement.{IsRecent}
use Rattle.bar_rules.specs.Peer.Exchanges.{role_of, request_kind, committed}
use Rattle.bar_rules.specs.Peer.Knowledge.{Knowledge, this_round, has_said_of}
use Rattle.bar_rules.specs.Peer.Sizes.{largest}
use Rattle.bar_ledger.specs.declared.ledger.Ledger.{Ledger}
use Rattle.bar_ledger.specs.Code.Lookups.{commit_of, offer_of}
use Rattle.bar_ledger.specs.Code.Recalls.{Recalls, kind_of_terms}

-- The datagram is admitted now, these bytes encode it, and it fits its room.
pub record IsAdmittedNow (me : Member) (k : Knowledge) (d : Datagram) (bytes : List ℕ) : Type 0 where
  pub spelled : IsDatagram me.session.shape d
  pub admitted : is_admitted me k d ≡ true
  pub bytes_are : bytes ≡ datagram_bytes me.session d
  pub fits : length bytes ≤ largest me.session.shape (kind_of d.message.body)

-- The message is the first of this kind that this member says in an exchange, on its own side.
pub record IsSaidNow (me : Member) (k : Knowledge) (d : Datagram) (kind : Kind) (x : Exchange) : Type 0 where
  pub mine : d.message.from ≡ me.party
  pub kind_is : kind_of d.message.body ≡ kind
  pub place_is : place_of d.message ≡ Some (record { exchange = x; role = role_of me x })
  pub new : k.said kind x (role_of me x) ≡ None
  pub recent : IsRecent me k x.round

-- ---- room for an exchange

-- whether this member asked for an exchange, or was asked for it
abbrev pub is_asked_by : Role → Knowledge → Exchange → Bool
is_asked_by Initiator k x = has_said_of k (request_kind x.kind) x Initiator
is_asked_by Responder k x = is_some (k.seat x)

-- whether it asked for the exchange or was asked for it, and the exchange may still be asked about
abbrev pub is_remembered : Member → Knowledge → Exchange → Bool
is_remembered me k x = nat_le (this_round k) (x.round + me.session.shape.life) && is_asked_by (role_of me x) k x

-- there are fewer of these exchanges than slots
abbrev pub HasRoomLeft : Member → Knowledge → Type 0
HasRoomLeft me k =
    (xs : List Exchange) → IsDistinct same_exchange xs → list_all (is_remembered me k) xs ≡ true
    → length xs < exchanges_a_round * (me.session.shape.life + 2)

-- ---- the terms with which an exchange begins

-- The terms are of the kind and round of the exchange, and contain what its REQUEST or QUERY offers.
pub record IsBegunWith (me : Member) (d : Datagram) (x : Exchange) (terms : Terms) : Type 0 where
  pub kind_is : kind_of d.message.body ≡ request_kind x.kind
  pub form : kind_of_terms (plain_terms terms) ≡ x.kind
  pub windows : AreTermWindows me.session.shape x.round terms
  pub offer : offer_in d.message.body ≡ offer_of (plain_terms terms)

-- the terms of a balanced exchange contain the nonce and history that this member commits to
abbrev pub IsCommittedTo : Member → Knowledge → Exchange → Terms → Type 0
IsCommittedTo me k x terms = x.kind ≡ Balanced → commit_of (plain_terms terms) ≡ Some (committed me k.block x)

-- ---- the kinds that follow complete terms

-- a CASE, a KEYREQ or a KEY
abbrev pub is_later : Kind → Bool
is_later kinds.Case = true
is_later kinds.KeyReq = true
is_later kinds.Key = true
is_later _ = false

-- ---- what is required of a datagram that is kept

-- The datagram is admitted now, and the ledger recalls the knowledge. If the datagram asks for an exchange, this has no seat yet and there
-- is room for it.
pub record MayKeep (me : Member) (k : Knowledge) (l : Ledger) (d : Datagram) (bytes : List ℕ) : Type 0 where
  pub member : IsMember me
  pub recalled : Recalls me k l
  pub now : IsAdmittedNow me k d bytes
  pub room : (x : Exchange) → is_of (request_kind x.kind) x Initiator d.message ≡ true → HasRoomLeft me k
  pub unseated : (x : Exchange) → is_of (request_kind x.kind) x Initiator d.message ≡ true → k.seat x ≡ None

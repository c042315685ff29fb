-- What a log shows of a peer's exchanges: their sides, what an initiator commits to, the seats, and which exchanges are open.
use Rattle.std.specs.Prelude.{◌≡◌, ℕ, ◌+◌, ◌==◌, ◌&&◌, ◌||◌, Bool, true, List, [], ◌∷◌, filter, Option, Some, None, option_map, if◌then◌else◌, nat_le, nat_lt}
use Rattle.std.specs.Bool.{then_some}
use Rattle.std.specs.List.{AllByRecursion}
use Rattle.bar_wire.specs.Bodies.{divulge_in}
use Rattle.bar_window.specs.declared.update.UpdateId.{UpdateId}
use Rattle.bar_window.specs.declared.exchange.Exchange.{Exchange}
use Rattle.bar_window.specs.declared.exchange.Role.{Role}
use Rattle.bar_window.specs.declared.exchange.Role.TheVariants.{Initiator, Responder}
use Rattle.bar_window.specs.declared.exchange.XKind.{XKind}
use Rattle.bar_window.specs.declared.exchange.XKind.TheVariants.{Balanced, Push}
use Rattle.bar_window.specs.Exchange.{other_role, party_on, kind_code, same_kind, same_exchange}
use Rattle.bar_wire.specs.Datagram.{Datagram, is_of, exchange_of}
use Rattle.bar_wire.specs.declared.kind.Kind.TheVariants as kinds
use Rattle.bar_wire.specs.declared.kind.Kind.{Kind}
use Rattle.bar_rules.specs.Member.{Session, Member}
use Rattle.bar_rules.specs.Secrets.{nonce_of}
use Rattle.bar_rules.specs.Peer.Log.{Log, Entry, Ticked, Heard, Said, Kept, earliest, heard_in, said_in, if_passes, count_heard, has_kind_and_round, round_now}
use Rattle.bar_rules.specs.Peer.Holdings.{block_of, history}

-- this member's side of an exchange, and its partner
abbrev pub role_of : Member → Exchange → Role
role_of me x = if x.initiator == me.party then Initiator else Responder

abbrev pub partner_in : Member → Exchange → ℕ
partner_in me x = party_on x (other_role (role_of me x))

-- the kind of datagram that asks for an exchange, and the kind that answers it
abbrev pub request_kind : XKind → Kind
request_kind Balanced = kinds.Request
request_kind Push = kinds.Query

abbrev pub answer_kind : XKind → Kind
answer_kind Balanced = kinds.Response
answer_kind Push = kinds.Reply

-- the kind of a side's first signed datagram
abbrev pub opening_kind : XKind → Role → Kind
opening_kind kind Initiator = request_kind kind
opening_kind kind Responder = answer_kind kind

-- ---- seats

-- the seat that an admitted request takes: how many of its round and kind were admitted before it
abbrev pub seat_in : Log → Exchange → Entry → Option ℕ
seat_in before x e =
    option_map (λ d. count_heard (has_kind_and_round (request_kind x.kind) x.round) before)
    (if_passes (is_of (request_kind x.kind) x Initiator) (heard_in e))

-- the responder's seat in an exchange
abbrev pub seat : Log → Exchange → Option ℕ
seat log x = earliest (λ before e. seat_in before x e) log

-- ---- commitments

-- what a member commits to as the initiator, by the blocks that it holds
abbrev pub committed : Member → (UpdateId → Option (List ℕ)) → Exchange → List ℕ × List UpdateId
committed me block x = (nonce_of me x, history me.session block x.round)

-- the nonce and the history that the initiator commits to: its own at its REQUEST, the partner's from the DIVULGE
abbrev pub revealed_in : Member → Log → Exchange → Entry → Option (List ℕ × List UpdateId)
revealed_in me before x (Said d) = then_some (is_of kinds.Request x Initiator d.message) (committed me (block_of me.session before) x)
revealed_in me before x (Heard d) = if is_of kinds.Divulge x Initiator d.message then divulge_in d.message.body else None
revealed_in me before x Ticked = None
revealed_in me before x (Kept q e) = None

abbrev pub revealed : Member → Log → Exchange → Option (List ℕ × List UpdateId)
revealed me log x = earliest (λ before e. revealed_in me before x e) log

-- ---- the exchanges in which a peer signed a message, in order

-- whether one exchange precedes another: by round, kind, initiator and responder in turn
abbrev pub precedes : Exchange → Exchange → Bool
precedes x y =
    nat_lt x.round y.round
    || (x.round == y.round)
    && (nat_lt (kind_code x.kind) (kind_code y.kind)
    || same_kind x.kind y.kind && (nat_lt x.initiator y.initiator || (x.initiator == y.initiator) && nat_lt x.responder y.responder))

-- a rising list with one more exchange
abbrev pub inserted : Exchange → List Exchange → List Exchange
inserted x [] = x ∷ []
inserted x (y ∷ ys) = if same_exchange x y then y ∷ ys else if precedes x y then x ∷ y ∷ ys else y ∷ inserted x ys

-- each exchange precedes all that follow it
abbrev pub IsRising : List Exchange → Type 0
IsRising [] = Unit {0}
IsRising (x ∷ xs) = AllByRecursion (λ y. precedes x y ≡ true) xs × IsRising xs

abbrev pub with_exchange : Option Exchange → List Exchange → List Exchange
with_exchange None xs = xs
with_exchange (Some x) xs = inserted x xs

abbrev pub exchange_said : Option Datagram → Option Exchange
exchange_said None = None
exchange_said (Some d) = exchange_of d.message

abbrev pub exchanges_said : Log → List Exchange
exchanges_said [] = []
exchanges_said (e ∷ log) = with_exchange (exchange_said (said_in e)) (exchanges_said log)

-- the exchanges of rounds that may still be asked about
abbrev pub recent_of : Session → ℕ → List Exchange → List Exchange
recent_of s now xs = filter (λ x. nat_le now (x.round + s.shape.life)) xs

abbrev pub open_exchanges : Member → Log → List Exchange
open_exchanges me log = recent_of me.session (round_now log) (exchanges_said log)

-- Few exchanges: a peer keeps at most `exchanges_a_round` exchanges of each round, each in a room of its own.
use Rattle.std.specs.Prelude.{◌≡◌, ℕ, zero, suc, ◌+◌, ◌*◌, ◌==◌, ◌&&◌, ◌<◌, ◌≤◌, nat_le, Bool, true, false, List, ◌∷◌, ◌++◌, length, Option, Some, None, is_some, option_map, option_and_then}
use Rattle.std.specs.Bool.{then_some}
use Rattle.std.specs.List.{list_all, IsDistinct}
use Rattle.bar_window.specs.Exchange.{same_exchange}
use Rattle.bar_window.specs.declared.exchange.Exchange.{Exchange}
use Rattle.bar_window.specs.declared.exchange.Role.{Role}
use Rattle.bar_window.specs.declared.exchange.Role.TheVariants.{Initiator, Responder}
use Rattle.bar_window.specs.declared.exchange.XKind.{XKind}
use Rattle.bar_wire.specs.Limits.{exchanges_a_round}
use Rattle.bar_wire.specs.declared.kind.Kind.{Kind}
use Rattle.bar_rules.specs.Peer.Exchanges.{role_of, request_kind}
use Rattle.bar_rules.specs.Peer.Knowledge.{Knowledge, known, this_round, has_heard_of, has_said_of}
use Rattle.bar_rules.specs.Peer.Log.{Log, Entry}
use Rattle.bar_rules.specs.Member.{Member}
use Rattle.bar_rules.specs.Peer.Rules.{IsObedient}
use Rattle.bar_laws.specs.Always.{InEachLog}

-- among the exchanges of one round and kind: the one that this member asked for, or the first or the second that it was asked for
pub data Asking : Type 0 where
  Own : Asking
  First : Asking
  Second : Asking

-- one of the rooms of a round, of which there are `exchanges_a_round`
pub record Room : Type 0 where
  pub kind : XKind
  pub asking : Asking

-- the asking of a seat: there are two
abbrev pub asking_at : ℕ → Option Asking
asking_at zero = Some First
asking_at (suc zero) = Some Second
asking_at (suc (suc n)) = None

-- how an exchange was asked for, if its initiator said the REQUEST or QUERY, or its responder admitted it
abbrev pub asking_of : Knowledge → Exchange → Role → Option Asking
asking_of k x Initiator = then_some (has_said_of k (request_kind x.kind) x Initiator) Own
asking_of k x Responder = option_and_then asking_at (k.seat x)

-- the room of an exchange, if its REQUEST or QUERY was said or admitted
abbrev pub room_of : Member → Knowledge → Exchange → Option Room
room_of me k x = option_map (λ a. record { kind = x.kind; asking = a }) (asking_of k x (role_of me x))

-- Each exchange of which anything was admitted or said has a room, and two exchanges of one round have different rooms.
pub record AreInRooms (me : Member) (k : Knowledge) : Type 0 where
  pub heard : (kind : Kind) (x : Exchange) (role : Role) → has_heard_of k kind x role ≡ true → is_some (room_of me k x) ≡ true
  pub said : (kind : Kind) (x : Exchange) (role : Role) → has_said_of k kind x role ≡ true → is_some (room_of me k x) ≡ true
  pub one : (x y : Exchange) (room : Room) → x.round ≡ y.round → room_of me k x ≡ Some room → room_of me k y ≡ Some room → x ≡ y

-- for every list of inputs
abbrev pub RunHasRooms : Type 0
RunHasRooms = InEachLog (λ me log. AreInRooms me (known me log))

-- the same for each log that obeys the rules, whether or not a run leaves it
abbrev pub LogHasRooms : Type 0
LogHasRooms = (me : Member) (log : Log) → IsObedient me log → AreInRooms me (known me log)

-- ---- how many

-- an exchange that has a room: a memory keeps only these
abbrev pub is_kept : Member → Knowledge → Exchange → Bool
is_kept me k x = is_some (room_of me k x)

-- an exchange that is kept and may still be asked about
abbrev pub is_recent : Member → Knowledge → Exchange → Bool
is_recent me k x = nat_le (this_round k) (x.round + me.session.shape.life) && is_kept me k x

-- At most `exchanges_a_round` distinct exchanges of one round are kept. Those that may still be asked about are of the rounds from a life
-- before this one to the next one, which are two more rounds than a life. So there are at most that many exchanges for each of these
-- rounds.
pub record KeepsFew (me : Member) (k : Knowledge) : Type 0 where
  pub in_round :
      (round : ℕ) (xs : List Exchange) → IsDistinct same_exchange xs → list_all (λ x. (x.round == round) && is_kept me k x) xs ≡ true
      → length xs ≤ exchanges_a_round
  pub recent :
      (xs : List Exchange) → IsDistinct same_exchange xs → list_all (is_recent me k) xs ≡ true
      → length xs ≤ exchanges_a_round * (me.session.shape.life + 2)

-- for every list of inputs
abbrev pub RunKeepsFew : Type 0
RunKeepsFew = InEachLog (λ me log. KeepsFew me (known me log))

-- for each log that obeys the rules
abbrev pub LogKeepsFew : Type 0
LogKeepsFew = (me : Member) (log : Log) → IsObedient me log → KeepsFew me (known me log)

-- ---- room that is left

-- If an entry makes an exchange kept that wasn't, a room was left for it. Take the distinct exchanges that were kept before the entry and
-- may still be asked about: they are fewer than the rooms of those rounds.
abbrev pub LeavesRoom : Member → Log → Entry → Type 0
LeavesRoom me before e =
    (x : Exchange) → is_kept me (known me before) x ≡ false → is_kept me (known me (e ∷ before)) x ≡ true
    → (xs : List Exchange) → IsDistinct same_exchange xs → list_all (is_recent me (known me before)) xs ≡ true
    → length xs < exchanges_a_round * (me.session.shape.life + 2)

-- for each entry, for every list of inputs
abbrev pub RunLeavesRoom : Type 0
RunLeavesRoom = InEachLog (λ me log. (new before : Log) (e : Entry) → log ≡ new ++ e ∷ before → LeavesRoom me before e)

-- and for each entry that the rules allow
abbrev pub LogLeavesRoom : Type 0
LogLeavesRoom = (me : Member) (before : Log) (e : Entry) → IsObedient me (e ∷ before) → LeavesRoom me before e

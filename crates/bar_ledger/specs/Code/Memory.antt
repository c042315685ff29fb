-- The results of a ledger's look-ups.
use Rattle.std.specs.Prelude.{◌≡◌, ℕ, ◌≤◌, true, IfSome, Bool, List, Option, None, length, is_some, option_and_then, nat_lt, count_by}
use Rattle.std.specs.Bool.{then_some}
use Rattle.std.specs.List.{find}
use Rattle.bar_window.specs.declared.exchange.Exchange.{Exchange}
use Rattle.bar_window.specs.declared.exchange.XKind.{XKind}
use Rattle.bar_wire.specs.Limits.{seats_a_round}
use Rattle.bar_wire.specs.declared.kind.Kind.{Kind}
use Rattle.bar_rules.specs.Peer.Sizes.{largest}
use Rattle.bar_ledger.specs.declared.entry.Entry.{Entry}
use Rattle.bar_ledger.specs.declared.ledger.Ledger.{Ledger}
use Rattle.bar_ledger.specs.Code.Asking.{is_asked, opens_of, all_of}
use Rattle.bar_ledger.specs.Code.Hearing.{hears}
use Rattle.bar_ledger.specs.Code.Kept.{Kept, is_for, heard_of, newly, if_recent}
use Rattle.bar_ledger.specs.Code.Slots.{entries_of, exchanges_of}

-- all kept states
abbrev pub entries_in : Ledger → List Kept
entries_in l = entries_of l.shape.life l.round l.slots.items

-- the kept exchanges
abbrev pub kept_in : Ledger → List Exchange
kept_in l = exchanges_of (entries_in l)

-- the kept state of an exchange
abbrev pub find_in : Ledger → Exchange → Option Kept
find_in l x = find (is_for x) (entries_in l)

-- the datagram of a kind that was heard in an exchange
abbrev pub bytes_in : Ledger → Exchange → Kind → Option (List ℕ)
bytes_in l x kind = option_and_then (heard_of kind) (find_in l x)

-- whether this peer's side of a kept exchange hears a kind
abbrev pub can_hear : Kind → Kept → Bool
can_hear kind k = hears kind k.entry.x.kind k.entry.role

-- The exchange is kept, this side hears the kind and heard none of it yet, and the bytes fit their room.
pub record MayHear (l : Ledger) (x : Exchange) (kind : Kind) (bytes : List ℕ) : Type 0 where
  pub kept : is_some (find_in l x) ≡ true
  pub new : bytes_in l x kind ≡ None
  pub short : length bytes ≤ largest l.shape kind
  pub heard : IfSome (find_in l x) (λ k. can_hear kind k ≡ true)

-- ---- seats

-- how many requests of a kind and round were admitted
abbrev pub asked_in : Ledger → XKind → ℕ → ℕ
asked_in l kind round = count_by (is_asked kind round) (entries_in l)

-- the seat of the next one, after `asked` requests
abbrev pub next_seat : ℕ → Option ℕ
next_seat asked = then_some (nat_lt asked seats_a_round) asked

-- ---- the exchanges in which this peer said its first message, in order

abbrev pub opens_in : Ledger → List Exchange
opens_in l = opens_of (entries_in l)

-- ---- all kept exchanges, in order

abbrev pub all_in : Ledger → List Exchange
all_in l = all_of (entries_in l)

-- an entry, as it is found after it was added
abbrev pub added : Ledger → Entry → Option Kept
added l e = if_recent l.shape.life l.round (newly e)

-- if the old entry says that the first message was said, so does the new one
abbrev pub StaysOpen : Entry → Option Kept → Type 0
StaysOpen e o = IfSome o (λ k. k.entry.first_said ≡ true → e.first_said ≡ true)

-- The new entry has the same side as the old one, and the first message is said in both or in neither.
pub record IsAsBefore (e : Entry) (k : Kept) : Type 0 where
  pub side : e.role ≡ k.entry.role
  pub said : e.first_said ≡ k.entry.first_said

-- The party, cap, shape and round are the same.
pub record HasSame (old new : Ledger) : Type 0 where
  pub me : new.me ≡ old.me
  pub cap : new.cap ≡ old.cap
  pub shape : new.shape ≡ old.shape
  pub round : new.round ≡ old.round

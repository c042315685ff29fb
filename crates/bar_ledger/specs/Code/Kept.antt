-- What a slot keeps of an exchange.
use Rattle.std.specs.Prelude.{◌≡◌, ℕ, ◌+◌, ◌≤◌, Bool, false, List, Option, Some, None, option_map, option_and_then, nat_le, if◌then◌else◌}
use Rattle.std.specs.Bool.{then_some}
use Rattle.std.specs.Option.{option_map_or}
use Rattle.bar_window.specs.declared.exchange.Exchange.{Exchange}
use Rattle.bar_window.specs.Exchange.{same_exchange}
use Rattle.bar_wire.specs.declared.kind.Kind.{Kind}
use Rattle.bar_wire.specs.declared.kind.Kind.TheVariants as kinds
use Rattle.bar_ledger.specs.declared.entry.Entry.{Entry}
use Rattle.bar_ledger.specs.declared.slot.Slot.{Slot}
use Rattle.bar_ledger.specs.Code.Hearing.{is_opening}

-- the kept state of an exchange: its entry, and the datagrams that were heard from the other side: the first signed one, the DIVULGE, CASE,
-- KEYREQ and KEY
pub record Kept : Type 0 where
  pub entry : Entry
  pub first : Option (List ℕ)
  pub divulge : Option (List ℕ)
  pub case : Option (List ℕ)
  pub key_request : Option (List ℕ)
  pub key : Option (List ℕ)

-- an exchange in which nothing was heard yet
abbrev pub newly : Entry → Kept
newly e = record { entry = e; first = None; divulge = None; case = None; key_request = None; key = None }

-- the kept state of a slot with this entry
abbrev pub with_rooms : Slot → Entry → Kept
with_rooms s e = record {
  entry = e;
  first = s.first.kept;
  divulge = s.divulge.kept;
  case = s.case.kept;
  key_request = s.key_request.kept;
  key = s.key.kept;
}

abbrev pub kept_of : Slot → Option Kept
kept_of s = option_map (with_rooms s) s.entry

-- the kept state, with another entry
abbrev pub with_new : Entry → Kept → Kept
with_new e k = record k { entry = e }

-- the kept state, with one more datagram that was heard
abbrev pub with_bytes : Kind → List ℕ → Kept → Kept
with_bytes kinds.Divulge bytes k = record k { divulge = Some bytes }
with_bytes kinds.Case bytes k = record k { case = Some bytes }
with_bytes kinds.KeyReq bytes k = record k { key_request = Some bytes }
with_bytes kinds.Key bytes k = record k { key = Some bytes }
with_bytes kind bytes k = record k { first = Some bytes }

-- the datagram of a kind that was heard
abbrev pub heard_of : Kind → Kept → Option (List ℕ)
heard_of kinds.Divulge k = k.divulge
heard_of kinds.Case k = k.case
heard_of kinds.KeyReq k = k.key_request
heard_of kinds.Key k = k.key
heard_of kind k = if is_opening kind k.entry.x.kind k.entry.role then k.first else None

-- whether it is the kept state of an exchange
abbrev pub is_for : Exchange → Kept → Bool
is_for x k = same_exchange k.entry.x x

-- ---- forgetting

-- whether an exchange may still be asked about
abbrev pub is_recent : ℕ → ℕ → Exchange → Bool
is_recent life now x = nat_le now (x.round + life)

abbrev pub if_recent : ℕ → ℕ → Kept → Option Kept
if_recent life now k = then_some (is_recent life now k.entry.x) k

-- the kept state in a slot, if its exchange isn't forgotten
abbrev pub live_of : ℕ → ℕ → Slot → Option Kept
live_of life now s = option_and_then (if_recent life now) (kept_of s)

-- whether a slot keeps this exchange, and it isn't forgotten
abbrev pub keeps : Exchange → ℕ → ℕ → Slot → Bool
keeps x life now s = option_map_or (is_for x) (live_of life now s) false

-- It is the kept state of the exchange, which may still be asked about.
pub record IsKeptFor (x : Exchange) (life now : ℕ) (k : Kept) : Type 0 where
  pub named : k.entry.x ≡ x
  pub recent : now ≤ x.round + life

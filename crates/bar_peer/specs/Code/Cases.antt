-- The CASEs that a peer keeps as it sent them: each equals the one that is due now.
use Rattle.std.specs.Prelude.{◌≡◌, ◌⊎◌, ℕ, List, Option, Some, None, option_and_then, slice_get}
use Rattle.bar_bytes.specs.Code.Rooms.{kept_in}
use Rattle.bar_window.specs.declared.exchange.Exchange.{Exchange}
use Rattle.bar_wire.specs.Datagram.{Datagram}
use Rattle.bar_wire.specs.declared.kind.Kind.TheVariants as kinds
use Rattle.bar_rules.specs.Peer.Knowledge.{Knowledge}
use Rattle.bar_rules.specs.Values.{datagram_bytes}
use Rattle.bar_peer.specs.declared.cases.Cases.{Cases}
use Rattle.bar_peer.specs.declared.memory.Memory.{Memory}
use Rattle.bar_peer.specs.Code.Giving.{IsDue}
use Rattle.bar_peer.specs.Code.Memory.{IsMemoryOf, member_of}

-- the exchange that a room is labelled with
abbrev pub name_in : Cases → ℕ → Option Exchange
name_in c number = option_and_then (λ name. name) (slice_get c.names.items number)

-- The bytes are kept in a room that is labelled with the exchange.
pub record IsIn (c : Cases) (x : Exchange) (bytes : List ℕ) : Type 0 where
  pub number : ℕ
  pub named : name_in c number ≡ Some x
  pub kept : kept_in c.rooms number ≡ Some bytes

-- no room is labelled
abbrev pub KeepsNone : Cases → Type 0
KeepsNone c = (number : ℕ) → name_in c number ≡ None

-- the new state keeps only what the old one kept, or these bytes for this exchange
abbrev pub IsInOrNew : Exchange → List ℕ → Cases → Cases → Type 0
IsInOrNew x bytes old new = (y : Exchange) (kept : List ℕ) → IsIn new y kept → IsIn old y kept ⊎ ((y ≡ x) × (kept ≡ bytes))

-- the bytes are the CASE of the exchange that is due, for all knowledge that the memory represents
abbrev pub IsCaseNow : Memory → Exchange → List ℕ → Type 0
IsCaseNow m x bytes =
    (k : Knowledge) (d : Datagram) → IsMemoryOf (member_of m.who) k m → IsDue (member_of m.who) k (record { kind = kinds.Case; x = x }) d
    → bytes ≡ datagram_bytes m.who.session d

-- every kept CASE is due now
abbrev pub AreCasesNow : Memory → Cases → Type 0
AreCasesNow m c = (x : Exchange) (bytes : List ℕ) → IsIn c x bytes → IsCaseNow m x bytes

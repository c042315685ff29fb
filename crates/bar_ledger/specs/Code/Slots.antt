-- The slots of a ledger, in any order.
use Rattle.std.specs.Prelude.{◌≡◌, ℕ, List, map}
use Rattle.std.specs.List.{flat_map}
use Rattle.std.specs.Option.{option_to_list}
use Rattle.bar_window.specs.declared.exchange.Exchange.{Exchange}
use Rattle.bar_wire.specs.declared.kind.Kind.{Kind}
use Rattle.bar_wire.specs.declared.kind.Kind.TheVariants as kinds
use Rattle.bar_wire.specs.declared.shape.Shape.{Shape}
use Rattle.bar_rules.specs.Peer.Sizes.{largest}
use Rattle.bar_ledger.specs.declared.slot.Slot.{Slot}
use Rattle.bar_ledger.specs.Code.Hearing.{most_first}
use Rattle.bar_ledger.specs.Code.Kept.{Kept, live_of}

-- the kept states in slots, without forgotten exchanges
unfoldable pub entries_of : ℕ → ℕ → List Slot → List Kept
entries_of life now slots = flat_map (λ s. option_to_list (live_of life now s)) slots

abbrev pub exchanges_of : List Kept → List Exchange
exchanges_of ks = map (λ k. k.entry.x) ks

-- Each room of a slot fits the largest datagram that it is for.
pub record HasSlotRooms (shape : Shape) (s : Slot) : Type 0 where
  pub first : s.first.size ≡ most_first shape
  pub divulge : s.divulge.size ≡ largest shape kinds.Divulge
  pub case : s.case.size ≡ largest shape kinds.Case
  pub key_request : s.key_request.size ≡ largest shape kinds.KeyReq
  pub key : s.key.size ≡ largest shape kinds.Key

-- the size of the room for a kind
abbrev pub size_for : Kind → Slot → ℕ
size_for kinds.Divulge s = s.divulge.size
size_for kinds.Case s = s.case.size
size_for kinds.KeyReq s = s.key_request.size
size_for kinds.Key s = s.key.size
size_for kind s = s.first.size

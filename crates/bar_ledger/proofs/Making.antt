-- Slots that are made one by one.
use Rattle.std.proofs.Common.{◌≡◌, ℕ, ◌+◌, List, [], ◌∷◌, ◌++◌, length, length-append, None, subst, refl, sym, ap, ◌∙◌, arith}
use Rattle.std.specs.Option.{option_to_list, option_and_then, option_map}
use Rattle.std.specs.List.{All, IsDistinct}
use Rattle.std.proofs.lemmas.List.Elements.{All-push}
use Rattle.bar_window.specs.Exchange.{same_exchange}
use Rattle.bar_wire.specs.declared.shape.Shape.{Shape}
use Rattle.bar_ledger.specs.declared.slot.Slot.{Slot}
use Rattle.bar_ledger.specs.Code.Kept.{live_of, if_recent, with_rooms}
use Rattle.bar_ledger.specs.Code.Slots.{HasSlotRooms, entries_of, exchanges_of}
use Rattle.bar_ledger.proofs.Slots.{entries-none, entries-push}

-- There are `n` slots, and they keep nothing.
pub record AreMade (shape : Shape) (slots : List Slot) (n : ℕ) : Type 0 where
  pub count : length slots ≡ n
  pub rooms : All (HasSlotRooms shape) slots
  pub empty : entries_of shape.life 0 slots ≡ []

pub made-none : (shape : Shape) (slots : List Slot) → slots ≡ [] → AreMade shape slots 0
made-none shape slots e = subst (λ slots. AreMade shape slots 0) (sym e) (record {
  count = refl;
  rooms = λ k d lt. absurd (omega (arith, lt));
  empty = entries-none shape.life 0;
})

empty-live : (life : ℕ) (s : Slot) → s.entry ≡ None → live_of life 0 s ≡ None
empty-live life s e = ap (λ o. option_and_then (if_recent life 0) (option_map (with_rooms s) o)) e

pub made-more : (shape : Shape) (slots new : List Slot) (n : ℕ) (s : Slot) → AreMade shape slots n → new ≡ slots ++ s ∷ [] → s.entry ≡ None → HasSlotRooms shape s → AreMade shape new (n + 1)
made-more shape slots new n s m e none rooms = subst (λ slots. AreMade shape slots (n + 1)) (sym e) (record {
  count = omega (arith, length-append slots (s ∷ []), m.count);
  rooms = All-push (HasSlotRooms shape) slots s m.rooms rooms;
  empty = entries-push shape.life 0 slots s ∙ (λ i. m.empty i ++ option_to_list (empty-live shape.life s none i));
})

pub made-distinct : (life : ℕ) (slots : List Slot) → entries_of life 0 slots ≡ [] → IsDistinct same_exchange (exchanges_of (entries_of life 0 slots))
unfolding IsDistinct
made-distinct life slots e = subst (λ ks. IsDistinct same_exchange (exchanges_of ks)) (sym e) tt

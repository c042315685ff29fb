-- The kept states in slots, split at one slot.
use Rattle.std.proofs.Common.{◌≡◌, ℕ, suc, ◌+◌, ◌<◌, List, [], ◌∷◌, ◌++◌, length, take, drop, get_or, Option, refl, sym, ap, ◌∙◌}
use Rattle.std.specs.Option.{option_to_list}
use Rattle.std.proofs.Math.ListN.{set}
use Rattle.std.proofs.Math.Seq.{split_at}
use Rattle.std.proofs.lemmas.List.{take_more, set_split, append-nil}
use Rattle.std.proofs.lemmas.Grind.{flat_map-append}
use Rattle.bar_ledger.specs.declared.slot.Slot.{Slot}
use Rattle.bar_ledger.specs.Code.Kept.{Kept, live_of}
use Rattle.bar_ledger.specs.Code.Slots.{entries_of}

-- a list with an element, if there is one, between two parts
abbrev pub with_part : List Kept → Option Kept → List Kept → List Kept
with_part before o after = before ++ (option_to_list o ++ after)

pub entries-none : (life now : ℕ) → entries_of life now [] ≡ []
unfolding entries_of
entries-none life now = refl

pub entries-append : (life now : ℕ) (xs ys : List Slot) → entries_of life now (xs ++ ys) ≡ entries_of life now xs ++ entries_of life now ys
unfolding entries_of
entries-append life now xs ys = flat_map-append (λ s. option_to_list (live_of life now s)) xs ys

pub entries-cons : (life now : ℕ) (s : Slot) (ss : List Slot) → entries_of life now (s ∷ ss) ≡ option_to_list (live_of life now s) ++ entries_of life now ss
unfolding entries_of
entries-cons life now s ss = refl

pub entries-push : (life now : ℕ) (ss : List Slot) (s : Slot) → entries_of life now (ss ++ s ∷ []) ≡ entries_of life now ss ++ option_to_list (live_of life now s)
entries-push life now ss s =
    entries-append life now ss (s ∷ []) ∙ ap (λ ks. entries_of life now ss ++ ks) (entries-cons life now s [] ∙ ap (λ ks. option_to_list (live_of life now s) ++ ks) (entries-none life now) ∙ append-nil (option_to_list (live_of life now s)))

-- the kept states with one more slot
pub entries-more : (life now : ℕ) (slots : List Slot) (i : ℕ) (s : Slot) → i < length slots → s ≡ get_or slots i s
    → entries_of life now (take (i + 1) slots) ≡ entries_of life now (take i slots) ++ option_to_list (live_of life now s)
entries-more life now slots i s lt is =
    ap (entries_of life now) (take_more slots i s lt ∙ ap (λ t. take i slots ++ t ∷ []) (sym is)) ∙ entries-push life now (take i slots) s

-- the kept states, split at the slot with an index
pub entries-at : (life now : ℕ) (slots : List Slot) (i : ℕ) (s : Slot) → i < length slots → s ≡ get_or slots i s
    → entries_of life now slots ≡ with_part (entries_of life now (take i slots)) (live_of life now s) (entries_of life now (drop (suc i) slots))
entries-at life now slots i s lt is =
    ap (entries_of life now) (split_at slots i s lt ∙ ap (λ t. take i slots ++ t ∷ drop (suc i) slots) (sym is))
    ∙ entries-append life now (take i slots) (s ∷ drop (suc i) slots)
    ∙ ap (λ ks. entries_of life now (take i slots) ++ ks) (entries-cons life now s (drop (suc i) slots))

-- the kept states with another slot at that index
pub entries-set : (life now : ℕ) (slots : List Slot) (i : ℕ) (s : Slot) → i < length slots
    → entries_of life now (set slots i s) ≡ with_part (entries_of life now (take i slots)) (live_of life now s) (entries_of life now (drop (suc i) slots))
entries-set life now slots i s lt =
    ap (entries_of life now) (set_split slots i s lt)
    ∙ entries-append life now (take i slots) (s ∷ drop (suc i) slots)
    ∙ ap (λ ks. entries_of life now (take i slots) ++ ks) (entries-cons life now s (drop (suc i) slots))

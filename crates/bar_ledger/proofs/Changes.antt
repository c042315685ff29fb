-- How a change of one slot affects look-ups.
use Rattle.std.proofs.Common.{◌≡◌, ℕ, suc, ◌+◌, ◌<◌, Bool, true, false, List, [], ◌∷◌, ◌++◌, length, take, drop, get_or, Option, Some, None, refl, sym, ap, subst, ◌∙◌, inl, inr}
use Rattle.std.specs.Prelude.{IfSome, option_map, option_and_then, if◌then◌else◌}
use Rattle.std.specs.Bool.{then_some}
use Rattle.std.specs.Option.{option_to_list, option_map_or}
use Rattle.std.specs.List.{All, find, IsDistinct}
use Rattle.std.proofs.lemmas.List.Elements.{All-set}
use Rattle.bar_wire.specs.declared.kind.Kind.{Kind}
use Rattle.bar_wire.specs.declared.kind.Kind.TheVariants as kinds
use Rattle.bar_wire.specs.declared.shape.Shape.{Shape}
use Rattle.std.proofs.Math.ListN.{set}
use Rattle.std.proofs.lemmas.Bool.{cases_Bool, false≢true, leb-true}
use Rattle.std.proofs.lemmas.Option.{same_Some, none-some}
use Rattle.bar_window.specs.declared.exchange.Exchange.{Exchange}
use Rattle.bar_window.specs.Exchange.{same_exchange}
use Rattle.bar_window.proofs.Exchanges.{same_exchange-is}
use Rattle.bar_ledger.specs.declared.entry.Entry.{Entry}
use Rattle.bar_ledger.specs.declared.slot.Slot.{Slot}
use Rattle.bar_ledger.specs.Code.Kept.{Kept, IsKeptFor, kept_of, newly, with_bytes, is_for, is_recent, if_recent, live_of}
use Rattle.bar_ledger.specs.Code.Slots.{HasSlotRooms, entries_of, exchanges_of}
use Rattle.bar_ledger.proofs.Slots.{with_part, entries-at, entries-set}
use Rattle.bar_ledger.proofs.Finds.{IsNamed, found-this, found-changed, none-parts}
use Rattle.bar_ledger.proofs.Distinct.{apart-parts, exchanges-part, length-part, distinct-part}

-- ---- a slot that keeps the exchange

recent-one : (life now : ℕ) (o : Option Kept) (k : Kept) → option_and_then (if_recent life now) o ≡ Some k → (o ≡ Some k) × (is_recent life now k.entry.x ≡ true)
recent-one life now None k e = absurd (none-some k e)
recent-one life now (Some j) k e = elim (cases_Bool (is_recent life now j.entry.x)) [
  | inl t ↦
      let it : j ≡ k = same_Some j k (sym (ap (λ b. then_some b j) t) ∙ e) in
      (ap (λ (j : Kept). Some j) it, subst (λ (k : Kept). is_recent life now k.entry.x ≡ true) it t)
  | inr f ↦ absurd (none-some k (sym (ap (λ b. then_some b j) f) ∙ e))
]

pub live-kept : (life now : ℕ) (s : Slot) (k : Kept) → live_of life now s ≡ Some k → (kept_of s ≡ Some k) × (is_recent life now k.entry.x ≡ true)
live-kept life now s k e = recent-one life now (kept_of s) k e

has-one : (x : Exchange) (o : Option Kept) → option_map_or (is_for x) o false ≡ true → (k : Kept) × (o ≡ Some k) × (k.entry.x ≡ x)
has-one x None e = absurd (false≢true e)
has-one x (Some k) e = (k, refl, same_exchange-is k.entry.x x e)

-- The slot at this index keeps the exchange.
pub record IsAt (x : Exchange) (life now : ℕ) (slots : List Slot) (place : ℕ) (s : Slot) : Type 0 where
  pub inside : place < length slots
  pub read : s ≡ get_or slots place s
  pub has : (d : Slot) → option_map_or (is_for x) (live_of life now (get_or slots place d)) false ≡ true
  pub distinct : IsDistinct same_exchange (exchanges_of (entries_of life now slots))

-- the kept state in this slot
pub record Keeps (x : Exchange) (life now : ℕ) (slots : List Slot) (place : ℕ) (s : Slot) : Type 0 where
  pub kept : Kept
  pub named : kept.entry.x ≡ x
  pub live : live_of life now s ≡ Some kept
  pub is : kept_of s ≡ Some kept
  pub parts : entries_of life now slots ≡ with_part (entries_of life now (take place slots)) (Some kept) (entries_of life now (drop (suc place) slots))
  pub before : find (is_for x) (entries_of life now (take place slots)) ≡ None
  pub after : find (is_for x) (entries_of life now (drop (suc place) slots)) ≡ None
  pub found : find (is_for x) (entries_of life now slots) ≡ Some kept

only-named : (x : Exchange) (k : Kept) → k.entry.x ≡ x → IsNamed x (Some k)
only-named x k e j is = ap (λ (k : Kept). k.entry.x) (sym (same_Some k j is)) ∙ e

pub keeps : (x : Exchange) (life now : ℕ) (slots : List Slot) (place : ℕ) (s : Slot) → IsAt x life now slots place s → Keeps x life now slots place s
keeps x life now slots place s at =
    let one = has-one x (live_of life now s) (subst (λ t. option_map_or (is_for x) (live_of life now t) false ≡ true) (sym at.read) (at.has s)) in
    let k : Kept = one.0 in
    let before : List Kept = entries_of life now (take place slots) in
    let after : List Kept = entries_of life now (drop (suc place) slots) in
    let parts : entries_of life now slots ≡ with_part before (Some k) after = entries-at life now slots place s at.inside at.read ∙ ap (λ o. with_part before o after) one.1 in
    let apart = apart-parts before k after (subst (λ ks. IsDistinct same_exchange (exchanges_of ks)) parts at.distinct) in
    let none : find (is_for x) before ≡ None = subst (λ x. find (is_for x) before ≡ None) one.2 apart.0 in
    let rest : find (is_for x) after ≡ None = subst (λ x. find (is_for x) after ≡ None) one.2 apart.1 in
    record {
      kept = k;
      named = one.2;
      live = one.1;
      is = (live-kept life now s k one.1).0;
      parts = parts;
      before = none;
      after = rest;
      found = ap (find (is_for x)) parts ∙ found-this x before (Some k) after (only-named x k one.2) none rest;
    }

-- ---- a change of the kept state of an exchange

-- The slot is replaced by a changed one.
pub record IsChange (x : Exchange) (life now : ℕ) (slots : List Slot) (place : ℕ) (s changed : Slot) (f : Kept → Kept) : Type 0 where
  pub at : IsAt x life now slots place s
  pub kept : kept_of changed ≡ option_map f (kept_of s)
  pub named : (k : Kept) → k.entry.x ≡ x → (f k).entry.x ≡ x

changed-live : (x : Exchange) (life now : ℕ) (slots : List Slot) (place : ℕ) (s changed : Slot) (f : Kept → Kept) → (c : IsChange x life now slots place s changed f) → (k : Keeps x life now slots place s)
    → live_of life now changed ≡ Some (f k.kept)
changed-live x life now slots place s changed f c k =
    let same : (f k.kept).entry.x ≡ k.kept.entry.x = c.named k.kept k.named ∙ sym k.named in
    ap (option_and_then (if_recent life now)) (c.kept ∙ ap (option_map f) k.is)
    ∙ ap (λ b. then_some b (f k.kept)) (ap (is_recent life now) same ∙ (live-kept life now s k.kept k.live).1)

-- all kept states after the change
pub change-after : (x : Exchange) (life now : ℕ) (slots : List Slot) (place : ℕ) (s changed : Slot) (f : Kept → Kept) → (c : IsChange x life now slots place s changed f)
    → entries_of life now (set slots place changed) ≡ with_part (entries_of life now (take place slots)) (Some (f (keeps x life now slots place s c.at).kept)) (entries_of life now (drop (suc place) slots))
change-after x life now slots place s changed f c =
    entries-set life now slots place changed c.at.inside
    ∙ ap (λ o. with_part (entries_of life now (take place slots)) o (entries_of life now (drop (suc place) slots))) (changed-live x life now slots place s changed f c (keeps x life now slots place s c.at))

pub change-found : (x : Exchange) (life now : ℕ) (slots : List Slot) (place : ℕ) (s changed : Slot) (f : Kept → Kept) → IsChange x life now slots place s changed f
    → (y : Exchange) → find (is_for y) (entries_of life now (set slots place changed)) ≡ (if same_exchange x y then option_map f (find (is_for y) (entries_of life now slots)) else find (is_for y) (entries_of life now slots))
change-found x life now slots place s changed f c y =
    let k = keeps x life now slots place s c.at in
    let before : List Kept = entries_of life now (take place slots) in
    let after : List Kept = entries_of life now (drop (suc place) slots) in
    ap (find (is_for y)) (change-after x life now slots place s changed f c)
    ∙ found-changed x before (Some k.kept) (Some (f k.kept)) after (only-named x k.kept k.named) (only-named x (f k.kept) (c.named k.kept k.named)) k.before k.after y
    ∙ elim (cases_Bool (same_exchange x y)) [
      | inl t ↦ rw t (sym (ap (option_map f) (sym (ap (λ z. find (is_for z) (entries_of life now slots)) (same_exchange-is x y t)) ∙ k.found)))
      | inr e ↦ rw e (sym (ap (find (is_for y)) k.parts))
    ]

pub change-kept : (x : Exchange) (life now : ℕ) (slots : List Slot) (place : ℕ) (s changed : Slot) (f : Kept → Kept) → IsChange x life now slots place s changed f
    → exchanges_of (entries_of life now (set slots place changed)) ≡ exchanges_of (entries_of life now slots)
change-kept x life now slots place s changed f c =
    let k = keeps x life now slots place s c.at in
    let before : List Kept = entries_of life now (take place slots) in
    let after : List Kept = entries_of life now (drop (suc place) slots) in
    ap exchanges_of (change-after x life now slots place s changed f c)
    ∙ exchanges-part before (Some (f k.kept)) after
    ∙ ap (λ z. exchanges_of before ++ (z ∷ exchanges_of after)) (c.named k.kept k.named ∙ sym k.named)
    ∙ sym (exchanges-part before (Some k.kept) after)
    ∙ sym (ap exchanges_of k.parts)

pub change-distinct : (x : Exchange) (life now : ℕ) (slots : List Slot) (place : ℕ) (s changed : Slot) (f : Kept → Kept) → IsChange x life now slots place s changed f
    → IsDistinct same_exchange (exchanges_of (entries_of life now (set slots place changed)))
change-distinct x life now slots place s changed f c =
    subst (IsDistinct same_exchange) (sym (change-kept x life now slots place s changed f c)) c.at.distinct

-- the rooms keep their sizes
pub rooms-set : (shape : Shape) (slots : List Slot) (place : ℕ) (s changed : Slot) → place < length slots → s ≡ get_or slots place s → All (HasSlotRooms shape) slots → (HasSlotRooms shape s → HasSlotRooms shape changed)
    → All (HasSlotRooms shape) (set slots place changed)
rooms-set shape slots place s changed inside read all keep =
    All-set (HasSlotRooms shape) slots place changed (keep (subst (HasSlotRooms shape) (sym read) (all place s inside))) all

-- ---- one more exchange

-- A free slot is given to an exchange that isn't kept yet.
pub record IsGiven (life now : ℕ) (slots : List Slot) (place : ℕ) (s given : Slot) (e : Entry) : Type 0 where
  pub inside : place < length slots
  pub read : s ≡ get_or slots place s
  pub free : (d : Slot) → live_of life now (get_or slots place d) ≡ None
  pub is : kept_of given ≡ Some (newly e)
  pub new : find (is_for e.x) (entries_of life now slots) ≡ None

then-named : (b : Bool) (e : Entry) → IsNamed e.x (then_some b (newly e))
then-named true e k is = ap (λ (k : Kept). k.entry.x) (sym (same_Some (newly e) k is))
then-named false e k is = absurd (none-some k is)

pub given-before : (life now : ℕ) (slots : List Slot) (place : ℕ) (s given : Slot) (e : Entry) → IsGiven life now slots place s given e
    → entries_of life now slots ≡ with_part (entries_of life now (take place slots)) None (entries_of life now (drop (suc place) slots))
given-before life now slots place s given e g =
    let none : live_of life now s ≡ None = subst (λ t. live_of life now t ≡ None) (sym g.read) (g.free s) in
    entries-at life now slots place s g.inside g.read ∙ ap (λ o. with_part (entries_of life now (take place slots)) o (entries_of life now (drop (suc place) slots))) none

pub given-after : (life now : ℕ) (slots : List Slot) (place : ℕ) (s given : Slot) (e : Entry) → IsGiven life now slots place s given e
    → entries_of life now (set slots place given) ≡ with_part (entries_of life now (take place slots)) (if_recent life now (newly e)) (entries_of life now (drop (suc place) slots))
given-after life now slots place s given e g =
    entries-set life now slots place given g.inside
    ∙ ap (λ o. with_part (entries_of life now (take place slots)) (option_and_then (if_recent life now) o) (entries_of life now (drop (suc place) slots))) g.is

given-none : (life now : ℕ) (slots : List Slot) (place : ℕ) (s given : Slot) (e : Entry) → IsGiven life now slots place s given e
    → find (is_for e.x) (with_part (entries_of life now (take place slots)) None (entries_of life now (drop (suc place) slots))) ≡ None
given-none life now slots place s given e g = sym (ap (find (is_for e.x)) (given-before life now slots place s given e g)) ∙ g.new

pub given-found : (life now : ℕ) (slots : List Slot) (place : ℕ) (s given : Slot) (e : Entry) → IsGiven life now slots place s given e
    → (y : Exchange) → find (is_for y) (entries_of life now (set slots place given)) ≡ (if same_exchange e.x y then if_recent life now (newly e) else find (is_for y) (entries_of life now slots))
given-found life now slots place s given e g y =
    let before : List Kept = entries_of life now (take place slots) in
    let after : List Kept = entries_of life now (drop (suc place) slots) in
    let none = none-parts e.x before after (given-none life now slots place s given e g) in
    ap (find (is_for y)) (given-after life now slots place s given e g)
    ∙ found-changed e.x before None (if_recent life now (newly e)) after (λ k is. absurd (none-some k is)) (then-named (is_recent life now e.x) e) none.0 none.1 y
    ∙ ap (λ f. if same_exchange e.x y then if_recent life now (newly e) else f) (sym (ap (find (is_for y)) (given-before life now slots place s given e g)))

pub given-count : (life now : ℕ) (slots : List Slot) (place : ℕ) (s given : Slot) (e : Entry) → IsGiven life now slots place s given e
    → length (exchanges_of (entries_of life now (set slots place given))) ≡ length (exchanges_of (entries_of life now slots)) + length (option_to_list (if_recent life now (newly e)))
given-count life now slots place s given e g =
    let before : List Kept = entries_of life now (take place slots) in
    let after : List Kept = entries_of life now (drop (suc place) slots) in
    ap (λ ks. length (exchanges_of ks)) (given-after life now slots place s given e g)
    ∙ length-part before (if_recent life now (newly e)) after
    ∙ ap (λ ks. length (exchanges_of ks) + length (option_to_list (if_recent life now (newly e)))) (sym (given-before life now slots place s given e g))

pub given-distinct : (life now : ℕ) (slots : List Slot) (place : ℕ) (s given : Slot) (e : Entry) → IsGiven life now slots place s given e
    → IsDistinct same_exchange (exchanges_of (entries_of life now slots)) → IsDistinct same_exchange (exchanges_of (entries_of life now (set slots place given)))
given-distinct life now slots place s given e g d =
    subst (λ ks. IsDistinct same_exchange (exchanges_of ks)) (sym (given-after life now slots place s given e g))
    (distinct-part e.x (entries_of life now (take place slots)) (if_recent life now (newly e)) (entries_of life now (drop (suc place) slots)) (then-named (is_recent life now e.x) e)
    (given-none life now slots place s given e g)
    (subst (λ ks. IsDistinct same_exchange (exchanges_of ks)) (given-before life now slots place s given e g) d))

-- ---- a kept state that is found is that of the exchange, which isn't forgotten

own-one : (x : Exchange) (life now : ℕ) (k : Kept) → is_recent life now k.entry.x ≡ true → is_for x k ≡ true → IsKeptFor x life now k
own-one x life now k t same =
    let named : k.entry.x ≡ x = same_exchange-is k.entry.x x same in
    record { named = named; recent = leb-true now (x.round + life) (subst (λ z. is_recent life now z ≡ true) named t) }

own-slot : (x : Exchange) (life now : ℕ) (o : Option Kept) (rest : List Kept) → IfSome (find (is_for x) rest) (IsKeptFor x life now)
    → IfSome (find (is_for x) (option_to_list (option_and_then (if_recent life now) o) ++ rest)) (IsKeptFor x life now)
own-slot x life now None rest own = own
own-slot x life now (Some k) rest own = elim (cases_Bool (is_recent life now k.entry.x)) [
  | inl t ↦ elim (cases_Bool (is_for x k)) [ inl same ↦ rw (t, same) (own-one x life now k t same) | inr other ↦ rw (t, other) own ]
  | inr f ↦ rw f own
]

pub found-own : (x : Exchange) (life now : ℕ) (slots : List Slot) → IfSome (find (is_for x) (entries_of life now slots)) (IsKeptFor x life now)
unfolding entries_of
found-own x life now [] = tt
found-own x life now (s ∷ ss) = own-slot x life now (kept_of s) (entries_of life now ss) (found-own x life now ss)

-- hearing a datagram doesn't change the entry
pub bytes-entry : (kind : Kind) (bytes : List ℕ) (k : Kept) → (with_bytes kind bytes k).entry ≡ k.entry
bytes-entry kinds.Manifest bytes k = refl
bytes-entry kinds.Block bytes k = refl
bytes-entry kinds.Request bytes k = refl
bytes-entry kinds.Response bytes k = refl
bytes-entry kinds.Divulge bytes k = refl
bytes-entry kinds.Query bytes k = refl
bytes-entry kinds.Reply bytes k = refl
bytes-entry kinds.Case bytes k = refl
bytes-entry kinds.KeyReq bytes k = refl
bytes-entry kinds.Key bytes k = refl
bytes-entry kinds.Evidence bytes k = refl
bytes-entry kinds.Evict bytes k = refl

pub bytes-named : (kind : Kind) (bytes : List ℕ) (x : Exchange) (k : Kept) → k.entry.x ≡ x → (with_bytes kind bytes k).entry.x ≡ x
bytes-named kind bytes x k e = ap (λ (e : Entry). e.x) (bytes-entry kind bytes k) ∙ e

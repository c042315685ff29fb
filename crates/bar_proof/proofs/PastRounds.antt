-- The first round with an update past the end of its list.
use Rattle.std.proofs.Common.{◌≡◌, ℕ, ◌+◌, ◌<◌, ◌≤◌, min, Bool, true, false, ◌&&◌, ◌||◌, cond, List, [], ◌∷◌, ◌++◌, length, map, refl, sym, ap, ◌∙◌, inl, inr, arith}
use Rattle.std.specs.Prelude.{Option, Some, None, ◌==◌, nat_le, filter, option_map}
use Rattle.std.specs.List.{AllByRecursion, list_any}
use Rattle.std.specs.Option.{option_or}
use Rattle.std.proofs.lemmas.Bool.{both_ways, cases_lt, eq-eqb, eqb-true, or_right}
use Rattle.std.proofs.lemmas.List.Folds.{list_any-append}
use Rattle.std.proofs.lemmas.Option.{same_Some}
use Rattle.bar_window.specs.declared.update.UpdateId.{UpdateId}
use Rattle.bar_window.specs.declared.window.Window.{Window}
use Rattle.bar_window.specs.Updates.{same_update, has_update}
use Rattle.bar_window.specs.Code.Window.{members}
use Rattle.bar_window.proofs.Sets.{same_self, has_contains}
use Rattle.bar_window.proofs.Members.{member_has_room}
use Rattle.bar_terms.specs.Table.{Table, digest_of, is_past_end}
use Rattle.bar_terms.proofs.Ends.{any_fails, past_from, is_from}
use Rattle.bar_proof.specs.Needs.{least, rounds_past_end}

-- an update of a round that is past the end of its list
abbrev pub is_past_in : Table → ℕ → UpdateId → Bool
is_past_in table round u = (u.round == round) && is_past_end (digest_of table u)

same-any : (p q : UpdateId → Bool) (us : List UpdateId) → ((u : UpdateId) → p u ≡ q u) → list_any p us ≡ list_any q us
same-any p q [] same = refl
same-any p q (u ∷ us) same = λ i. same u i || same-any p q us same i

-- by the length of the round's list
pub by-count : (table : Table) (us : List UpdateId) (round count : ℕ) → option_map length (table round) ≡ Some count
    → list_any (is_from round count) us ≡ list_any (is_past_in table round) us
by-count table us round count has = same-any (is_from round count) (is_past_in table round) us (λ u. go u (u.round == round) refl)
  where
    go : (u : UpdateId) (b : Bool) → (u.round == round) ≡ b → (b && nat_le count u.index) ≡ (b && is_past_end (digest_of table u))
    go u false e = refl
    go u true e = sym (past_from (table u.round) count u.index (ap (λ r. option_map length (table r)) (eqb-true u.round round e) ∙ has))

pub by-none : (table : Table) (us : List UpdateId) (round : ℕ) → option_map length (table round) ≡ None → list_any (is_past_in table round) us ≡ false
by-none table us round has = same-any (is_past_in table round) (λ u. false) us (λ u. go u (u.round == round) refl) ∙ none us
  where
    unlisted : (o : Option (List (List ℕ))) → option_map length o ≡ None → o ≡ None
    unlisted None e = refl
    unlisted (Some ds) e = cc

    go : (u : UpdateId) (b : Bool) → (u.round == round) ≡ b → (b && is_past_end (digest_of table u)) ≡ false
    go u false e = refl
    go u true e = let same : table u.round ≡ None = ap table (eqb-true u.round round e) ∙ unlisted (table round) has in rw same refl

    none : (vs : List UpdateId) → list_any (λ (u : UpdateId). false) vs ≡ false
    none [] = refl
    none (v ∷ vs) = none vs

-- ---- the least of some numbers

low-least : (r : ℕ) (rs : List ℕ) (m : ℕ) → AllByRecursion (λ q. r ≤ q) rs → least rs ≡ Some m → r ≤ m
low-least r [] m all e = cc
low-least r (q ∷ rs) m all e = go (least rs) (λ n h. low-least r rs n all.1 h) e
  where
    go : (o : Option ℕ) → ((n : ℕ) → o ≡ Some n → r ≤ n) → option_or (option_map (min q) o) (Some q) ≡ Some m → r ≤ m
    go None later e = let same = same_Some q m e in omega (arith, all.0, same)
    go (Some n) later e = let same = same_Some (min q n) m e in omega (arith, all.0, later n refl, same)

least-of : (r : ℕ) (rs : List ℕ) → AllByRecursion (λ q. r ≤ q) rs → list_any (λ q. q == r) rs ≡ true → least rs ≡ Some r
least-of r [] all some = cc
least-of r (q ∷ rs) all some = go (q == r) refl some (λ later. least-of r rs all.1 later)
  where
    here : q ≡ r → (o : Option ℕ) → least rs ≡ o → option_or (option_map (min q) o) (Some q) ≡ Some r
    here e None h = ap Some e
    here e (Some n) h = ap Some (omega (arith, e, low-least r rs n all.1 h))

    go : (b : Bool) → (q == r) ≡ b → (b || list_any (λ p. p == r) rs) ≡ true → (list_any (λ p. p == r) rs ≡ true → least rs ≡ Some r) → least (q ∷ rs) ≡ Some r
    go true e some later = here (eqb-true q r e) (least rs) refl
    go false e some later = ap (λ o. option_or (option_map (min q) o) (Some q)) (later some) ∙ ap Some (omega (arith, all.0))

-- ---- the rounds past the end

-- an update past the end is of this round or a later one
abbrev pub Late : Table → ℕ → UpdateId → Type 0
Late table r u = is_past_end (digest_of table u) ≡ true → r ≤ u.round

late-rounds : (table : Table) (r : ℕ) (us : List UpdateId) → AllByRecursion (Late table r) us → AllByRecursion (λ q. r ≤ q) (rounds_past_end table us)
late-rounds table r [] all = tt
late-rounds table r (u ∷ us) all = go (is_past_end (digest_of table u)) refl (late-rounds table r us all.1)
  where
    go : (b : Bool) → is_past_end (digest_of table u) ≡ b → AllByRecursion (λ q. r ≤ q) (rounds_past_end table us)
        → AllByRecursion (λ q. r ≤ q) (map (λ (v : UpdateId). v.round) (cond b (u ∷ filter (λ v. is_past_end (digest_of table v)) us) (filter (λ v. is_past_end (digest_of table v)) us)))
    go true e later = (all.0 e, later)
    go false e later = later

any-round : (table : Table) (r : ℕ) (us : List UpdateId) → list_any (λ q. q == r) (rounds_past_end table us) ≡ list_any (is_past_in table r) us
any-round table r [] = refl
any-round table r (u ∷ us) = go (is_past_end (digest_of table u)) (u.round == r) refl (any-round table r us)
  where
    go : (b e : Bool) → (u.round == r) ≡ e → list_any (λ q. q == r) (rounds_past_end table us) ≡ list_any (is_past_in table r) us
        → list_any (λ q. q == r) (map (λ (v : UpdateId). v.round) (cond b (u ∷ filter (λ v. is_past_end (digest_of table v)) us) (filter (λ v. is_past_end (digest_of table v)) us)))
        ≡ ((e && b) || list_any (is_past_in table r) us)
    go true true h later = rw h refl
    go true false h later = rw h later
    go false true h later = later
    go false false h later = later

no-rounds : (table : Table) (us : List UpdateId) → AllByRecursion (λ u. is_past_end (digest_of table u) ≡ false) us → rounds_past_end table us ≡ []
no-rounds table [] all = refl
no-rounds table (u ∷ us) all = rw all.0 (no-rounds table us all.1)

-- ---- of two windows

all-has : (P : UpdateId → Type 0) (us : List UpdateId) → ((u : UpdateId) → has_update us u ≡ true → P u) → AllByRecursion P us
all-has P [] each = tt
all-has P (u ∷ us) each = (each u (ap (λ b. b || has_update us u) (same_self u)), all-has P us (λ v there. each v (later v there)))
  where
    later : (v : UpdateId) → has_update us v ≡ true → has_update (u ∷ us) v ≡ true
    later v there = or_right (same_update v u) (has_update us v) there

all-append : (P : UpdateId → Type 0) (us vs : List UpdateId) → AllByRecursion P us → AllByRecursion P vs → AllByRecursion P (us ++ vs)
all-append P [] vs one two = two
all-append P (u ∷ us) vs one two = (one.0, all-append P us vs one.1 two)

-- no update of earlier rounds is past the end
abbrev pub NoneBefore : Table → List UpdateId → ℕ → Type 0
NoneBefore table us r = (u : UpdateId) → has_update us u ≡ true → u.round < r → is_past_end (digest_of table u) ≡ false

pub none-yet : (table : Table) (w : Window) → NoneBefore table (members w) w.base
none-yet table w u has lt = let room = member_has_room w u (has_contains (members w) u has) in absurd (omega (arith, lt, room.after))

pub none-more : (table : Table) (us : List UpdateId) (r : ℕ) → NoneBefore table us r → list_any (is_past_in table r) us ≡ false → NoneBefore table us (r + 1)
none-more table us r before none u has lt = elim (cases_lt u.round r) [
  | inl early ↦ before u has early
  | inr here ↦ (let e : (u.round == r) ≡ true = eq-eqb u.round r (omega (arith, lt, here)) in
      sym (ap (λ b. b && is_past_end (digest_of table u)) e) ∙ any_fails (is_past_in table r) us u none has)
]

late : (table : Table) (us : List UpdateId) (r : ℕ) → NoneBefore table us r → AllByRecursion (Late table r) us
late table us r before = all-has (Late table r) us (λ u has past. elim (cases_lt u.round r) [
  | inl early ↦ absurd (both_ways (is_past_end (digest_of table u)) (before u has early) past)
  | inr there ↦ there
])

pub first-is : (table : Table) (us vs : List UpdateId) (r : ℕ) → NoneBefore table us r → NoneBefore table vs r
    → (list_any (is_past_in table r) us || list_any (is_past_in table r) vs) ≡ true → least (rounds_past_end table (us ++ vs)) ≡ Some r
first-is table us vs r one two some =
    least-of r (rounds_past_end table (us ++ vs)) (late-rounds table r (us ++ vs) (all-append (Late table r) us vs (late table us r one) (late table vs r two)))
    (any-round table r (us ++ vs) ∙ (list_any-append (is_past_in table r) us vs ∙ some))

pub none-is : (table : Table) (w v : Window) (r : ℕ) → w.base + w.used ≤ r → v.base + v.used ≤ r → NoneBefore table (members w) r → NoneBefore table (members v) r
    → least (rounds_past_end table (members w ++ members v)) ≡ None
none-is table w v r high high' one two =
    ap least (no-rounds table (members w ++ members v) (all-append (λ u. is_past_end (digest_of table u) ≡ false) (members w) (members v) (none w high one) (none v high' two)))
  where
    none : (w : Window) → w.base + w.used ≤ r → NoneBefore table (members w) r → AllByRecursion (λ u. is_past_end (digest_of table u) ≡ false) (members w)
    none w high before = all-has (λ u. is_past_end (digest_of table u) ≡ false) (members w) (λ u has.
        let room = member_has_room w u (has_contains (members w) u has) in before u has (omega (arith, room.before, high)))

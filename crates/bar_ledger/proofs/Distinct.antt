-- Each exchange is kept at most once.
use Rattle.std.proofs.Common.{◌≡◌, ◌+◌, Bool, true, false, cond, List, [], ◌∷◌, ◌++◌, length, Option, Some, None, refl, sym, ap, subst, ◌∙◌, inl, inr, arith, length-append}
use Rattle.std.specs.Prelude.{is_some, filter}
use Rattle.std.specs.Option.{option_to_list}
use Rattle.std.specs.List.{find, list_any, AllByRecursion, IsDistinct, list_all}
use Rattle.std.proofs.lemmas.Bool.{cases_Bool}
use Rattle.std.proofs.lemmas.List.{length-map, map-append}
use Rattle.std.proofs.lemmas.Option.{none-some}
use Rattle.bar_window.specs.declared.exchange.Exchange.{Exchange}
use Rattle.bar_window.specs.Exchange.{same_exchange}
use Rattle.bar_window.proofs.Exchanges.{same_exchange_refl, same_flips}
use Rattle.bar_ledger.specs.Code.Kept.{Kept, is_for}
use Rattle.bar_ledger.specs.Code.Slots.{exchanges_of}
use Rattle.bar_ledger.proofs.Slots.{with_part}

-- the exchange differs from each of them
abbrev IsApart : Exchange → List Exchange → Type 0
IsApart x ys = AllByRecursion (λ y. same_exchange x y ≡ false) ys

exchanges-append : (xs ys : List Kept) → exchanges_of (xs ++ ys) ≡ exchanges_of xs ++ exchanges_of ys
exchanges-append xs ys = map-append (λ (k : Kept). k.entry.x) xs ys

pub exchanges-part : (before : List Kept) (o : Option Kept) (after : List Kept)
    → exchanges_of (with_part before o after) ≡ exchanges_of before ++ (exchanges_of (option_to_list o) ++ exchanges_of after)
exchanges-part before o after = exchanges-append before (option_to_list o ++ after) ∙ ap (λ xs. exchanges_of before ++ xs) (exchanges-append (option_to_list o) after)

pub exchanges-length : (ks : List Kept) → length (exchanges_of ks) ≡ length ks
exchanges-length ks = length-map ks (λ (k : Kept). k.entry.x)

pub length-part : (before : List Kept) (o : Option Kept) (after : List Kept)
    → length (exchanges_of (with_part before o after)) ≡ length (exchanges_of (with_part before None after)) + length (option_to_list o)
length-part before o after =
    let all : length (with_part before o after) ≡ length before + (length (option_to_list o) + length after) = length-append before (option_to_list o ++ after) ∙ ap (λ n. length before + n) (length-append (option_to_list o) after) in
    let rest : length (with_part before None after) ≡ length before + length after = length-append before after in
    exchanges-length (with_part before o after) ∙ all ∙ omega (arith, rest, exchanges-length (with_part before None after))

-- ---- look-ups of distinct exchanges

pub apart-found : (x : Exchange) (ks : List Kept) → IsApart x (exchanges_of ks) → find (is_for x) ks ≡ None
apart-found x [] a = refl
apart-found x (k ∷ ks) a =
    let other : is_for x k ≡ false = same_flips k.entry.x x ∙ a.0 in
    rw other (apart-found x ks a.1)

pub found-apart : (x : Exchange) (ks : List Kept) → find (is_for x) ks ≡ None → IsApart x (exchanges_of ks)
found-apart x [] e = tt
found-apart x (k ∷ ks) e = elim (cases_Bool (is_for x k)) [
  | inl is ↦ absurd (none-some k (sym e ∙ ap (λ b. cond b (Some k) (find (is_for x) ks)) is))
  | inr is ↦ (same_flips x k.entry.x ∙ is, found-apart x ks (sym (ap (λ b. cond b (Some k) (find (is_for x) ks)) is) ∙ e))
]

pub among-found : (x : Exchange) (ks : List Kept) → list_any (same_exchange x) (exchanges_of ks) ≡ is_some (find (is_for x) ks)
among-found x [] = refl
among-found x (k ∷ ks) = elim (cases_Bool (is_for x k)) [
  | inl is ↦ let other : same_exchange x k.entry.x ≡ true = same_flips x k.entry.x ∙ is in rw (is, other) refl
  | inr is ↦ let other : same_exchange x k.entry.x ≡ false = same_flips x k.entry.x ∙ is in rw (is, other) (among-found x ks)
]

found-more : (x : Exchange) (k : Kept) (ks : List Kept) → is_some (find (is_for x) ks) ≡ true → is_some (find (is_for x) (k ∷ ks)) ≡ true
found-more x k ks e = elim (cases_Bool (is_for x k)) [ inl is ↦ rw is refl | inr other ↦ rw other e ]

found-itself : (k : Kept) (ks : List Kept) → is_some (find (is_for k.entry.x) (k ∷ ks)) ≡ true
found-itself k ks = let same : is_for k.entry.x k ≡ true = same_exchange_refl k.entry.x in rw same refl

-- if a test holds for each exchange that is found, it holds for all
pub each-found : (test : Exchange → Bool) (ks : List Kept) → ((x : Exchange) → is_some (find (is_for x) ks) ≡ true → test x ≡ true) → list_all test (exchanges_of ks) ≡ true
each-found test [] holds = refl
each-found test (k ∷ ks) holds =
    let first : test k.entry.x ≡ true = holds k.entry.x (found-itself k ks) in
    rw first (each-found test ks (λ x e. holds x (found-more x k ks e)))

-- ---- each kept state is found by its exchange

abbrev pub AreFound : List Kept → List Kept → Type 0
AreFound all ks = AllByRecursion (λ k. find (is_for k.entry.x) all ≡ Some k) ks

found-behind : (k : Kept) (all ks : List Kept) → IsApart k.entry.x (exchanges_of ks) → AreFound all ks → AreFound (k ∷ all) ks
found-behind k all [] apart found = tt
found-behind k all (j ∷ js) apart found =
    let other : is_for j.entry.x k ≡ false = apart.0 in
    (rw other found.0, found-behind k all js apart.1 found.1)

pub found-each : (ks : List Kept) → IsDistinct same_exchange (exchanges_of ks) → AreFound ks ks
unfolding IsDistinct
found-each [] d = tt
found-each (k ∷ ks) d =
    let same : is_for k.entry.x k ≡ true = same_exchange_refl k.entry.x in
    (rw same refl, found-behind k ks ks d.0 (found-each ks d.1))

-- ---- parts

apart-at : (x : Exchange) (before : List Kept) (k : Kept) (after : List Kept) → IsApart x (exchanges_of (before ++ k ∷ after)) → same_exchange x k.entry.x ≡ false
apart-at x [] k after a = a.0
apart-at x (b ∷ before) k after a = apart-at x before k after a.1

-- no other part contains the exchange
pub apart-parts : (before : List Kept) (k : Kept) (after : List Kept) → IsDistinct same_exchange (exchanges_of (before ++ k ∷ after))
    → (find (is_for k.entry.x) before ≡ None) × (find (is_for k.entry.x) after ≡ None)
unfolding IsDistinct
apart-parts [] k after d = (refl, apart-found k.entry.x after d.0)
apart-parts (b ∷ before) k after d =
    let rest = apart-parts before k after d.1 in
    let other : is_for k.entry.x b ≡ false = apart-at b.entry.x before k after d.0 in
    (ap (λ t. cond t (Some b) (find (is_for k.entry.x) before)) other ∙ rest.0, rest.1)

spread : (P : Exchange → Type 0) (z : Exchange) (xs ys : List Exchange) → AllByRecursion P (xs ++ ys) → P z → AllByRecursion P (xs ++ z ∷ ys)
spread P z [] ys a p = (p, a)
spread P z (x ∷ xs) ys a p = (a.0, spread P z xs ys a.1 p)

with-one : (z : Exchange) (xs ys : List Exchange) → IsDistinct same_exchange (xs ++ ys) → IsApart z (xs ++ ys) → IsDistinct same_exchange (xs ++ z ∷ ys)
unfolding IsDistinct
with-one z [] ys d a = (a, d)
with-one z (x ∷ xs) ys d a = (spread (λ y. same_exchange x y ≡ false) z xs ys d.0 (same_flips x z ∙ a.0), with-one z xs ys d.1 a.1)

-- one more part, whose exchange isn't in the list yet
pub distinct-part : (x : Exchange) (before : List Kept) (o : Option Kept) (after : List Kept) → ((k : Kept) → o ≡ Some k → k.entry.x ≡ x) → find (is_for x) (with_part before None after) ≡ None
    → IsDistinct same_exchange (exchanges_of (with_part before None after)) → IsDistinct same_exchange (exchanges_of (with_part before o after))
distinct-part x before None after named none d = d
distinct-part x before (Some k) after named none d =
    let parts : exchanges_of (before ++ after) ≡ exchanges_of before ++ exchanges_of after = exchanges-append before after in
    let apart : IsApart k.entry.x (exchanges_of (before ++ after)) = found-apart k.entry.x (before ++ after) (ap (λ x. find (is_for x) (before ++ after)) (named k refl) ∙ none) in
    subst (IsDistinct same_exchange) (sym (exchanges-append before (k ∷ after)))
    (with-one k.entry.x (exchanges_of before) (exchanges_of after) (subst (IsDistinct same_exchange) parts d) (subst (IsApart k.entry.x) parts apart))

-- ---- filters

all-filter : (P : Exchange → Type 0) (test : Exchange → Bool) (xs : List Exchange) → AllByRecursion P xs → AllByRecursion P (filter test xs)
all-filter P test [] a = tt
all-filter P test (x ∷ xs) a = elim (cases_Bool (test x)) [
  | inl e ↦ rw e (a.0, all-filter P test xs a.1)
  | inr e ↦ rw e (all-filter P test xs a.1)
]

pub distinct-filter : (test : Exchange → Bool) (xs : List Exchange) → IsDistinct same_exchange xs → IsDistinct same_exchange (filter test xs)
unfolding IsDistinct
distinct-filter test [] d = d
distinct-filter test (x ∷ xs) d = elim (cases_Bool (test x)) [
  | inl e ↦ rw e (all-filter (λ y. same_exchange x y ≡ false) test xs d.0, distinct-filter test xs d.1)
  | inr e ↦ rw e (distinct-filter test xs d.1)
]

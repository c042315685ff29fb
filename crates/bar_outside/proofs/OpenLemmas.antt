-- The children that a spawner has started, and those that haven't been waited for.
use Rattle.std.proofs.Common.{◌≡◌, ◌≤◌, ◌<◌, ◌+◌, ◌∙◌, ◌++◌, ◌∷◌, ◌==◌, ◌||◌, ◌&&◌, [], ℕ, zero, suc, ℤ, Bool, true, false, List, Option, nat_lt, if◌then◌else◌, refl, sym, ap, subst, inl, inr, arith}
use Rattle.std.proofs.lemmas.List.Folds.{list_any-append}
use Rattle.std.proofs.lemmas.Bool.{cases_Bool, and_from, ltb-true, or_from, or_left, or_parts, or_right}
use Rattle.std.proofs.lemmas.Bool.Decides.{nat_tests}
use Rattle.bar_outside.specs.Code.Children.{ChildCall, IsRunning, Started, Waited, child_of, is_named, is_started, is_waited, starts, waits}
use Rattle.bar_outside.specs.Code.OpenChildren.{are_below, open_below}

-- ---- tests

or-false : (b : Bool) → (b || false) ≡ b
or-false true = refl
or-false false = refl

or-none : (a b : Bool) → a ≡ false → b ≡ false → (a || b) ≡ false
or-none true b h k = h
or-none false b h k = k

and-left : (a b : Bool) → (a && b) ≡ true → a ≡ true
and-left true b h = refl
and-left false b h = h

and-right : (a b : Bool) → (a && b) ≡ true → b ≡ true
and-right true b h = h
and-right false b h = absurd (false-true h)
  where
    false-true : false ≡ true → ⊥
    false-true e = cc

is-same : (a b : ℕ) → (a == b) ≡ true → a ≡ b
is-same a b h = grind (arith, nat_tests)

to-below : (a b : ℕ) → a < b → nat_lt a b ≡ true
to-below a b h = grind (arith, nat_tests)

is-other : (a b : ℕ) → a < b → (a == b) ≡ false
is-other a b h = grind (arith, nat_tests)

is-before : (a b : ℕ) → a < suc b → (a == b) ≡ false → a < b
is-before a b h k = grind (arith, nat_tests)

-- ---- one more call

waited-started : (k : ℕ) (calls : List ChildCall) (words : List (List ℕ)) (child : ℕ) →
    is_waited k (calls ++ Started words child ∷ []) ≡ is_waited k calls
waited-started k calls words child = list_any-append (waits k) calls (Started words child ∷ []) ∙ or-false (is_waited k calls)

waited-waited : (k : ℕ) (calls : List ChildCall) (child : ℕ) (status : Option ℤ) →
    is_waited k (calls ++ Waited child status ∷ []) ≡ (is_waited k calls || (child == k))
waited-waited k calls child status =
    list_any-append (waits k) calls (Waited child status ∷ []) ∙ ap (λ b. is_waited k calls || b) (or-false (child == k))

-- ---- how many are open

few-flag : (b : Bool) (m n : ℕ) → m ≤ n → (if b then 0 else 1) + m ≤ suc n
few-flag true m n h = omega (arith, h)
few-flag false m n h = omega (arith, h)

-- at most as many as there are children
pub open-few : (n : ℕ) (calls : List ChildCall) → open_below n calls ≤ n
open-few zero calls = omega arith
open-few (suc n) calls = few-flag (is_waited n calls) (open_below n calls) n (open-few n calls)

less-flag : (a b : Bool) (m n : ℕ) → m ≤ n → (if a || b then 0 else 1) + m ≤ (if a then 0 else 1) + n
less-flag true b m n h = omega (arith, h)
less-flag false true m n h = omega (arith, h)
less-flag false false m n h = omega (arith, h)

open-less : (n : ℕ) (calls : List ChildCall) (child : ℕ) (status : Option ℤ) →
    open_below n (calls ++ Waited child status ∷ []) ≤ open_below n calls
open-less zero calls child status = omega arith
open-less (suc n) calls child status =
    subst (λ (f : Bool). (if f then 0 else 1) + open_below n (calls ++ Waited child status ∷ []) ≤ open_below (suc n) calls)
    (sym (waited-waited n calls child status))
    (less-flag (is_waited n calls) (child == n) _ _ (open-less n calls child status))

at-flag : (a b : Bool) (m n : ℕ) → a ≡ false → b ≡ true → m ≤ n → (if a || b then 0 else 1) + m + 1 ≤ (if a then 0 else 1) + n
at-flag true b m n h k l = absurd (true-false h)
  where
    true-false : true ≡ false → ⊥
    true-false e = cc
at-flag false true m n h k l = omega (arith, l)
at-flag false false m n h k l = absurd (false-true k)
  where
    false-true : false ≡ true → ⊥
    false-true e = cc

past-flag : (a b : Bool) (m n : ℕ) → b ≡ false → m + 1 ≤ n → (if a || b then 0 else 1) + m + 1 ≤ (if a then 0 else 1) + n
past-flag true b m n h l = omega (arith, l)
past-flag false false m n h l = omega (arith, l)
past-flag false true m n h l = absurd (true-false h)
  where
    true-false : true ≡ false → ⊥
    true-false e = cc

-- one less, if an open child is waited for
pub open-waited : (n : ℕ) (calls : List ChildCall) (child : ℕ) (status : Option ℤ) → child < n → is_waited child calls ≡ false →
    open_below n (calls ++ Waited child status ∷ []) + 1 ≤ open_below n calls
open-waited zero calls child status below unwaited = absurd (omega (arith, below))
open-waited (suc n) calls child status below unwaited =
    subst (λ (f : Bool). (if f then 0 else 1) + open_below n (calls ++ Waited child status ∷ []) + 1 ≤ open_below (suc n) calls)
    (sym (waited-waited n calls child status)) (by-place (open-waited n calls child status))
  where
    by-place : (child < n → is_waited child calls ≡ false →
        open_below n (calls ++ Waited child status ∷ []) + 1 ≤ open_below n calls) →
        (if is_waited n calls || (child == n) then 0 else 1) + open_below n (calls ++ Waited child status ∷ []) + 1
        ≤ (if is_waited n calls then 0 else 1) + open_below n calls
    by-place earlier = elim (cases_Bool (child == n)) [
      | inl same ↦ at-flag (is_waited n calls) (child == n) _ _
          (subst (λ (k : ℕ). is_waited k calls ≡ false) (is-same child n same) unwaited) same (open-less n calls child status)
      | inr other ↦ past-flag (is_waited n calls) (child == n) _ _ other
          (earlier (is-before child n below other) unwaited)
    ]

-- ---- the children of the calls

pub below-more : (n m : ℕ) (calls : List ChildCall) → n ≤ m → are_below n calls ≡ true → are_below m calls ≡ true
below-more n m [] h below = refl
below-more n m (call ∷ calls) h below =
    let first : child_of call < n = ltb-true (child_of call) n (and-left _ (are_below n calls) below) in
    and_from (nat_lt (child_of call) m) (are_below m calls) (to-below (child_of call) m (omega (arith, h, first)))
    (below-more n m calls h (and-right (nat_lt (child_of call) n) _ below))

-- one more call, of a child below the bound
pub below-call : (n m : ℕ) (calls : List ChildCall) (call : ChildCall) → n ≤ m → child_of call < m → are_below n calls ≡ true →
    are_below m (calls ++ call ∷ []) ≡ true
below-call n m [] call h last below = and_from (nat_lt (child_of call) m) true (to-below (child_of call) m last) refl
below-call n m (first ∷ calls) call h last below =
    let small : child_of first < n = ltb-true (child_of first) n (and-left _ (are_below n calls) below) in
    and_from (nat_lt (child_of first) m) (are_below m (calls ++ call ∷ [])) (to-below (child_of first) m (omega (arith, h, small)))
    (below-call n m calls call h last (and-right (nat_lt (child_of first) n) _ below))

-- the next child is new
pub next-new : (n : ℕ) (calls : List ChildCall) → are_below n calls ≡ true → is_named n calls ≡ false
next-new n [] below = refl
next-new n (call ∷ calls) below =
    or-none (child_of call == n) (is_named n calls)
    (is-other (child_of call) n (ltb-true (child_of call) n (and-left _ (are_below n calls) below)))
    (next-new n calls (and-right (nat_lt (child_of call) n) _ below))

-- a child that was started is below the bound
pub started-below : (n : ℕ) (calls : List ChildCall) (child : ℕ) → are_below n calls ≡ true → is_started child calls ≡ true → child < n
started-below n [] child below started = absurd (false-true started)
  where
    false-true : false ≡ true → ⊥
    false-true e = cc
started-below n (Waited other status ∷ calls) child below started =
    started-below n calls child (and-right (nat_lt other n) _ below) started
started-below n (Started words other ∷ calls) child below started = elim (cases_Bool (other == child)) [
  | inl same ↦ subst (λ (k : ℕ). k < n) (is-same other child same) (ltb-true other n (and-left _ (are_below n calls) below))
  | inr differs ↦ started-below n calls child (and-right (nat_lt other n) _ below) (rest (other == child) (is_started child calls) differs started)
]
  where
    rest : (a b : Bool) → a ≡ false → (a || b) ≡ true → b ≡ true
    rest true b h k = absurd (true-false h)
      where
        true-false : true ≡ false → ⊥
        true-false e = cc
    rest false b h k = k

-- ---- a child that is started

-- a child that no call names hasn't been waited for
not-waited : (calls : List ChildCall) (child : ℕ) → is_named child calls ≡ false → is_waited child calls ≡ false
not-waited [] child h = refl
not-waited (Started words other ∷ calls) child h =
    let parts = or_parts (other == child) (is_named child calls) h in not-waited calls child parts.1
not-waited (Waited other status ∷ calls) child h =
    let parts = or_parts (other == child) (is_named child calls) h in or_from _ _ parts.0 (not-waited calls child parts.1)

itself : (a : ℕ) → (a == a) ≡ true
itself a = grind (arith, nat_tests)

-- a new child runs once it is started
pub new-running : (calls : List ChildCall) (words : List (List ℕ)) (child : ℕ) → is_named child calls ≡ false →
    IsRunning child (calls ++ Started words child ∷ [])
new-running calls words child unnamed = record {
  started = list_any-append (starts child) calls (Started words child ∷ [])
      ∙ or_right (is_started child calls) _ (or_left (child == child) false (itself child));
  unwaited = list_any-append (waits child) calls (Started words child ∷ []) ∙ or_from _ _ (not-waited calls child unnamed) refl;
}

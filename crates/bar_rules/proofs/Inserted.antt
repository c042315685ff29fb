-- Exchanges in order: inserting one into a rising list.
use Rattle.std.proofs.Common.{◌≡◌, ℕ, ◌<◌, ◌≤◌, ◌&&◌, Bool, true, false, List, [], ◌∷◌, refl, sym, ap, subst, ◌∙◌, inl, inr, ◌⊎◌, arith}
use Rattle.std.specs.Prelude.{nat_lt, ◌==◌, ◌||◌}
use Rattle.std.proofs.lemmas.Bool.{cases_Bool, cases_eq, cases_lt, both_ways, or_cases, and_parts, eqb-true, eq-eqb, ltb-true, lt-ltb}
use Rattle.std.proofs.lemmas.Bool.Decides.{nat_tests}
use Rattle.bar_window.specs.declared.exchange.Exchange.{Exchange}
use Rattle.bar_window.specs.Exchange.{kind_code, same_exchange}
use Rattle.bar_rules.specs.Peer.Exchanges.{precedes, inserted}
use Rattle.bar_window.proofs.Exchanges.{same_exchange-is, same_exchange_refl, same_flips}

-- ---- the order

pub precedes-not_same : (x y : Exchange) → same_exchange x y ≡ true → precedes x y ≡ false
precedes-not_same x y e = subst (λ y. precedes x y ≡ false) (same_exchange-is x y e) (grind (arith, nat_tests))

-- by one number, and by a test if the numbers are equal
abbrev by_number : ℕ → ℕ → Bool → Bool
by_number a b t = nat_lt a b || (a == b) && t

number-cases : (a b : ℕ) (t : Bool) → by_number a b t ≡ true → (a < b) ⊎ ((a ≡ b) × (t ≡ true))
number-cases a b t e = elim (or_cases (nat_lt a b) ((a == b) && t) e) [
  | inl lt ↦ inl (ltb-true a b lt)
  | inr both ↦ let parts = and_parts (a == b) t both in inr (eqb-true a b parts.0, parts.1)
]

number-less : (a b : ℕ) (t : Bool) → a < b → by_number a b t ≡ true
number-less a b t lt = ap (λ l. l || (a == b) && t) (lt-ltb a b lt)

number-same : (a b : ℕ) (t : Bool) → a ≡ b → t ≡ true → by_number a b t ≡ true
number-same a b t e on = elim (cases_Bool (nat_lt a b)) [
  | inl lt ↦ rw lt refl
  | inr le ↦ rw (le, eq-eqb a b e) on
]

number-chain : (a b c : ℕ) (t u v : Bool) → (t ≡ true → u ≡ true → v ≡ true) → by_number a b t ≡ true → by_number b c u ≡ true → by_number a c v ≡ true
number-chain a b c t u v rest e f = elim (number-cases a b t e) [
  | inl lt ↦ elim (number-cases b c u f) [ inl gt ↦ number-less a c v (omega (arith, lt, gt)) | inr same ↦ number-less a c v (omega (arith, lt, same.0)) ]
  | inr one ↦ elim (number-cases b c u f) [ inl gt ↦ number-less a c v (omega (arith, one.0, gt)) | inr same ↦ number-same a c v (one.0 ∙ same.0) (rest one.1 same.1) ]
]

-- if one isn't below another, the other is below it, or they are the same
number-total : (a b : ℕ) (t u : Bool) → by_number a b t ≡ false → (a ≡ b → t ≡ false → u ≡ true) → by_number b a u ≡ true
number-total a b t u e rest = elim (cases_lt a b) [
  | inl lt ↦ absurd (both_ways (by_number a b t) e (number-less a b t lt))
  | inr ge ↦ elim (cases_eq a b) [
    | inl same ↦ elim (cases_Bool t) [
      | inl on ↦ absurd (both_ways (by_number a b t) e (number-same a b t same on))
      | inr off ↦ number-same b a u (sym same) (rest same off)
    ]
    | inr other ↦ number-less b a u (omega (arith, ge, other))
  ]
]

less-chain : (a b c : ℕ) → nat_lt a b ≡ true → nat_lt b c ≡ true → nat_lt a c ≡ true
less-chain a b c e f = lt-ltb a c (omega (arith, ltb-true a b e, ltb-true b c f))

pub precedes-chain : (x y z : Exchange) → precedes x y ≡ true → precedes y z ≡ true → precedes x z ≡ true
precedes-chain x y z =
    number-chain x.round y.round z.round _ _ _ (number-chain (kind_code x.kind) (kind_code y.kind) (kind_code z.kind) _ _ _
    (number-chain x.initiator y.initiator z.initiator _ _ _ (less-chain x.responder y.responder z.responder)))

pub precedes-round : (x y : Exchange) → precedes x y ≡ true → x.round ≤ y.round
precedes-round x y e = grind (arith, nat_tests, e)

all-same : (x y : Exchange) → x.round ≡ y.round → kind_code x.kind ≡ kind_code y.kind → x.initiator ≡ y.initiator → x.responder ≡ y.responder → same_exchange x y ≡ true
all-same x y r k i p = rw (eq-eqb x.round y.round r, eq-eqb (kind_code x.kind) (kind_code y.kind) k, eq-eqb x.initiator y.initiator i, eq-eqb x.responder y.responder p) refl

last-total : (x y : Exchange) → same_exchange x y ≡ false → x.round ≡ y.round → kind_code x.kind ≡ kind_code y.kind → x.initiator ≡ y.initiator → nat_lt x.responder y.responder ≡ false
    → nat_lt y.responder x.responder ≡ true
last-total x y other r k i le = elim (cases_lt y.responder x.responder) [
  | inl lt ↦ lt-ltb y.responder x.responder lt
  | inr ge ↦ elim (cases_lt x.responder y.responder) [
    | inl gt ↦ absurd (both_ways (nat_lt x.responder y.responder) le (lt-ltb x.responder y.responder gt))
    | inr same ↦ absurd (both_ways (same_exchange x y) other (all-same x y r k i (omega (arith, ge, same))))
  ]
]

pub precedes-total : (x y : Exchange) → same_exchange x y ≡ false → precedes x y ≡ false → precedes y x ≡ true
precedes-total x y other e =
    number-total x.round y.round _ _ e (λ r e. number-total (kind_code x.kind) (kind_code y.kind) _ _ e (λ k e. number-total x.initiator y.initiator _ _ e (λ i e. last-total x y other r k i e)))

-- no exchange precedes itself
pub precedes-differs : (x y : Exchange) → precedes x y ≡ true → same_exchange x y ≡ false
precedes-differs x y e = elim (cases_Bool (same_exchange x y)) [
  | inl t ↦ absurd (both_ways (precedes x y) (precedes-not_same x y t) e)
  | inr f ↦ f
]

-- One exchange is below another.
record IsBelow (x y : Exchange) : Type 0 where
  other : same_exchange x y ≡ false
  differs : same_exchange y x ≡ false
  below : precedes x y ≡ true
  not_above : precedes y x ≡ false

below-from : (x y : Exchange) → precedes x y ≡ true → IsBelow x y
below-from x y e =
    let not_above : precedes y x ≡ false = elim (cases_Bool (precedes y x)) [
      | inl t ↦ absurd (both_ways (precedes x x) (precedes-not_same x x (same_exchange_refl x)) (precedes-chain x y x e t))
      | inr f ↦ f
    ] in
    let other : same_exchange x y ≡ false = precedes-differs x y e in
    record { other = other; differs = same_flips y x ∙ other; below = e; not_above = not_above }

data Ordering (x y : Exchange) : Type 0 where
  Same : x ≡ y → Ordering x y
  Below : IsBelow x y → Ordering x y
  Above : IsBelow y x → Ordering x y

order : (x y : Exchange) → Ordering x y
order x y = elim (cases_Bool (same_exchange x y)) [
  | inl same ↦ Same (same_exchange-is x y same)
  | inr other ↦ elim (cases_Bool (precedes x y)) [
    | inl t ↦ Below (below-from x y t)
    | inr f ↦ Above (below-from y x (precedes-total x y other f))
  ]
]

-- ---- in a list

at-same : (x a : Exchange) (r : List Exchange) → x ≡ a → inserted x (a ∷ r) ≡ a ∷ r
at-same x a r e = let same : same_exchange x a ≡ true = subst (λ a. same_exchange x a ≡ true) e (same_exchange_refl x) in rw same refl

at-below : (x a : Exchange) (r : List Exchange) → IsBelow x a → inserted x (a ∷ r) ≡ x ∷ a ∷ r
at-below x a r b = rw (b.other, b.below) refl

at-above : (x a : Exchange) (r : List Exchange) → IsBelow a x → inserted x (a ∷ r) ≡ a ∷ inserted x r
at-above x a r b = rw (b.differs, b.not_above) refl

pub inserted-twice : (x : Exchange) (xs : List Exchange) → inserted x (inserted x xs) ≡ inserted x xs
inserted-twice x [] = at-same x x [] refl
inserted-twice x (a ∷ r) = elim (order x a) [
  | Same e ↦ ap (inserted x) (at-same x a r e)
  | Below b ↦ ap (inserted x) (at-below x a r b) ∙ at-same x x (a ∷ r) refl ∙ sym (at-below x a r b)
  | Above b ↦ ap (inserted x) (at-above x a r b) ∙ at-above x a (inserted x r) b ∙ ap (λ ys. a ∷ ys) (inserted-twice x r) ∙ sym (at-above x a r b)
]

-- the lower one is first, whichever is inserted first
put-below : (x y a : Exchange) (r : List Exchange) → IsBelow x y → IsBelow x a → inserted x (inserted y (a ∷ r)) ≡ x ∷ inserted y (a ∷ r)
put-below x y a r b c = elim (order y a) [
  | Same e ↦ ap (inserted x) (at-same y a r e) ∙ at-below x a r c ∙ ap (λ ys. x ∷ ys) (sym (at-same y a r e))
  | Below d ↦ ap (inserted x) (at-below y a r d) ∙ at-below x y (a ∷ r) b ∙ ap (λ ys. x ∷ ys) (sym (at-below y a r d))
  | Above d ↦ ap (inserted x) (at-above y a r d) ∙ at-below x a (inserted y r) c ∙ ap (λ ys. x ∷ ys) (sym (at-above y a r d))
]

swap-below : (x y : Exchange) (xs : List Exchange) → IsBelow x y → inserted y (inserted x xs) ≡ inserted x (inserted y xs)
swap-below x y [] b = at-above y x [] b ∙ sym (at-below x y [] b)
swap-below x y (a ∷ r) b = elim (order x a) [
  | Same e ↦
      let c : IsBelow a y = subst (λ z. IsBelow z y) e b in
      ap (inserted y) (at-same x a r e) ∙ at-above y a r c ∙ sym (ap (inserted x) (at-above y a r c) ∙ at-same x a (inserted y r) e)
  | Below c ↦ ap (inserted y) (at-below x a r c) ∙ at-above y x (a ∷ r) b ∙ sym (put-below x y a r b c)
  | Above c ↦
      let d : IsBelow a y = below-from a y (precedes-chain a x y c.below b.below) in
      ap (inserted y) (at-above x a r c) ∙ at-above y a (inserted x r) d ∙ ap (λ ys. a ∷ ys) (swap-below x y r b)
      ∙ sym (ap (inserted x) (at-above y a r d) ∙ at-above x a (inserted y r) c)
]

pub inserted-swap : (x y : Exchange) (xs : List Exchange) → inserted y (inserted x xs) ≡ inserted x (inserted y xs)
inserted-swap x y xs = elim (order x y) [
  | Same e ↦ subst (λ y. inserted y (inserted x xs) ≡ inserted x (inserted y xs)) e refl
  | Below b ↦ swap-below x y xs b
  | Above b ↦ sym (swap-below y x xs b)
]

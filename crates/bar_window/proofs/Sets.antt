-- Sets of updates as rising lists, and their elements.
use Rattle.std.proofs.Common.{◌≡◌, suc, ◌<◌, Bool, true, false, cond, not, ◌&&◌, ◌||◌, eqb, ltb, List, [], ◌∷◌, length, refl, sym, ap, subst, ◌∙◌, inl, inr, ◌⊎◌, arith}
use Rattle.std.specs.List.{filter, list_all, Contains}
use Rattle.std.specs.Cmp.{IsEquivalence}
use Rattle.std.proofs.lemmas.Cmp.{and_equiv, on_equiv, nat_eq_equiv}
use Rattle.std.proofs.lemmas.Bool.{eq-eqb, ne_eqb, eqb-true, lt-ltb, ltb-true, and_from, and_parts, or_cases, or_left, or_right, false≢true, cases_Bool}
use Rattle.std.proofs.lemmas.Map.Views.{Contains-from_any, list_any-from_Contains}
use Rattle.bar_window.specs.declared.update.UpdateId.{UpdateId}
use Rattle.bar_window.specs.Updates.{same_update, same_updates, has_update, is_before, is_rising, is_inside, minus}

-- ---- one update

pub one_update : (u v : UpdateId) → u.round ≡ v.round → u.index ≡ v.index → u ≡ v
one_update u v row column = λ t. record { round = row t; index = column t }

pub same_is : (u v : UpdateId) → same_update u v ≡ true → u ≡ v
same_is u v h = let p = and_parts (eqb u.round v.round) (eqb u.index v.index) h in one_update u v (eqb-true _ _ p.0) (eqb-true _ _ p.1)

pub same_self : (u : UpdateId) → same_update u u ≡ true
same_self u = rw (eq-eqb u.round u.round refl, eq-eqb u.index u.index refl) refl

pub same_updates-is : (us vs : List UpdateId) → same_updates us vs ≡ true → us ≡ vs
same_updates-is [] [] e = refl
same_updates-is (u ∷ us) (v ∷ vs) e =
    let p = and_parts _ _ e in
    let head : u ≡ v = same_is u v p.0 in
    let tail : us ≡ vs = same_updates-is us vs p.1 in cc
same_updates-is [] (v ∷ vs) e = absurd (cc)
same_updates-is (u ∷ us) [] e = absurd (cc)

pub same_updates_refl : (us : List UpdateId) → same_updates us us ≡ true
same_updates_refl [] = refl
same_updates_refl (u ∷ us) = and_from _ _ (same_self u) (same_updates_refl us)

same_equivalence : IsEquivalence same_update
same_equivalence = and_equiv (on_equiv (λ (u : UpdateId). u.round) nat_eq_equiv) (on_equiv (λ (u : UpdateId). u.index) nat_eq_equiv)

pub has_contains : (us : List UpdateId) (u : UpdateId) → has_update us u ≡ true → Contains us u
has_contains us u h = Contains-from_any {eq = same_update} same_is u us h

pub contains_has : (us : List UpdateId) (u : UpdateId) → Contains us u → has_update us u ≡ true
contains_has us u h = list_any-from_Contains same_equivalence u us h

pub has_cases : (u v : UpdateId) (us : List UpdateId) → has_update (v ∷ us) u ≡ true → (u ≡ v) ⊎ (has_update us u ≡ true)
has_cases u v us h = elim (or_cases (same_update u v) (has_update us u) h) [ inl e ↦ inl (same_is u v e) | inr later ↦ inr later ]

-- ---- order

pub before_cases : (u v : UpdateId) → is_before u v ≡ true → (u.round < v.round) ⊎ ((u.round ≡ v.round) × (u.index < v.index))
before_cases u v h = elim (or_cases (ltb u.round v.round) (eqb u.round v.round && ltb u.index v.index) h) [
  | inl row ↦ inl (ltb-true _ _ row)
  | inr rest ↦ let p = and_parts (eqb u.round v.round) (ltb u.index v.index) rest in inr (eqb-true _ _ p.0, ltb-true _ _ p.1)
]

pub before_from : (u v : UpdateId) → (u.round < v.round) ⊎ ((u.round ≡ v.round) × (u.index < v.index)) → is_before u v ≡ true
before_from u v (inl row) = or_left (ltb u.round v.round) _ (lt-ltb u.round v.round row)
before_from u v (inr h) = or_right (ltb u.round v.round) (eqb u.round v.round && ltb u.index v.index) (rw (eq-eqb u.round v.round h.0, lt-ltb u.index v.index h.1) refl)

pub not_both_before : (u v : UpdateId) → is_before u v ≡ true → is_before v u ≡ true → ⊥
not_both_before u v h g = elim (before_cases u v h) [
  | inl a ↦ elim (before_cases v u g) [ inl b ↦ omega (arith, a, b) | inr b ↦ omega (arith, a, b.0) ]
  | inr a ↦ elim (before_cases v u g) [ inl b ↦ omega (arith, a.0, b) | inr b ↦ omega (arith, a.1, b.1) ]
]

pub before_each : (u v : UpdateId) (us : List UpdateId) → list_all (is_before u) us ≡ true → has_update us v ≡ true → is_before u v ≡ true
before_each u v [] a h = absurd (false≢true h)
before_each u v (w ∷ us) a h =
    let p = and_parts (is_before u w) (list_all (is_before u) us) a in
    elim (has_cases v w us h) [
      | inl e ↦ subst (λ x. is_before u x ≡ true) (sym e) p.0
      | inr later ↦ before_each u v us p.1 later
    ]

-- ---- a set is determined by its elements

pub same_tests : (a b : Bool) → (a ≡ true → b ≡ true) → (b ≡ true → a ≡ true) → a ≡ b
same_tests true b h g = sym (h refl)
same_tests false true h g = g refl
same_tests false false h g = refl

not_before_itself : (u : UpdateId) (us : List UpdateId) → list_all (is_before u) us ≡ true → has_update us u ≡ false
not_before_itself u us a = elim (cases_Bool (has_update us u)) [
  | inl h ↦ let b = before_each u u us a h in absurd (not_both_before u u b b)
  | inr h ↦ h
]

same_heads : (u v : UpdateId) (us vs : List UpdateId) → list_all (is_before u) us ≡ true → list_all (is_before v) vs ≡ true → has_update (v ∷ vs) u ≡ true → has_update (u ∷ us) v ≡ true → u ≡ v
same_heads u v us vs a b h g = elim (has_cases u v vs h) [
  | inl e ↦ e
  | inr later ↦ elim (has_cases v u us g) [
    | inl e ↦ sym e
    | inr after ↦ absurd (not_both_before u v (before_each u v us a after) (before_each v u vs b later))
  ]
]

tail_has : (u v w : UpdateId) (us vs : List UpdateId) → u ≡ v → has_update us u ≡ false → has_update vs v ≡ false → has_update (u ∷ us) w ≡ has_update (v ∷ vs) w → has_update us w ≡ has_update vs w
tail_has u v w us vs e off off_v h = elim (cases_Bool (same_update w u)) [
  | inl here ↦
      let w_u : w ≡ u = same_is w u here in
      ap (has_update us) w_u ∙ off ∙ sym off_v ∙ ap (has_update vs) (sym (w_u ∙ e))
  | inr other ↦
      let other_v : same_update w v ≡ false = ap (same_update w) (sym e) ∙ other in
      sym (ap (λ b. b || has_update us w) other) ∙ h ∙ ap (λ b. b || has_update vs w) other_v
]

-- two sets that have the same updates are equal as lists
pub same_sets : (us vs : List UpdateId) → is_rising us ≡ true → is_rising vs ≡ true → ((u : UpdateId) → has_update us u ≡ has_update vs u) → us ≡ vs
same_sets [] [] a b h = refl
same_sets [] (v ∷ vs) a b h = absurd (false≢true (h v ∙ or_left (same_update v v) (has_update vs v) (same_self v)))
same_sets (u ∷ us) [] a b h = absurd (false≢true (sym (h u) ∙ or_left (same_update u u) (has_update us u) (same_self u)))
same_sets (u ∷ us) (v ∷ vs) a b h =
    let p = and_parts (list_all (is_before u) us) (is_rising us) a in
    let q = and_parts (list_all (is_before v) vs) (is_rising vs) b in
    let e : u ≡ v = same_heads u v us vs p.0 q.0 (sym (h u) ∙ or_left (same_update u u) (has_update us u) (same_self u)) (h v ∙ or_left (same_update v v) (has_update vs v) (same_self v)) in
    let rest : us ≡ vs = same_sets us vs p.1 q.1 (λ w. tail_has u v w us vs e (not_before_itself u us p.0) (not_before_itself v vs q.0) (h w)) in
    λ i. e i ∷ rest i

-- ---- filters

has_step : (p : UpdateId → Bool) (u v : UpdateId) (us : List UpdateId) (b : Bool) → p v ≡ b → has_update (filter p us) u ≡ (has_update us u && p u) → has_update (cond b (v ∷ filter p us) (filter p us)) u ≡ ((same_update u v || has_update us u) && p u)
has_step p u v us b e h = elim (cases_Bool (same_update u v)) [
  | inl here ↦
      let u_v : u ≡ v = same_is u v here in
      let p_u : p u ≡ b = ap p u_v ∙ e in
      rw (here, p_u) (elim b as (λ b. p u ≡ b → has_update (cond b (v ∷ filter p us) (filter p us)) u ≡ b) [
        | true ↦ λ q. or_left (same_update u v) (has_update (filter p us) u) here
        | false ↦ λ q. h ∙ rw q (and_false (has_update us u))
      ] p_u)
  | inr other ↦ rw other (elim b as (λ b. has_update (cond b (v ∷ filter p us) (filter p us)) u ≡ (has_update us u && p u)) [
    | true ↦ ap (λ c. c || has_update (filter p us) u) other ∙ h
    | false ↦ h
  ])
] where
  and_false : (b : Bool) → (b && false) ≡ false
  and_false true = refl
  and_false false = refl

pub has_filter : (p : UpdateId → Bool) (us : List UpdateId) (u : UpdateId) → has_update (filter p us) u ≡ (has_update us u && p u)
has_filter p [] u = refl
has_filter p (v ∷ us) u = has_step p u v us (p v) refl (has_filter p us u)

all_filter : (q p : UpdateId → Bool) (us : List UpdateId) → list_all q us ≡ true → list_all q (filter p us) ≡ true
all_filter q p [] a = refl
all_filter q p (u ∷ us) a =
    let h = and_parts (q u) (list_all q us) a in
    let rest : list_all q (filter p us) ≡ true = all_filter q p us h.1 in
    elim (p u) as (λ b. list_all q (cond b (u ∷ filter p us) (filter p us)) ≡ true) [ true ↦ rw (h.0, rest) refl | false ↦ rest ]

-- a filter of a rising list is rising
pub rising_filter : (p : UpdateId → Bool) (us : List UpdateId) → is_rising us ≡ true → is_rising (filter p us) ≡ true
rising_filter p [] a = refl
rising_filter p (u ∷ us) a =
    let h = and_parts (list_all (is_before u) us) (is_rising us) a in
    let rest : is_rising (filter p us) ≡ true = rising_filter p us h.1 in
    elim (p u) as (λ b. is_rising (cond b (u ∷ filter p us) (filter p us)) ≡ true) [ true ↦ rw (all_filter (is_before u) p us h.0, rest) refl | false ↦ rest ]

and_same : (a b : Bool) → (b ≡ true → a ≡ true) → b ≡ (a && b)
and_same true b h = refl
and_same false true h = absurd (false≢true (h refl))
and_same false false h = refl

-- a set that is part of a larger one is the filter of the larger one by membership
pub set_is_filter : (us ws : List UpdateId) → is_rising us ≡ true → is_rising ws ≡ true → ((u : UpdateId) → has_update us u ≡ true → has_update ws u ≡ true) → us ≡ filter (has_update us) ws
set_is_filter us ws a b h = same_sets us (filter (has_update us) ws) a (rising_filter (has_update us) ws b) (λ u. and_same (has_update ws u) (has_update us u) (h u) ∙ sym (has_filter (has_update us) ws u))

-- ---- parts

none_fail : (p : UpdateId → Bool) (us : List UpdateId) → list_all p us ≡ eqb (length (filter (λ u. not (p u)) us)) 0
none_fail p [] = refl
none_fail p (u ∷ us) = elim (p u) as (λ b. (b && list_all p us) ≡ eqb (length (cond (not b) (u ∷ filter (λ v. not (p v)) us) (filter (λ v. not (p v)) us))) 0) [ true ↦ none_fail p us | false ↦ sym (ne_eqb (suc (length (filter (λ v. not (p v)) us))) 0 (λ e. omega (arith, e))) ]

-- a set is part of another if and only if it has nothing that the other lacks
pub inside_none : (us vs : List UpdateId) → is_inside us vs ≡ eqb (length (minus us vs)) 0
inside_none us vs = none_fail (has_update vs) us

pub inside_each : (us vs : List UpdateId) → is_inside us vs ≡ true → (u : UpdateId) → has_update us u ≡ true → has_update vs u ≡ true
inside_each [] vs a u h = absurd (false≢true h)
inside_each (v ∷ us) vs a u h =
    let p = and_parts (has_update vs v) (is_inside us vs) a in
    elim (has_cases u v us h) [
      | inl e ↦ ap (has_update vs) e ∙ p.0
      | inr later ↦ inside_each us vs p.1 u later
    ]

pub inside_from : (us vs : List UpdateId) → ((u : UpdateId) → has_update us u ≡ true → has_update vs u ≡ true) → is_inside us vs ≡ true
inside_from [] vs h = refl
inside_from (v ∷ us) vs h = rw (h v (or_left (same_update v v) (has_update us v) (same_self v)), inside_from us vs (λ u g. h u (or_right (same_update u v) (has_update us u) g))) refl

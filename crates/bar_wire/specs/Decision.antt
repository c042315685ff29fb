-- Decisions: tests that are true if and only if a fact holds, for facts that are composed of others.
use Rattle.std.specs.Prelude.{ℕ, ◌≡◌, ◌≢◌, ◌<◌, ◌≤◌, ◌==◌, ◌&&◌, ◌↔◌, Bool, true, not, List, [], ◌∷◌, IsTrue, nat_lt, nat_le, refl}
use Rattle.std.specs.List.{AllByRecursion}
use Rattle.std.proofs.lemmas.Bool.{ltb-true, lt-ltb, leb-true, le-leb, eqb-true, eq-eqb, eqb-false, ne_eqb, not-true, not_from_false, and_parts, and_from}

-- a test that is true if and only if the fact holds
pub record Decision (P : Type 0) : Type 0 where
  pub test : Bool
  pub tells : IsTrue test ↔ P

-- ---- of numbers

abbrev pub below : (m n : ℕ) → Decision (m < n)
below m n = record { test = nat_lt m n; tells = (ltb-true m n, lt-ltb m n) }

abbrev pub at_most : (m n : ℕ) → Decision (m ≤ n)
at_most m n = record { test = nat_le m n; tells = (leb-true m n, le-leb m n) }

abbrev pub equal : (m n : ℕ) → Decision (m ≡ n)
equal m n = record { test = m == n; tells = (eqb-true m n, eq-eqb m n) }

abbrev pub different : (m n : ℕ) → Decision (m ≢ n)
different m n = record {
  test = not (m == n);
  tells = (λ h. eqb-false m n (not-true (m == n) h), λ other. not_from_false (m == n) (ne_eqb m n other));
}

-- ---- of several facts

abbrev pub always : Decision (Unit {0})
always = record { test = true; tells = (λ h. tt, λ h. refl) }

-- of an equivalent fact
abbrev pub likewise : {P Q : Type 0} → Decision P → (P → Q) → (Q → P) → Decision Q
likewise p to from = record { test = p.test; tells = (λ h. to (p.tells.0 h), λ h. p.tells.1 (from h)) }

abbrev pub both : {P Q : Type 0} → Decision P → Decision Q → Decision (P × Q)
both p q = record {
  test = p.test && q.test;
  tells = (
    λ h. let t = and_parts p.test q.test h in (p.tells.0 t.0, q.tells.0 t.1),
    λ h. and_from p.test q.test (p.tells.1 h.0) (q.tells.1 h.1),
  );
}

abbrev pub three : {P Q R : Type 0} → Decision P → Decision Q → Decision R → Decision (P × Q × R)
three p q r = likewise (both (both p q) r) (λ h. (h.0.0, h.0.1, h.1)) (λ h. ((h.0, h.1), h.2))

abbrev pub four : {P Q R S : Type 0} → Decision P → Decision Q → Decision R → Decision S → Decision (P × Q × R × S)
four p q r s = likewise (both (three p q r) s) (λ h. (h.0.0, h.0.1, h.0.2, h.1)) (λ h. ((h.0, h.1, h.2), h.3))

abbrev pub five : {P Q R S T : Type 0} → Decision P → Decision Q → Decision R → Decision S → Decision T
    → Decision (P × Q × R × S × T)
five p q r s t = likewise (both (four p q r s) t) (λ h. (h.0.0, h.0.1, h.0.2, h.0.3, h.1)) (λ h. ((h.0, h.1, h.2, h.3), h.4))

-- of a fact about each element
abbrev pub each : {X : Type 0} {P : X → Type 0} → ((x : X) → Decision (P x)) → (xs : List X) → Decision (AllByRecursion P xs)
each p [] = always
each p (x ∷ xs) = both (p x) (each p xs)

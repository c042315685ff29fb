-- Properties of each file of a list.
use Rattle.std.proofs.Common.{ℕ, zero, suc, ◌+◌, ◌≤◌, ◌<◌, List, [], ◌∷◌, ◌++◌, inl, inr, subst, arith}
use Rattle.std.proofs.Math.Nat.{eq-or-lt_of_le}
use Rattle.std.specs.List.{AllByRecursion, flat_map, range_with_len}
use Rattle.bar_laws.proofs.Logs.{all-both}

pub all-front : {X : Type 0} (P : X → Type 0) (xs ys : List X) → AllByRecursion P (xs ++ ys) → AllByRecursion P xs
all-front P [] ys h = tt
all-front P (x ∷ xs) ys h = (h.0, all-front P xs ys h.1)

pub all-rest : {X : Type 0} (P : X → Type 0) (xs ys : List X) → AllByRecursion P (xs ++ ys) → AllByRecursion P ys
all-rest P [] ys h = h
all-rest P (x ∷ xs) ys h = all-rest P xs ys h.1

pub all-joined : {X : Type 0} (P Q R : X → Type 0) (xs : List X) → ((x : X) → P x → Q x → R x) → AllByRecursion P xs → AllByRecursion Q xs →
    AllByRecursion R xs
all-joined P Q R [] so h k = tt
all-joined P Q R (x ∷ xs) so h k = (so x h.0 k.0, all-joined P Q R xs so h.1 k.1)

-- if a property holds for the elements of each number of a range, it holds for all of them
pub all-range : {X : Type 0} (P : X → Type 0) (f : ℕ → List X) (a n : ℕ) → ((i : ℕ) → a ≤ i → i < a + n → AllByRecursion P (f i)) →
    AllByRecursion P (flat_map f (range_with_len a n))
all-range P f a zero h = tt
all-range P f a (suc n) h =
    let low : a ≤ a = omega arith in
    let high : a < a + suc n = omega arith in
    all-both P (f a) (flat_map f (range_with_len (a + 1) n)) (h a low high) (all-range P f (a + 1) n (λ i l u. h i (above i l) (below i u)))
  where
    above : (i : ℕ) → a + 1 ≤ i → a ≤ i
    above i l = omega arith

    below : (i : ℕ) → i < (a + 1) + n → i < a + suc n
    below i u = omega arith

pub all-at : {X : Type 0} (P : X → Type 0) (f : ℕ → List X) (a n i : ℕ) → AllByRecursion P (flat_map f (range_with_len a n)) →
    a ≤ i → i < a + n → AllByRecursion P (f i)
all-at P f a zero i h low high = absurd (omega arith)
all-at P f a (suc n) i h low high = elim (eq-or-lt_of_le low) [
  | inl same ↦ subst (λ j. AllByRecursion P (f j)) same (all-front P (f a) (flat_map f (range_with_len (a + 1) n)) h)
  | inr more ↦
      let above : a + 1 ≤ i = omega arith in
      let below : i < (a + 1) + n = omega arith in
      all-at P f (a + 1) n i (all-rest P (f a) (flat_map f (range_with_len (a + 1) n)) h) above below
]

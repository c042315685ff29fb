-- Sums and maxima over groups of eight chains.
use Rattle.std.proofs.Common.{◌≡◌, ℕ, zero, suc, ◌+◌, ◌*◌, ◌/◌, ◌%◌, ◌-◌, ◌≤◌, ◌<◌, ◌==◌, max, true, false, refl, arith, ap, ◌∙◌, inl, inr}
use Rattle.std.proofs.lemmas.Bool.{cases_lt, cases_eq, eq-eqb, ne_eqb}
use Rattle.bar_lms.specs.Chains.{total_from, most_of, pair_at, in_pairs, in_group, by_eights}

-- the sum of one more number
pub from_more : (f : ℕ → ℕ) (first n : ℕ) → total_from f first (n + 1) ≡ total_from f first n + f (first + n)
unfolding total_from
from_more f first n = let e : n + 1 ≡ suc n = omega arith in rw e refl

-- one more group of sixteen
pub pairs_more : (f : ℕ → ℕ) (g : ℕ) → in_pairs f (g + 1) ≡ in_pairs f g + 8 * most_of (pair_at f (16 * g)) 0 8
unfolding in_pairs
pairs_more f g = let e : g + 1 ≡ suc g = omega arith in rw e refl

-- the maximum of no numbers, and of one more number
pub most_none : (f : ℕ → ℕ) (first : ℕ) → most_of f first 0 ≡ 0
unfolding most_of
most_none f first = refl

pub most_more : (f : ℕ → ℕ) (first n : ℕ) → most_of f first (n + 1) ≡ max (most_of f first n) (f (first + n))
unfolding most_of
most_more f first n = let e : n + 1 ≡ suc n = omega arith in rw e refl

-- the maximum of the same numbers at other places
pub most_same : (f g : ℕ → ℕ) (a b n : ℕ) → ((j : ℕ) → j < n → f (a + j) ≡ g (b + j)) → most_of f a n ≡ most_of g b n
unfolding most_of
most_same f g a b zero same = refl
most_same f g a b (suc n) same =
    let rest = most_same f g a b n (λ j below. same j (omega (arith, below))) in
    rw (rest, same n (omega arith)) refl

-- the maximum of numbers with a bound
pub most_within : (f : ℕ → ℕ) (most first n : ℕ) → ((i : ℕ) → f i ≤ most) → most_of f first n ≤ most
unfolding most_of
most_within f most first zero each = omega arith
most_within f most first (suc n) each = omega (arith, each (first + n), most_within f most first n each)

-- none of the first n numbers is above their maximum
pub most_above : (f : ℕ → ℕ) (first n j : ℕ) → j < n → f (first + j) ≤ most_of f first n
unfolding most_of
most_above f first zero j below = absurd (omega (arith, below))
most_above f first (suc n) j below =
    elim (cases_lt j n) [
      | inl less ↦ omega (arith, most_above f first n j less)
      | inr not_less ↦ let e : j ≡ n = omega (arith, below, not_less) in rw e (omega arith)
    ]

-- the hashes of groups with the same numbers of steps
pairs_same : (f g : ℕ → ℕ) (n : ℕ) → ((j : ℕ) → j < 16 * n → f j ≡ g j) → in_pairs f n ≡ in_pairs g n
unfolding in_pairs
pairs_same f g zero same = refl
pairs_same f g (suc n) same =
    let rest = pairs_same f g n (λ j below. same j (omega (arith, below))) in
    let lanes : most_of (pair_at f (16 * n)) 0 8 ≡ most_of (pair_at g (16 * n)) 0 8 =
    most_same (pair_at f (16 * n)) (pair_at g (16 * n)) 0 0 8
    (λ j below. rw (same (16 * n + (0 + j)) (omega (arith, below)), same (16 * n + 15 - (0 + j)) (omega (arith, below))) refl)
    in
    rw (rest, lanes) refl

group_same : (f g : ℕ → ℕ) (n : ℕ) → ((j : ℕ) → j < n → f j ≡ g j) → in_group f n ≡ in_group g n
unfolding in_group
group_same f g n same =
    elim (cases_eq (n / 8 % 2) 1) [
      | inl odd ↦
          let longest : most_of f (16 * (n / 16)) 8 ≡ most_of g (16 * (n / 16)) 8 =
          most_same f g (16 * (n / 16)) (16 * (n / 16)) 8 (λ j below. same (16 * (n / 16) + j) (omega (arith, below, odd)))
          in
          rw longest refl
      | inr even ↦ let test : (n / 8 % 2 == 1) ≡ false = ne_eqb (n / 8 % 2) 1 even in rw test refl
    ]

from_same : (f g : ℕ → ℕ) (first n : ℕ) → ((j : ℕ) → j < first + n → f j ≡ g j) → total_from f first n ≡ total_from g first n
unfolding total_from
from_same f g first zero same = refl
from_same f g first (suc n) same =
    let rest = from_same f g first n (λ j below. same j (omega (arith, below))) in
    rw (rest, same (first + n) (omega arith)) refl

pub eights_same : (f g : ℕ → ℕ) (n : ℕ) → ((j : ℕ) → j < n → f j ≡ g j) → by_eights f n ≡ by_eights g n
unfolding by_eights
eights_same f g n same =
    let pairs = pairs_same f g (n / 16) (λ j below. same j (omega (arith, below))) in
    rw (pairs, group_same f g n same, from_same f g (8 * (n / 8)) (n % 8) (λ j below. same j (omega (arith, below)))) refl

pairs_ones : (n : ℕ) → in_pairs (λ j. 1) n ≡ 16 * n
unfolding in_pairs most_of
pairs_ones zero = refl
pairs_ones (suc n) = omega (arith, pairs_ones n)

group_ones : (n : ℕ) → in_group (λ j. 1) n ≡ 8 * (n / 8 % 2)
unfolding in_group most_of
group_ones n =
    elim (cases_eq (n / 8 % 2) 1) [
      | inl odd ↦ let test : (n / 8 % 2 == 1) ≡ true = eq-eqb (n / 8 % 2) 1 odd in rw test (omega (arith, odd))
      | inr even ↦ let test : (n / 8 % 2 == 1) ≡ false = ne_eqb (n / 8 % 2) 1 even in rw test (omega (arith, even))
    ]

from_ones : (first n : ℕ) → total_from (λ j. 1) first n ≡ n
unfolding total_from
from_ones first zero = refl
from_ones first (suc n) = omega (arith, from_ones first n)

-- the hashes of n chains of one step
pub eights_ones : (n : ℕ) → by_eights (λ j. 1) n ≡ n
unfolding by_eights
eights_ones n = omega (arith, pairs_ones (n / 16), group_ones n, from_ones (8 * (n / 8)) (n % 8))

pairs_within : (f : ℕ → ℕ) (most g : ℕ) → ((i : ℕ) → f i ≤ most) → in_pairs f g ≤ 16 * g * most
unfolding in_pairs
pairs_within f most zero each = omega arith
pairs_within f most (suc g) each =
    let lanes = most_within (pair_at f (16 * g)) (2 * most) 0 8 (λ j. omega (arith, each (16 * g + j), each (16 * g + 15 - j))) in
    omega (arith, lanes, pairs_within f most g each)

group_within : (f : ℕ → ℕ) (most n : ℕ) → ((i : ℕ) → f i ≤ most) → in_group f n ≤ 8 * (n / 8 % 2) * most
unfolding in_group
group_within f most n each =
    elim (cases_eq (n / 8 % 2) 1) [
      | inl odd ↦
          let test : (n / 8 % 2 == 1) ≡ true = eq-eqb (n / 8 % 2) 1 odd in
          rw (test, odd) (omega (arith, most_within f most (16 * (n / 16)) 8 each))
      | inr even ↦ let test : (n / 8 % 2 == 1) ≡ false = ne_eqb (n / 8 % 2) 1 even in rw test (omega arith)
    ]

from_within : (f : ℕ → ℕ) (most first n : ℕ) → ((i : ℕ) → f i ≤ most) → total_from f first n ≤ n * most
unfolding total_from
from_within f most first zero each = omega arith
from_within f most first (suc n) each = omega (arith, each (first + n), from_within f most first n each)

-- the hashes of n chains, none of which takes more than `most` steps
pub eights_within : (f : ℕ → ℕ) (most n : ℕ) → ((i : ℕ) → f i ≤ most) → by_eights f n ≤ n * most
unfolding by_eights
eights_within f most n each =
    let all : n ≡ 16 * (n / 16) + 8 * (n / 8 % 2) + n % 8 = omega arith in
    let parts : n * most ≡ 16 * (n / 16) * most + 8 * (n / 8 % 2) * most + n % 8 * most = ap (λ k. k * most) all ∙ omega arith in
    omega (arith, parts, pairs_within f most (n / 16) each, group_within f most n each, from_within f most (8 * (n / 8)) (n % 8) each)

-- Numbers by their bits.
use Rattle.std.proofs.Common.{◌≡◌, ℕ, zero, suc, ◌+◌, ◌-◌, ◌*◌, ◌^◌, ◌<◌, ◌≤◌, Bool, true, false, cond, eqb, refl, sym, ap, ◌∙◌, inl, inr, arith}
use Rattle.std.specs.Int.{bit_at}
use Rattle.std.proofs.Math.Nat.{two-pow-succ}
use Rattle.std.proofs.lemmas.Bool.{cases_lt}
use Rattle.std.proofs.lemmas.Nat.{pow_pos}
use Rattle.std.proofs.lemmas.Nat.Bits.{bit_at-lt, bit_at-zero, bit_at_cat_low, bit_at_cat_high, same_from_bits_below}
use Rattle.bar_window.specs.WindowBytes.{number_of_bits}

abbrev flag : Bool → ℕ
flag b = cond b 1 0

high : (b : Bool) (n : ℕ) → cond b (2 ^ n) 0 ≡ cond b 1 0 * 2 ^ n
high true n = omega arith
high false n = omega arith

pub number_below : (test : ℕ → Bool) (n : ℕ) → number_of_bits test n < 2 ^ n
unfolding number_of_bits
number_below test zero = omega arith
number_below test (suc n) =
    let top : cond (test n) (2 ^ n) 0 ≤ 2 ^ n = elim (test n) as (λ b. cond b (2 ^ n) 0 ≤ 2 ^ n) [ true ↦ omega arith | false ↦ omega arith ] in
    omega (arith, top, number_below test n, two-pow-succ n)

top_bit : (b : Bool) (n rest : ℕ) → rest < 2 ^ n → bit_at (cond b 1 0 * 2 ^ n + rest) n ≡ cond b 1 0
top_bit b n rest lt =
    let none : n - n ≡ 0 = omega arith in
    bit_at_cat_high (cond b 1 0) n rest n lt (omega arith) ∙ rw none (elim b as (λ b. bit_at (cond b 1 0) 0 ≡ cond b 1 0) [ true ↦ refl | false ↦ refl ])

pub number_bit : (test : ℕ → Bool) (n i : ℕ) → i < n → bit_at (number_of_bits test n) i ≡ cond (test i) 1 0
unfolding number_of_bits
number_bit test zero i lt = absurd (omega (arith, lt))
number_bit test (suc n) i lt =
    let whole : cond (test n) (2 ^ n) 0 + number_of_bits test n ≡ cond (test n) 1 0 * 2 ^ n + number_of_bits test n = ap (λ a. a + number_of_bits test n) (high (test n) n) in
    ap (λ a. bit_at a i) whole ∙ elim (cases_lt i n) [
      | inl low ↦ bit_at_cat_low (cond (test n) 1 0) n (number_of_bits test n) i low ∙ number_bit test n i low
      | inr ge ↦
          let e : i ≡ n = omega (arith, ge, lt) in
          ap (bit_at (cond (test n) 1 0 * 2 ^ n + number_of_bits test n)) e ∙ top_bit (test n) n (number_of_bits test n) (number_below test n) ∙ ap (λ k. cond (test k) 1 0) (sym e)
    ]

one_or_none : (b : ℕ) → b < 2 → cond (eqb b 1) 1 0 ≡ b
one_or_none zero lt = refl
one_or_none (suc zero) lt = refl
one_or_none (suc (suc b)) lt = absurd (omega (arith, lt))

-- a number is determined by its bits
pub number_is : (test : ℕ → Bool) (x n : ℕ) → x < 2 ^ n → ((i : ℕ) → i < n → test i ≡ eqb (bit_at x i) 1) → number_of_bits test n ≡ x
number_is test x n fits bits = same_from_bits_below n (number_of_bits test n) x (number_below test n) fits (λ i lt.
    number_bit test n i lt ∙ ap (λ b. cond b 1 0) (bits i lt) ∙ one_or_none (bit_at x i) (bit_at-lt x i))

pub number_none : (test : ℕ → Bool) (n : ℕ) → ((i : ℕ) → i < n → test i ≡ false) → number_of_bits test n ≡ 0
number_none test n none = number_is test 0 n (pow_pos n) (λ i lt. none i lt ∙ rw (bit_at-zero i) refl)

same_flags : (a b : Bool) → flag a ≡ flag b → a ≡ b
same_flags true true e = refl
same_flags false false e = refl
same_flags true false e = absurd (omega (arith, e))
same_flags false true e = absurd (omega (arith, e))

-- If two tests give the same number, they agree on its bits.
pub number_tells : (p q : ℕ → Bool) (n : ℕ) → number_of_bits p n ≡ number_of_bits q n → (i : ℕ) → i < n → p i ≡ q i
number_tells p q n e i lt = same_flags (p i) (q i) (sym (number_bit p n i lt) ∙ ap (λ a. bit_at a i) e ∙ number_bit q n i lt)

-- The sums and choices of a round, in the order in which they are computed.
use Rattle.std.proofs.Common.{◌≡◌, ℕ, ◌+◌, ◌%◌, ◌<◌, zero, suc, min, bit_and, bit_xor, refl, arith}
use Rattle.std.proofs.lemmas.Nat.Bits.{bit_at-lt, bit_at_and, bit_at_xor, same_from_bits}
use Rattle.std.specs.Int.{bit_at}
use Rattle.sha2.specs.Sha256.{add32, maj}

-- the word and the constant may be added first
pub first_sum_is : (h s c k w : ℕ) → add32 (add32 (add32 h (add32 w k)) s) c ≡ add32 (add32 (add32 (add32 h s) c) k) w
first_sum_is h s c k w = omega arith

below_two : (P : ℕ → Type 0) → P 0 → P 1 → (k : ℕ) → k < 2 → P k
below_two P p0 p1 zero h = p0
below_two P p0 p1 (suc zero) h = p1
below_two P p0 p1 (suc (suc n)) h = absurd (omega arith)

most_bit : (x y z : ℕ) → x < 2 → y < 2 → z < 2
    → (min ((x + y) % 2) ((y + z) % 2) + y) % 2 ≡ ((min x y + min x z) % 2 + min y z) % 2
most_bit x y z hx hy hz =
    let Same : ℕ → ℕ → ℕ → Type 0 = λ p q r. (min ((p + q) % 2) ((q + r) % 2) + q) % 2 ≡ ((min p q + min p r) % 2 + min q r) % 2 in
    let third : (p q : ℕ) → Same p q 0 → Same p q 1 → Same p q z = λ p q s0 s1. below_two (Same p q) s0 s1 z hz in
    let second : (p : ℕ) → Same p 0 z → Same p 1 z → Same p y z = λ p s0 s1. below_two (λ q. Same p q z) s0 s1 y hy in
    below_two (λ p. Same p y z) (second 0 (third 0 0 refl refl) (third 0 1 refl refl)) (second 1 (third 1 0 refl refl) (third 1 1 refl refl)) x hx

-- the majority of three, computed from where the middle one differs from the others
pub most_is : (a b c : ℕ) → bit_xor (bit_and (bit_xor a b) (bit_xor b c)) b ≡ maj a b c
most_is a b c = same_from_bits _ _ each
  where
    each : (i : ℕ) → bit_at (bit_xor (bit_and (bit_xor a b) (bit_xor b c)) b) i ≡ bit_at (maj a b c) i
    each i = rw (
      bit_at_xor (bit_and (bit_xor a b) (bit_xor b c)) b i,
      bit_at_and (bit_xor a b) (bit_xor b c) i,
      bit_at_xor a b i,
      bit_at_xor b c i,
      bit_at_xor (bit_xor (bit_and a b) (bit_and a c)) (bit_and b c) i,
      bit_at_xor (bit_and a b) (bit_and a c) i,
      bit_at_and a b i,
      bit_at_and a c i,
      bit_at_and b c i,
    ) (most_bit (bit_at a i) (bit_at b i) (bit_at c i) (bit_at-lt a i) (bit_at-lt b i) (bit_at-lt c i))

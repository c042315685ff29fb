-- The number of bytes of an encoded number, and the length of a list in which an element is replaced.
use Rattle.std.proofs.Common.{◌≡◌, ℕ, zero, suc, List, [], ◌∷◌, length, slice_set, refl, ap}
use Rattle.bar_bytes.specs.Bytes.{u16_bytes, u32_bytes, u64_bytes}

pub length_u16 : (n : ℕ) → length (u16_bytes n) ≡ 2
unfolding u16_bytes
length_u16 n = refl

pub length_u32 : (n : ℕ) → length (u32_bytes n) ≡ 4
unfolding u32_bytes
length_u32 n = refl

pub length_u64 : (n : ℕ) → length (u64_bytes n) ≡ 8
unfolding u64_bytes
length_u64 n = refl

pub length-slice_set : {X : Type 0} (xs : List X) (p : ℕ) (y : X) → length (slice_set xs p y) ≡ length xs
length-slice_set [] p y = refl
length-slice_set (x ∷ xs) zero y = refl
length-slice_set (x ∷ xs) (suc p) y = ap (λ n. suc n) (length-slice_set xs p y)

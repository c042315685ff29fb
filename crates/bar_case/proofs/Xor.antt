-- Bytes XOR other bytes.
use Rattle.std.proofs.Common.{◌≡◌, ℕ, zero, suc, List, [], ◌∷◌, ◌++◌, length, take, drop, refl, ap, ◌∙◌, arith}
use Rattle.std.specs.Prelude.{bit_xor}
use Rattle.std.specs.Int.Bits.{xor_assoc, xor_self, xor_zero_r}
use Rattle.std.proofs.lemmas.Nat.{xor_comm}
use Rattle.std.specs.Simd.Lanes.{zip2}
use Rattle.std.proofs.lemmas.Simd.{length-zip2}
use Rattle.bar_lanes.proofs.Rows.{zip2-append}
use Rattle.bar_case.specs.Keystream.{xor_bytes}

-- the bytes that vectors write
pub zip2_is_xor : (xs ys : List ℕ) → zip2 bit_xor xs ys ≡ xor_bytes xs ys
zip2_is_xor xs ys = refl

pub length_xor : (xs ys : List ℕ) → length xs ≡ length ys → length (xor_bytes xs ys) ≡ length xs
length_xor xs ys e = length-zip2 bit_xor xs ys e

pub xor_swap : (xs ys : List ℕ) → xor_bytes xs ys ≡ xor_bytes ys xs
xor_swap [] [] = refl
xor_swap [] (y ∷ ys) = refl
xor_swap (x ∷ xs) [] = refl
xor_swap (x ∷ xs) (y ∷ ys) =
    let head = xor_comm x y in
    let tail = xor_swap xs ys in
    λ i. head i ∷ tail i

pub take_xor : (n : ℕ) (xs ys : List ℕ) → take n (xor_bytes xs ys) ≡ xor_bytes (take n xs) (take n ys)
take_xor zero [] ys = refl
take_xor (suc n) [] ys = refl
take_xor zero (x ∷ xs) [] = refl
take_xor (suc n) (x ∷ xs) [] = refl
take_xor zero (x ∷ xs) (y ∷ ys) = refl
take_xor (suc n) (x ∷ xs) (y ∷ ys) = ap (λ (zs : List ℕ). bit_xor x y ∷ zs) (take_xor n xs ys)

nothing_more : (xs : List ℕ) → [] ≡ xor_bytes xs []
nothing_more [] = refl
nothing_more (x ∷ xs) = refl

pub drop_xor : (n : ℕ) (xs ys : List ℕ) → drop n (xor_bytes xs ys) ≡ xor_bytes (drop n xs) (drop n ys)
drop_xor zero xs ys = refl
drop_xor (suc n) [] ys = refl
drop_xor (suc n) (x ∷ xs) [] = nothing_more (drop n xs)
drop_xor (suc n) (x ∷ xs) (y ∷ ys) = drop_xor n xs ys

pub xor_append : (xs ys zs ws : List ℕ) → length xs ≡ length zs → xor_bytes (xs ++ ys) (zs ++ ws) ≡ xor_bytes xs zs ++ xor_bytes ys ws
xor_append xs ys zs ws e = zip2-append bit_xor xs zs ys ws e

xor_back : (a b : ℕ) → bit_xor (bit_xor a b) b ≡ a
xor_back a b = xor_assoc a b b ∙ ap (bit_xor a) (xor_self b) ∙ xor_zero_r a

pub xor_twice : (xs ks : List ℕ) → length xs ≡ length ks → xor_bytes (xor_bytes xs ks) ks ≡ xs
xor_twice [] ks e = refl
xor_twice (x ∷ xs) [] e = cc
xor_twice (x ∷ xs) (k ∷ ks) e =
    let tail : xor_bytes (xor_bytes xs ks) ks ≡ xs = xor_twice xs ks (omega arith) in
    let head : bit_xor (bit_xor x k) k ≡ x = xor_back x k in cc

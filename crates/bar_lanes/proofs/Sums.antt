-- The bits that are set in a row of words, summed in lanes.
use Rattle.std.proofs.Common.{◌≡◌, ◌∙◌, ℕ, ◌+◌, ◌≤◌, List, [], ◌∷◌, length, take, slice_index_or, map, count_ones, sum_by, refl, sym, Fits, arith}
use Rattle.std.specs.Int.{w64}
use Rattle.std.proofs.lemmas.List.{length-map}
use Rattle.std.proofs.lemmas.List.Elements.{All-from_get_or}
use Rattle.std.proofs.lemmas.List.Sums.{sum_by-append, sum_by-cons, sum_by-le, sum_by-take-le}
use Rattle.std.proofs.lemmas.Nat.{ones-le}
use Rattle.std.proofs.lemmas.Simd.{length-chunk}
use Rattle.std.proofs.Math.Seq.{take-add}
use lib.Lanes.{chunk, sum_l}

-- the bits of each word, as numbers of 64 bits
abbrev pub bits_of : List ℕ → List ℕ
bits_of words = map (λ n. n) (map count_ones words)

sum-bits_of : (words : List ℕ) → sum_l (bits_of words) ≡ sum_by count_ones words
sum-bits_of [] = refl
sum-bits_of (word ∷ words) = omega (arith, sum-bits_of words, sum_by-cons count_ones word words)

length-bits_of : (words : List ℕ) → length (bits_of words) ≡ length words
length-bits_of words = length-map (map count_ones words) (λ n. n) ∙ length-map words count_ones

pub long_lanes : (a sums : List ℕ) (at n : ℕ) → at + n ≤ length a → length sums ≡ n → length sums ≡ length (bits_of (chunk at n a))
long_lanes a sums at n room long = long ∙ sym (length-bits_of (chunk at n a) ∙ length-chunk at n a room)

-- the sum after one more vector of words
pub sums_more : (a sums : List ℕ) (at n m : ℕ) → m ≡ at + n → m ≤ length a → length sums ≡ n → sum_l sums ≡ sum_by count_ones (take at a)
    → sum_l sums + sum_l (bits_of (chunk at n a)) ≡ sum_by count_ones (take m a)
sums_more a sums at n m e room long done =
    rw (done, sum-bits_of (chunk at n a), e, take-add at n a) (sym (sum_by-append count_ones (take at a) (chunk at n a)))

-- a prefix of at most 1,024 words has at most 65,536 bits set
pub few_bits : (a : List ℕ) (n : ℕ) → ((i : ℕ) → Fits w64 (slice_index_or a i 0)) → length a ≤ 1024 → sum_by count_ones (take n a) ≤ 65536
few_bits a n fit few =
    let all = sum_by-le count_ones 64 a (All-from_get_or (λ word. count_ones word ≤ 64) a 0 (λ i lt. ones-le 64 (slice_index_or a i 0) ((fit i).fits))) in
    omega (arith, all, few, sum_by-take-le count_ones a n)

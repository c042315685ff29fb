-- One more number or datagram of a list.
use Rattle.std.proofs.Common.{◌≡◌, ℕ, zero, suc, ◌+◌, ◌*◌, ◌/◌, ◌%◌, ◌<◌, ◌≤◌, ◌^◌, List, [], ◌∷◌, ◌++◌, length, take, drop, refl, ap, ◌∙◌, arith}
use Rattle.bar_bytes.specs.Bytes.{u16_bytes, first_u16}
use Rattle.std.specs.Simd.{first_chunks}
use Rattle.bar_wire.specs.Places.{entries_len, entries, pairs}

pub u16_is : (n : ℕ) → n < 2 ^ 16 → u16_bytes n ≡ n / 256 ∷ n % 256 ∷ []
unfolding u16_bytes
u16_is n lt = let e : n / 256 % 256 ≡ n / 256 = omega arith in ap (λ (h : ℕ). h ∷ n % 256 ∷ []) e

pub raw_back : (n : ℕ) (after : List ℕ) → n < 2 ^ 16 → first_u16 (u16_bytes n ++ after) ≡ n
raw_back n after lt = ap (λ (x : List ℕ). first_u16 (x ++ after)) (u16_is n lt) ∙ omega arith

pub skip_two : (n k : ℕ) (after : List ℕ) → n < 2 ^ 16 → drop (2 + k) (u16_bytes n ++ after) ≡ drop k after
skip_two n k after lt =
    let two : 2 + k ≡ suc (suc k) = omega arith in
    ap (λ (x : List ℕ). drop (2 + k) (x ++ after)) (u16_is n lt) ∙ ap (λ m. drop m (n / 256 ∷ n % 256 ∷ after)) two

pub pairs_step : (p : ℕ) (rest after : List ℕ) → rest ≡ u16_bytes p ++ after → p < 2 ^ 16 → pairs rest ≡ p ∷ pairs after
pairs_step p rest after is lt =
    let whole : 256 * (p / 256) + p % 256 ≡ p = omega arith in
    ap pairs is ∙ ap (λ (x : List ℕ). pairs (x ++ after)) (u16_is p lt) ∙ ap (λ n. n ∷ pairs after) whole

pub len_step : (n m len : ℕ) (rest after : List ℕ) → n ≡ suc m → rest ≡ u16_bytes len ++ after → len < 2 ^ 16 → entries_len n rest ≡ 2 + len + entries_len m (drop len after)
len_step n m len rest after one is lt =
    let raw : first_u16 rest ≡ len = ap first_u16 is ∙ raw_back len after lt in
    let skip : drop (2 + first_u16 rest) rest ≡ drop len after = ap (λ k. drop (2 + k) rest) raw ∙ ap (drop (2 + len)) is ∙ skip_two len len after lt in
    ap (λ k. entries_len k rest) one ∙ λ i. 2 + raw i + entries_len m (skip i)

pub entries_step : (n m len : ℕ) (rest after : List ℕ) → n ≡ suc m → rest ≡ u16_bytes len ++ after → len < 2 ^ 16 → entries n rest ≡ take len after ∷ entries m (drop len after)
entries_step n m len rest after one is lt =
    let raw : first_u16 rest ≡ len = ap first_u16 is ∙ raw_back len after lt in
    let skip : drop (2 + first_u16 rest) rest ≡ drop len after = ap (λ k. drop (2 + k) rest) raw ∙ ap (drop (2 + len)) is ∙ skip_two len len after lt in
    let front : drop 2 rest ≡ after = ap (drop 2) is ∙ skip_two len 0 after lt in
    ap (λ k. entries k rest) one ∙ λ i. take (raw i) (front i) ∷ entries m (skip i)

pub entries_least : (n : ℕ) (rest : List ℕ) → 0 < n → 2 ≤ entries_len n rest
entries_least zero rest lt = absurd (omega (arith, lt))
entries_least (suc n) rest lt = omega arith

pub length_entries : (n : ℕ) (bytes : List ℕ) → length (entries n bytes) ≡ n
length_entries zero bytes = refl
length_entries (suc n) bytes = ap suc (length_entries n (drop (2 + first_u16 bytes) bytes))

pub length_pairs : (count : ℕ) (bytes : List ℕ) → length bytes ≡ 2 * count → length (pairs bytes) ≡ count
length_pairs count [] len = omega (arith, len)
length_pairs count (h ∷ []) len = absurd (omega (arith, len))
length_pairs zero (h ∷ l ∷ rest) len = absurd (omega (arith, len))
length_pairs (suc count) (h ∷ l ∷ rest) len = omega (arith, length_pairs count rest (omega (arith, len)))

pub length_chunks : (w n : ℕ) (bytes : List ℕ) → length (first_chunks w n bytes) ≡ n
length_chunks w zero bytes = refl
length_chunks w (suc n) bytes = ap suc (length_chunks w n (drop w bytes))

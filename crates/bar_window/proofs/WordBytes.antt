-- Words are determined by their bytes.
use Rattle.std.proofs.Common.{◌≡◌, ℕ, ◌+◌, ◌*◌, ◌^◌, ◌<◌, ◌≤◌, List, [], ◌∷◌, ◌++◌, length, take, drop, refl, sym, ap, ◌∙◌, append_assoc, length-append, arith}
use Rattle.std.specs.Prelude.{slice_index}
use Rattle.std.specs.List.{AllByRecursion}
use Rattle.std.specs.Int.{w64, from_be_bytes}
use Rattle.std.proofs.lemmas.Nat.{from_be_bytes-to_be_bytes_8}
use Rattle.std.proofs.lemmas.Grind.{flat_map-append}
use Rattle.std.proofs.lemmas.List.{append-nil, take_more, take_all, take-append-le, take-append-drop, length-take}
use Rattle.std.proofs.lemmas.Slice.{take-put_mid}
use borrow.Rule.Slice.PartMut.{put_mid}
use Rattle.bar_bytes.specs.Bytes.{u64_bytes}
use Rattle.bar_bytes.proofs.Lengths.{length_u64}
use Rattle.bar_window.specs.WindowBytes.{words_bytes}

pub length_words : (ws : List ℕ) → length (words_bytes ws) ≡ 8 * length ws
unfolding words_bytes
length_words [] = refl
length_words (w ∷ ws) = omega (arith, length-append (u64_bytes w) (words_bytes ws), length_u64 w, length_words ws)

-- the bytes of one word more
pub words_bytes_more : (ws : List ℕ) (j : ℕ) → j < length ws → words_bytes (take (j + 1) ws) ≡ words_bytes (take j ws) ++ u64_bytes (slice_index ws j)
unfolding words_bytes
words_bytes_more ws j lt =
    ap words_bytes (take_more ws j 0 lt) ∙ flat_map-append u64_bytes (take j ws) (slice_index ws j ∷ []) ∙ ap (λ (x : List ℕ). words_bytes (take j ws) ++ x) (append-nil (u64_bytes (slice_index ws j)))

-- the bytes of the first words are the first bytes
pub words_bytes_take : (ws : List ℕ) (k : ℕ) → k ≤ length ws → take (8 * k) (words_bytes ws) ≡ words_bytes (take k ws)
unfolding words_bytes
words_bytes_take ws k le =
    let front : length (words_bytes (take k ws)) ≡ 8 * k = omega (arith, length_words (take k ws), length-take k ws, le) in
    let whole : words_bytes ws ≡ words_bytes (take k ws) ++ words_bytes (drop k ws) = ap words_bytes (sym (take-append-drop k ws)) ∙ flat_map-append u64_bytes (take k ws) (drop k ws) in
    ap (take (8 * k)) whole ∙ take-append-le (8 * k) (words_bytes (take k ws)) (words_bytes (drop k ws)) (omega (arith, front)) ∙ take_all (8 * k) (words_bytes (take k ws)) (omega (arith, front))

-- a buffer of all words begins with the bytes of the first ones
pub buffer_begins : (ws bytes : List ℕ) (n k : ℕ) → length ws ≡ n → length bytes ≡ 8 * n → take (8 * n) bytes ≡ words_bytes (take n ws) → k ≤ n → take (8 * k) bytes ≡ words_bytes (take k ws)
buffer_begins ws bytes n k len long done le =
    let all : bytes ≡ words_bytes ws = sym (take_all (8 * n) bytes (omega (arith, long))) ∙ done ∙ ap words_bytes (take_all n ws (omega (arith, len))) in
    ap (take (8 * k)) all ∙ words_bytes_take ws k (omega (arith, len, le))

-- a buffer after one more word is written into it
pub buffer_more : (ws bytes word : List ℕ) (j k : ℕ) → j < length ws → 8 * j + 8 ≤ length bytes → word ≡ u64_bytes (slice_index ws j) → take (8 * j) bytes ≡ words_bytes (take j ws) → take (8 * (j + 1)) (put_mid (8 * j) k bytes word) ≡ words_bytes (take (j + 1) ws)
buffer_more ws bytes word j k lt room is done =
    let eight : length word ≡ 8 = ap length is ∙ length_u64 (slice_index ws j) in
    take-put_mid (8 * j) k bytes word (8 * (j + 1)) (omega (arith, eight)) (omega (arith, room)) ∙ (λ t. done t ++ is t) ∙ sym (words_bytes_more ws j lt)

same_u64 : (m n : ℕ) → m < 2 ^ 64 → n < 2 ^ 64 → u64_bytes m ≡ u64_bytes n → m ≡ n
unfolding u64_bytes
same_u64 m n p q e = sym (from_be_bytes-to_be_bytes_8 m p) ∙ ap (from_be_bytes w64) e ∙ from_be_bytes-to_be_bytes_8 n q

-- Two lists with prefixes of one length are equal only if the prefixes are equal and the rests are.
pub record IsSplitAlike (p q a b : List ℕ) : Type 0 where
  pub front : p ≡ q
  pub rest : a ≡ b

pub split_alike : (p q a b : List ℕ) → length p ≡ length q → p ++ a ≡ q ++ b → IsSplitAlike p q a b
split_alike [] [] a b len e = record { front = refl; rest = e }
split_alike [] (y ∷ q) a b len e = absurd (omega (arith, len))
split_alike (x ∷ p) [] a b len e = absurd (omega (arith, len))
split_alike (x ∷ p) (y ∷ q) a b len e =
    let tails : p ++ a ≡ q ++ b = cc in
    let heads : x ≡ y = cc in
    let same = split_alike p q a b (omega (arith, len)) tails in
    record { front = λ i. heads i ∷ same.front i; rest = same.rest }

-- equally many words of 64 bits are determined by their bytes, whatever follows
pub words_told : (xs ys x y : List ℕ) → length xs ≡ length ys → AllByRecursion (λ w. w < 2 ^ 64) xs → AllByRecursion (λ w. w < 2 ^ 64) ys → words_bytes xs ++ x ≡ words_bytes ys ++ y → (xs ≡ ys) × (x ≡ y)
unfolding words_bytes
words_told [] [] x y len p q e = (refl, e)
words_told [] (b ∷ ys) x y len p q e = absurd (omega (arith, len))
words_told (a ∷ xs) [] x y len p q e = absurd (omega (arith, len))
words_told (a ∷ xs) (b ∷ ys) x y len p q e =
    let first = split_alike (u64_bytes a) (u64_bytes b) (words_bytes xs ++ x) (words_bytes ys ++ y) (length_u64 a ∙ sym (length_u64 b)) (sym (append_assoc (u64_bytes a) (words_bytes xs) x) ∙ e ∙ append_assoc (u64_bytes b) (words_bytes ys) y) in
    let one : a ≡ b = same_u64 a b p.0 q.0 first.front in
    let others = words_told xs ys x y (omega (arith, len)) p.1 q.1 first.rest in
    (λ i. one i ∷ others.0 i, others.1)

-- The bytes that `fill_bytes` writes from a place of stream 0 on.
use Rattle.std.proofs.Common.{◌≡◌, ℕ, zero, suc, ◌+◌, ◌-◌, ◌*◌, ◌/◌, ◌%◌, ◌^◌, ◌<◌, ◌≤◌, List, [], ◌++◌, length, take, drop, refl, sym, ap, ◌∙◌, arith, length-append, add-zero}
use Rattle.std.specs.Prelude.{min}
use Rattle.std.specs.Int.{w32, to_le_bytes}
use Rattle.std.proofs.lemmas.List.{drop-append-le, drop-take, drop_all, take_all, take-append-le, take-take, length-take-le}
use Rattle.rand_core.specs.Stream.{Stream, fill_bytes}
use Rattle.rand_core.specs.Steps.{stream_of, steps_u32, word_bytes}
use Rattle.rand_chacha.specs.ChaCha.{ChaCha, next_word, word_at, of_seed, key_of}
use Rattle.bar_case.specs.Keystream.{keystream, keystream_words}

pub length_words : (key : List ℕ) (n : ℕ) → length (keystream_words key n) ≡ 4 * n
unfolding keystream_words
length_words key zero = refl
length_words key (suc n) = length-append (keystream_words key n) _ ∙ omega (arith, length_words key n)

pub length_keystream : (key : List ℕ) (n : ℕ) → length (keystream key n) ≡ n
unfolding keystream
length_keystream key n = length-take-le n (keystream_words key ((n + 3) / 4)) (omega (arith, length_words key ((n + 3) / 4)))

take_shorter : (n m : ℕ) (xs : List ℕ) → n ≤ m → take n (take m xs) ≡ take n xs
take_shorter n m xs le = take-take n m xs le

-- the words from a place on
words_from : (key : List ℕ) (place n : ℕ) → place + n < 2 ^ 68
    → word_bytes (to_le_bytes w32) (next_word 10) n (record { key = key_of key; stream = 0; word_pos = place })
    ≡ (drop (4 * place) (keystream_words key (place + n)), record { key = key_of key; stream = 0; word_pos = place + n })
unfolding word_bytes keystream_words
words_from key place zero below =
    let none : drop (4 * place) (keystream_words key place) ≡ [] = drop_all (4 * place) (keystream_words key place) (omega (arith, length_words key place)) in
    rw (add-zero, none) refl
words_from key place (suc n) below =
    let next : (place + n + 1) % 2 ^ 68 ≡ suc (place + n) = omega arith in
    let more : place + suc n ≡ suc (place + n) = omega arith in
    let front : drop (4 * place) (keystream_words key (suc (place + n))) ≡ drop (4 * place) (keystream_words key (place + n)) ++ to_le_bytes w32 (word_at 10 (key_of key) 0 (place + n)) =
    drop-append-le (4 * place) (keystream_words key (place + n)) _ (omega (arith, length_words key (place + n)))
    in
    rw (words_from key place n (omega arith), next, more, front) refl

-- a generator that is set to a place of stream 0
pub started : (key : List ℕ) (place : ℕ) (made put : ChaCha) → made ≡ of_seed key → put ≡ record made { word_pos = place % 2 ^ 68 } → place < 2 ^ 64
    → put ≡ record { key = key_of key; stream = 0; word_pos = place }
started key place made put is moved low =
    let same : place % 2 ^ 68 ≡ place = omega arith in
    moved ∙ rw (is, same) refl

cut : (key : List ℕ) (place n : ℕ) → take n (drop (4 * place) (keystream_words key (place + (n + 3) / 4))) ≡ drop (4 * place) (keystream key (4 * place + n))
unfolding keystream
cut key place n =
    let words : (4 * place + n + 3) / 4 ≡ place + (n + 3) / 4 = omega arith in
    rw words (sym (drop-take (4 * place) n (keystream_words key (place + (n + 3) / 4))))

pub filled : (key bytes : List ℕ) (place n : ℕ) (left : Stream) (s : ChaCha) → s ≡ record { key = key_of key; stream = 0; word_pos = place } → place < 2 ^ 64 → n < 2 ^ 64
    → (bytes, left) ≡ fill_bytes n (stream_of (steps_u32 (next_word 10)) s) → bytes ≡ drop (4 * place) (keystream key (4 * place + n))
unfolding fill_bytes stream_of
filled key bytes place n left s start low fits is =
    let words = ap (λ (p : List ℕ × ChaCha). take n p.0) (words_from key place ((n + 3) / 4) (omega arith)) in
    ap (λ (p : List ℕ × Stream). p.0) is ∙ rw start (words ∙ cut key place n)

-- a prefix of the words is the keystream of fewer words
front_words : (key : List ℕ) (n more : ℕ) → take (4 * n) (keystream_words key (n + more)) ≡ keystream_words key n
unfolding keystream_words
front_words key n zero = rw add-zero (take_all (4 * n) (keystream_words key n) (omega (arith, length_words key n)))
front_words key n (suc more) =
    let place : n + suc more ≡ suc (n + more) = omega arith in
    rw place
    (take-append-le (4 * n) (keystream_words key (n + more)) _ (omega (arith, length_words key (n + more))) ∙ front_words key n more)

-- a prefix of the keystream is the keystream of fewer bytes
pub front_stream : (key : List ℕ) (n more : ℕ) → take n (keystream key (n + more)) ≡ keystream key n
unfolding keystream
front_stream key n more =
    let words = (n + 3) / 4 in
    let rest = (n + more + 3) / 4 - words in
    let count : (n + more + 3) / 4 ≡ words + rest = omega arith in
    let least : min n (n + more) ≡ n = omega arith in
    let inner : take n (take (4 * words) (keystream_words key (words + rest))) ≡ take n (keystream_words key words) = ap (take n) (front_words key words rest) in
    let shorter : take n (take (4 * words) (keystream_words key (words + rest))) ≡ take n (keystream_words key (words + rest)) = take_shorter n (4 * words) (keystream_words key (words + rest)) (omega arith) in
    let outer : take n (take (n + more) (keystream_words key (words + rest))) ≡ take n (keystream_words key (words + rest)) = take_shorter n (n + more) (keystream_words key (words + rest)) (omega arith) in
    rw count (outer ∙ sym shorter ∙ inner)

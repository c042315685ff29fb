-- Messages of 55 bytes whose tails are kept as words.
use Rattle.std.proofs.Common.{◌≡◌, ℕ, zero, suc, ◌+◌, ◌-◌, ◌*◌, ◌/◌, ◌%◌, ◌^◌, ◌<◌, ◌≤◌, ◌++◌, ◌∷◌, [], Bool, false, List, length, map, take, bit_or, slice_index, slice_index_or, slice_set, cond, nat_lt, nat_eq, not, get_or, if◌then◌else◌, true, refl, ap, sym, ◌∙◌, arith, length-append, subst}
use Rattle.std.proofs.lemmas.Bool.{eqb-true, false_from_ne_true, not-false}
use Rattle.std.proofs.lemmas.List.{append_assoc, get_or-map, take_at, take_more, length-set, take_all}
use Rattle.std.proofs.lemmas.Nat.{or_shifted}
use Rattle.std.proofs.lemmas.Simd.{bit_mask_l, bitmask_splat, get_or-sel_l, get_or-zip2, length-zip2, tops_compared}
use Rattle.std.proofs.Math.Seq.{get_or-append_right}
use Rattle.std.specs.Int.{w32, from_be_bytes, to_be_bytes}
use lib.Lanes.{mask_l, sel_l, top, zip2}
use Rattle.sha2.specs.Sha256.{digest_bytes, padded_message, padding, word_at}
use Rattle.sha2.proofs.Schedule256.{slice_index-schedule_first}
use Rattle.bar_lanes.specs.declared.state.State.{State}
use Rattle.bar_lanes.specs.Code.Lane.{IsScheduled, digest_lane, of_lanes, state_lane, tail_lane}
use Rattle.bar_lanes.proofs.LaneLemmas.{below_eight, splat_lane}
use Rattle.bar_lanes.proofs.ScheduleLemmas.{scheduled_more}

-- ---- lanes

-- lane j of a list of eight
pub of_lanes_at : (f : ℕ → List ℕ) (j : ℕ) → j < 8 → slice_index_or (of_lanes f) j [] ≡ f j
of_lanes_at f j below = below_eight (λ i. slice_index_or (of_lanes f) i [] ≡ f i) refl refl refl refl refl refl refl refl j below

-- a lane of a selection by a test of two vectors
pub selected : (t : ℕ → ℕ → Bool) (a b xs ys : List ℕ) (j : ℕ) → length a ≡ 8 → length b ≡ 8 → length xs ≡ 8 → length ys ≡ 8 → j < 8
    → slice_index (sel_l (map (top 31) (zip2 (λ x y. cond (t x y) (2 ^ 32 - 1) 0) a b)) xs ys) j
    ≡ cond (t (slice_index a j) (slice_index b j)) (slice_index xs j) (slice_index ys j)
selected t a b xs ys j long_a long_b long_x long_y below =
    let tests = zip2 t a b in
    let long : length tests ≡ 8 = length-zip2 t a b (omega (arith, long_a, long_b)) ∙ long_a in
    let is = tops_compared w32 t a b in
    ap (λ ms. slice_index (sel_l ms xs ys) j) is
    ∙ get_or-sel_l tests xs ys j 0 (omega (arith, long)) (omega (arith, long_x)) (omega (arith, long_y))
    ∙ ap (λ m. cond m (slice_index xs j) (slice_index ys j)) (get_or-zip2 t a b j 0 0 false (omega (arith, long_a)) (omega (arith, long_b)))

pub select_below : (n : ℕ) (counts xs ys : List ℕ) (j : ℕ) → length counts ≡ 8 → length xs ≡ 8 → length ys ≡ 8 → j < 8
    → slice_index (sel_l (map (top 31) (zip2 (λ x y. cond (nat_lt x y) (2 ^ 32 - 1) 0) (n ∷ n ∷ n ∷ n ∷ n ∷ n ∷ n ∷ n ∷ []) counts)) xs ys) j
    ≡ cond (nat_lt n (slice_index counts j)) (slice_index xs j) (slice_index ys j)
select_below n counts xs ys j long long_x long_y below =
    selected nat_lt (n ∷ n ∷ n ∷ n ∷ n ∷ n ∷ n ∷ n ∷ []) counts xs ys j refl long long_x long_y below
    ∙ ap (λ m. cond (nat_lt m (slice_index counts j)) (slice_index xs j) (slice_index ys j)) (splat_lane n j below)

pub select_equal : (n : ℕ) (counts xs ys : List ℕ) (j : ℕ) → length counts ≡ 8 → length xs ≡ 8 → length ys ≡ 8 → j < 8
    → slice_index (sel_l (map (top 31) (zip2 (λ x y. cond (nat_eq x y) (2 ^ 32 - 1) 0) counts (n ∷ n ∷ n ∷ n ∷ n ∷ n ∷ n ∷ n ∷ []))) xs ys) j
    ≡ cond (nat_eq (slice_index counts j) n) (slice_index xs j) (slice_index ys j)
select_equal n counts xs ys j long long_x long_y below =
    selected nat_eq counts (n ∷ n ∷ n ∷ n ∷ n ∷ n ∷ n ∷ n ∷ []) xs ys j long refl long_x long_y below
    ∙ ap (λ m. cond (nat_eq (slice_index counts j) m) (slice_index xs j) (slice_index ys j)) (splat_lane n j below)

-- if no bit of the mask of a comparison is set, it holds in no lane
pub none_equal : (n : ℕ) (counts : List ℕ) (j : ℕ) → length counts ≡ 8
    → not (nat_eq (mask_l (map (top 31) (zip2 (λ x y. cond (nat_eq x y) (2 ^ 32 - 1) 0) counts (n ∷ n ∷ n ∷ n ∷ n ∷ n ∷ n ∷ n ∷ []))) % 2 ^ 64) 0)
    ≡ false → j < 8 → nat_eq (slice_index counts j) n ≡ false
none_equal n counts j long none below =
    let tests = map (λ x. nat_eq x n) counts in
    let is : mask_l tests ≡ 0 = sym (bitmask_splat w32 nat_eq counts 8 n long (omega arith)) ∙ eqb-true _ 0 (not-false _ none) in
    let lane : get_or tests j false ≡ nat_eq (slice_index counts j) n =
    get_or-map (λ x. nat_eq x n) counts j 0 false (omega (arith, long, below))
    in
    let bit : mask_l tests / 2 ^ j % 2 ≡ cond (nat_eq (slice_index counts j) n) 1 0 = bit_mask_l tests j ∙ ap (λ b. cond b 1 0) lane in
    false_from_ne_true (nat_eq (slice_index counts j) n) (λ equal. omega (arith, rw (is, equal) at bit))

-- If a list is `of_lanes f`, its lane j is f j.
pub seen_lane : (f : ℕ → List ℕ) (now : List (List ℕ)) (j : ℕ) → of_lanes f ≡ now → j < 8 → slice_index_or now j [] ≡ f j
seen_lane f now j is below = ap (λ all. slice_index_or all j []) (sym is) ∙ of_lanes_at f j below

-- ---- words and bytes

-- a word that is read from four bytes is written as the same bytes
pub word_bytes : (a b c d : ℕ) → a < 256 → b < 256 → c < 256 → d < 256
    → to_be_bytes w32 (from_be_bytes w32 (a ∷ b ∷ c ∷ d ∷ [])) ≡ a ∷ b ∷ c ∷ d ∷ []
word_bytes a b c d ha hb hc hd =
    let n : ℕ = from_be_bytes w32 (a ∷ b ∷ c ∷ d ∷ []) in
    let is : n ≡ a * 256 ^ 3 + b * 256 ^ 2 + c * 256 ^ 1 + d = omega arith in
    let first : n / 256 ^ 3 % 256 ≡ a = omega (arith, is, ha, hb, hc, hd) in
    let second : n / 256 ^ 2 % 256 ≡ b = omega (arith, is, ha, hb, hc, hd) in
    let third : n / 256 ^ 1 % 256 ≡ c = omega (arith, is, ha, hb, hc, hd) in
    let fourth : n % 256 ≡ d = omega (arith, is, ha, hb, hc, hd) in
    (λ i. first i ∷ second i ∷ third i ∷ fourth i ∷ [])

-- words that are read from bytes are written as the same bytes
pub bytes_of_words : (words bytes : List ℕ) (n : ℕ) → ((i : ℕ) → slice_index bytes i < 256) → 4 * n ≤ length bytes
    → ((i : ℕ) → i < n → slice_index words i ≡ word_at bytes (4 * i)) → digest_bytes words n ≡ take (4 * n) bytes
unfolding digest_bytes
bytes_of_words words bytes zero small room is = refl
bytes_of_words words bytes (suc n) small room is =
    let rest = bytes_of_words words bytes n small (omega arith) (λ i below. is i (omega (arith, below))) in
    let at : ℕ = 4 * n in
    let word : to_be_bytes w32 (slice_index words n)
    ≡ slice_index bytes at ∷ slice_index bytes (at + 1) ∷ slice_index bytes (at + 2) ∷ slice_index bytes (at + 3) ∷ [] =
    ap (to_be_bytes w32) (is n (omega arith)) ∙ word_bytes _ _ _ _ (small at) (small (at + 1)) (small (at + 2)) (small (at + 3))
    in
    let four : take (at + 4) bytes ≡ take at bytes ++ slice_index bytes at ∷ slice_index bytes (at + 1) ∷ slice_index bytes (at + 2)
    ∷ slice_index bytes (at + 3) ∷ [] = four_more bytes at (omega (arith, room)) in
    let last : 4 * suc n ≡ at + 4 = omega arith in
    rw last ((λ i. rest i ++ word i) ∙ sym four)
  where
    four_more : (bytes : List ℕ) (at : ℕ) → at + 4 ≤ length bytes
        → take (at + 4) bytes ≡ take at bytes ++ slice_index bytes at ∷ slice_index bytes (at + 1) ∷ slice_index bytes (at + 2)
        ∷ slice_index bytes (at + 3) ∷ []
    four_more bytes at room =
        let one = take_more bytes at 0 (omega arith) in
        let two = take_more bytes (at + 1) 0 (omega arith) in
        let three = take_more bytes (at + 2) 0 (omega arith) in
        let four = take_more bytes (at + 3) 0 (omega arith) in
        let e2 : at + 1 + 1 ≡ at + 2 = omega arith in
        let e3 : at + 2 + 1 ≡ at + 3 = omega arith in
        let e4 : at + 3 + 1 ≡ at + 4 = omega arith in
        (rw e4 at four)
        ∙ ap (λ xs. xs ++ slice_index bytes (at + 3) ∷ []) ((rw e3 at three)
        ∙ ap (λ xs. xs ++ slice_index bytes (at + 2) ∷ []) ((rw e2 at two) ∙ ap (λ xs. xs ++ slice_index bytes (at + 1) ∷ []) one))
        ∙ rw (append_assoc, append_assoc, append_assoc) refl

-- the last three bytes of a word and the first of the next
pub between_is : (a b : ℕ) → a < 2 ^ 32 → b < 2 ^ 32
    → from_be_bytes w32 (a / 65536 % 256 ∷ a / 256 % 256 ∷ a % 256 ∷ b / 16777216 % 256 ∷ []) ≡ bit_or (a * 2 ^ 8 % 2 ^ 32) (b / 2 ^ 24)
between_is a b ha hb =
    let low : b / 2 ^ 24 < 2 ^ 8 = omega (arith, hb) in
    let high : a * 2 ^ 8 % 2 ^ 32 ≡ a % 2 ^ 24 * 2 ^ 8 = omega (arith, ha) in
    let sum : bit_or (a * 2 ^ 8 % 2 ^ 32) (b / 2 ^ 24) ≡ a % 2 ^ 24 * 2 ^ 8 + b / 2 ^ 24 = rw high (or_shifted (a % 2 ^ 24) 8 (b / 2 ^ 24) low) in
    omega (arith, sum, ha, hb)

-- the upper three bytes of a word whose lowest is 0, and the first of the next
pub place_is : (p b : ℕ) → p < 2 ^ 32 → b < 2 ^ 32 → p % 256 ≡ 0
    → from_be_bytes w32 (p / 16777216 % 256 ∷ p / 65536 % 256 ∷ p / 256 % 256 ∷ b / 16777216 % 256 ∷ []) ≡ bit_or p (b / 2 ^ 24)
place_is p b hp hb even =
    let low : b / 2 ^ 24 < 2 ^ 8 = omega (arith, hb) in
    let high : p / 2 ^ 8 * 2 ^ 8 ≡ p = omega (arith, even) in
    let sum : bit_or p (b / 2 ^ 24) ≡ p + b / 2 ^ 24 = subst (λ n. bit_or n (b / 2 ^ 24) ≡ n + b / 2 ^ 24) high (or_shifted (p / 2 ^ 8) 8 (b / 2 ^ 24) low) in
    omega (arith, sum, hp, hb, even)

-- ---- the words of a block

-- the padding of 55 bytes
abbrev last_nine : List ℕ
last_nine = 0x80 ∷ 0 ∷ 0 ∷ 0 ∷ 0 ∷ 0 ∷ 0 ∷ 0x01 ∷ 0xb8 ∷ []

pub tail_length : (place : List ℕ) (values : State) (j : ℕ) → length (tail_lane place values j) ≡ 35
unfolding tail_lane digest_lane digest_bytes
tail_length place values j = refl

padded : (head tail : List ℕ) → length head ≡ 20 → length tail ≡ 35 → padded_message (head ++ tail) ≡ head ++ (tail ++ last_nine)
padded head tail long short =
    let whole : length (head ++ tail) ≡ 55 = length-append head tail ∙ omega (arith, long, short) in
    ap (λ n. (head ++ tail) ++ padding n) whole ∙ append_assoc head tail last_nine

-- the first 20 bytes of a block
pub begun_alike : (head tail : List ℕ) → length head ≡ 20 → take 20 (padded_message (head ++ tail)) ≡ head
begun_alike head tail long =
    ap (take 20) (append_assoc head tail (padding (length (head ++ tail)))) ∙ take_at head (tail ++ padding (length (head ++ tail))) 20 long

after_head : (head rest : List ℕ) (i m : ℕ) → length head ≡ 20 → i ≡ 20 + m → slice_index (head ++ rest) i ≡ slice_index rest m
after_head head rest i m long is =
    let place : i - length head ≡ m = omega (arith, is, long) in
    get_or-append_right head rest i 0 (omega (arith, is, long)) ∙ ap (λ k. slice_index rest k) place

word_after : (head rest : List ℕ) (m : ℕ) → length head ≡ 20
    → word_at (head ++ rest) (20 + m)
    ≡ from_be_bytes w32 (slice_index rest m ∷ slice_index rest (m + 1) ∷ slice_index rest (m + 2) ∷ slice_index rest (m + 3) ∷ [])
word_after head rest m long =
    rw (
      after_head head rest (20 + m) m long refl,
      after_head head rest (20 + m + 1) (m + 1) long (omega arith),
      after_head head rest (20 + m + 2) (m + 2) long (omega arith),
      after_head head rest (20 + m + 3) (m + 3) long (omega arith),
    ) refl

-- the words of lane j of a state are below 2^32
pub record IsWords (s : State) (j : ℕ) : Type 0 where
  pub a : slice_index s.a j < 2 ^ 32
  pub b : slice_index s.b j < 2 ^ 32
  pub c : slice_index s.c j < 2 ^ 32
  pub d : slice_index s.d j < 2 ^ 32
  pub e : slice_index s.e j < 2 ^ 32
  pub f : slice_index s.f j < 2 ^ 32
  pub g : slice_index s.g j < 2 ^ 32
  pub h : slice_index s.h j < 2 ^ 32

-- the words 5 to 15 of the block of a message, from the words that its tail is kept as
module _ (head place : List ℕ) (values : State) (j : ℕ) (long : length head ≡ 20) (words : IsWords values j) where
  abbrev rest : List ℕ
  rest = tail_lane place values j ++ last_nine

  abbrev block : List ℕ
  block = padded_message (head ++ tail_lane place values j)

  at_word : (k m : ℕ) → 4 * k ≡ 20 + m → word_at block (4 * k)
      ≡ from_be_bytes w32 (slice_index rest m ∷ slice_index rest (m + 1) ∷ slice_index rest (m + 2) ∷ slice_index rest (m + 3) ∷ [])
  at_word k m is =
      ap (λ b. word_at b (4 * k)) (padded head (tail_lane place values j) long (tail_length place values j))
      ∙ ap (word_at (head ++ rest)) is ∙ word_after head rest m long

  pub word_5 : slice_index place j < 2 ^ 32 → slice_index place j % 256 ≡ 0
      → word_at block 20 ≡ bit_or (slice_index place j) (slice_index values.a j / 2 ^ 24)
  unfolding tail_lane digest_lane digest_bytes
  word_5 small even = at_word 5 0 refl ∙ place_is (slice_index place j) (slice_index values.a j) small words.a even

  pub word_6 : word_at block 24 ≡ bit_or (slice_index values.a j * 2 ^ 8 % 2 ^ 32) (slice_index values.b j / 2 ^ 24)
  unfolding tail_lane digest_lane digest_bytes
  word_6 = at_word 6 4 refl ∙ between_is (slice_index values.a j) (slice_index values.b j) words.a words.b

  pub word_7 : word_at block 28 ≡ bit_or (slice_index values.b j * 2 ^ 8 % 2 ^ 32) (slice_index values.c j / 2 ^ 24)
  unfolding tail_lane digest_lane digest_bytes
  word_7 = at_word 7 8 refl ∙ between_is (slice_index values.b j) (slice_index values.c j) words.b words.c

  pub word_8 : word_at block 32 ≡ bit_or (slice_index values.c j * 2 ^ 8 % 2 ^ 32) (slice_index values.d j / 2 ^ 24)
  unfolding tail_lane digest_lane digest_bytes
  word_8 = at_word 8 12 refl ∙ between_is (slice_index values.c j) (slice_index values.d j) words.c words.d

  pub word_9 : word_at block 36 ≡ bit_or (slice_index values.d j * 2 ^ 8 % 2 ^ 32) (slice_index values.e j / 2 ^ 24)
  unfolding tail_lane digest_lane digest_bytes
  word_9 = at_word 9 16 refl ∙ between_is (slice_index values.d j) (slice_index values.e j) words.d words.e

  pub word_10 : word_at block 40 ≡ bit_or (slice_index values.e j * 2 ^ 8 % 2 ^ 32) (slice_index values.f j / 2 ^ 24)
  unfolding tail_lane digest_lane digest_bytes
  word_10 = at_word 10 20 refl ∙ between_is (slice_index values.e j) (slice_index values.f j) words.e words.f

  pub word_11 : word_at block 44 ≡ bit_or (slice_index values.f j * 2 ^ 8 % 2 ^ 32) (slice_index values.g j / 2 ^ 24)
  unfolding tail_lane digest_lane digest_bytes
  word_11 = at_word 11 24 refl ∙ between_is (slice_index values.f j) (slice_index values.g j) words.f words.g

  pub word_12 : word_at block 48 ≡ bit_or (slice_index values.g j * 2 ^ 8 % 2 ^ 32) (slice_index values.h j / 2 ^ 24)
  unfolding tail_lane digest_lane digest_bytes
  word_12 = at_word 12 28 refl ∙ between_is (slice_index values.g j) (slice_index values.h j) words.g words.h

  pub word_13 : word_at block 52 ≡ bit_or (slice_index values.h j * 2 ^ 8 % 2 ^ 32) (0x80000000 / 2 ^ 24)
  unfolding tail_lane digest_lane digest_bytes
  word_13 = at_word 13 32 refl ∙ between_is (slice_index values.h j) 0x80000000 words.h (omega arith)

  pub word_14 : word_at block 56 ≡ 0
  unfolding tail_lane digest_lane digest_bytes
  word_14 = at_word 14 36 refl

  pub word_15 : word_at block 60 ≡ 440
  unfolding tail_lane digest_lane digest_bytes
  word_15 = at_word 15 40 refl

-- the first words of the schedule after one more word of the block is written
pub first_more : (block : List ℕ) (j t : ℕ) (words : List (List ℕ)) (word : List ℕ) → t < 16 → length words ≡ 64
    → slice_index word j ≡ word_at block (4 * t) → IsScheduled block j words t → IsScheduled block j (slice_set words t word) (t + 1)
first_more block j t words word below long is held =
    scheduled_more block j t words word (omega (arith, long, below)) (is ∙ sym (slice_index-schedule_first block 48 t below)) held

pub long_set : (words : List (List ℕ)) (t : ℕ) (word : List ℕ) → length words ≡ 64 → length (slice_set words t word) ≡ 64
long_set words t word long = length-set words t word ∙ long

-- ---- selection by a test

pub digest_chosen : (b : Bool) (s v u : State) (j : ℕ) → state_lane j s ≡ (if b then state_lane j v else state_lane j u)
    → digest_lane s j ≡ (if b then digest_lane v j else digest_lane u j)
unfolding digest_lane
digest_chosen true s v u j is = ap (λ words. digest_bytes words 8) is
digest_chosen false s v u j is = ap (λ words. digest_bytes words 8) is

pub tail_chosen : (b : Bool) (place p q : List ℕ) (s v u : State) (j : ℕ) → slice_index place j ≡ (if b then slice_index p j else slice_index q j)
    → state_lane j s ≡ (if b then state_lane j v else state_lane j u) → tail_lane place s j ≡ (if b then tail_lane p v j else tail_lane q u j)
unfolding tail_lane digest_lane
tail_chosen true place p q s v u j at is = λ i. take 3 (to_be_bytes w32 (at i)) ++ digest_bytes (is i) 8
tail_chosen false place p q s v u j at is = λ i. take 3 (to_be_bytes w32 (at i)) ++ digest_bytes (is i) 8

pub tail_gone_on : (b : Bool) (place next old : List ℕ) (s v u : State) (j : ℕ)
    → slice_index place j ≡ (if b then slice_index next j else slice_index old j)
    → state_lane j s ≡ (if b then state_lane j v else state_lane j u)
    → take 3 (to_be_bytes w32 (slice_index next j))
    ≡ take 2 (to_be_bytes w32 (slice_index old j)) ++ (slice_index (to_be_bytes w32 (slice_index old j)) 2 + 1) % 256 ∷ []
    → tail_lane place s j ≡ (if b then take 2 (tail_lane old u j) ++ (slice_index (tail_lane old u j) 2 + 1) % 256 ∷ digest_lane v j
    else tail_lane old u j)
unfolding tail_lane digest_lane
tail_gone_on true place next old s v u j at is number =
    (λ i. take 3 (to_be_bytes w32 (at i)) ++ digest_bytes (is i) 8) ∙ ap (λ front. front ++ digest_bytes (state_lane j v) 8) number
tail_gone_on false place next old s v u j at is number = λ i. take 3 (to_be_bytes w32 (at i)) ++ digest_bytes (is i) 8

-- ---- values as words

-- the words of a value are those of its bytes
pub digest_of_bytes : (s : State) (j : ℕ) (bytes : List ℕ) → ((i : ℕ) → slice_index bytes i < 256) → length bytes ≡ 32
    → slice_index s.a j ≡ word_at bytes 0 → slice_index s.b j ≡ word_at bytes 4 → slice_index s.c j ≡ word_at bytes 8
    → slice_index s.d j ≡ word_at bytes 12 → slice_index s.e j ≡ word_at bytes 16 → slice_index s.f j ≡ word_at bytes 20
    → slice_index s.g j ≡ word_at bytes 24 → slice_index s.h j ≡ word_at bytes 28 → digest_lane s j ≡ bytes
unfolding digest_lane
digest_of_bytes s j bytes small long a b c d e f g h =
    bytes_of_words (state_lane j s) bytes 8 small (omega (arith, long))
    (below_eight (λ i. slice_index (state_lane j s) i ≡ word_at bytes (4 * i)) a b c d e f g h)
    ∙ take_all 32 bytes (omega (arith, long))

-- the words 5 to 15 of the block of a message, written into a schedule
pub scheduled_tail : (block : List ℕ) (j : ℕ) (ws : List (List ℕ)) (w5 w6 w7 w8 w9 w10 w11 w12 w13 w14 w15 : List ℕ) → length ws ≡ 64
    → slice_index w5 j ≡ word_at block 20 → slice_index w6 j ≡ word_at block 24 → slice_index w7 j ≡ word_at block 28
    → slice_index w8 j ≡ word_at block 32 → slice_index w9 j ≡ word_at block 36 → slice_index w10 j ≡ word_at block 40
    → slice_index w11 j ≡ word_at block 44 → slice_index w12 j ≡ word_at block 48 → slice_index w13 j ≡ word_at block 52
    → slice_index w14 j ≡ word_at block 56 → slice_index w15 j ≡ word_at block 60 → IsScheduled block j ws 5
    → IsScheduled block j (slice_set (slice_set (slice_set (slice_set (slice_set (slice_set (slice_set (slice_set (slice_set (slice_set
    (slice_set ws 5 w5) 6 w6) 7 w7) 8 w8) 9 w9) 10 w10) 11 w11) 12 w12) 13 w13) 14 w14) 15 w15) 16
scheduled_tail block j ws w5 w6 w7 w8 w9 w10 w11 w12 w13 w14 w15 long e5 e6 e7 e8 e9 e10 e11 e12 e13 e14 e15 had =
    let l5 = long_set ws 5 w5 long in
    let l6 = long_set _ 6 w6 l5 in
    let l7 = long_set _ 7 w7 l6 in
    let l8 = long_set _ 8 w8 l7 in
    let l9 = long_set _ 9 w9 l8 in
    let l10 = long_set _ 10 w10 l9 in
    let l11 = long_set _ 11 w11 l10 in
    let l12 = long_set _ 12 w12 l11 in
    let l13 = long_set _ 13 w13 l12 in
    let l14 = long_set _ 14 w14 l13 in
    let s6 = first_more block j 5 ws w5 (omega arith) long e5 had in
    let s7 = first_more block j 6 _ w6 (omega arith) l5 e6 s6 in
    let s8 = first_more block j 7 _ w7 (omega arith) l6 e7 s7 in
    let s9 = first_more block j 8 _ w8 (omega arith) l7 e8 s8 in
    let s10 = first_more block j 9 _ w9 (omega arith) l8 e9 s9 in
    let s11 = first_more block j 10 _ w10 (omega arith) l9 e10 s10 in
    let s12 = first_more block j 11 _ w11 (omega arith) l10 e11 s11 in
    let s13 = first_more block j 12 _ w12 (omega arith) l11 e12 s12 in
    let s14 = first_more block j 13 _ w13 (omega arith) l12 e13 s13 in
    let s15 = first_more block j 14 _ w14 (omega arith) l13 e14 s14 in
    first_more block j 15 _ w15 (omega arith) l14 e15 s15

-- the place with the next number: the same chain, and the number modulo 256 above a byte of 0
pub next_is : (p : ℕ) → p < 2 ^ 32 → p % 256 ≡ 0
    → bit_or (p / 2 ^ 16 * 2 ^ 16 % 2 ^ 32) ((p + 0x100) % 2 ^ 32 * 2 ^ 16 % 2 ^ 32 / 2 ^ 16) ≡ p / 65536 * 65536 + (p / 256 + 1) % 256 * 256
next_is p small even =
    let high : p / 2 ^ 16 * 2 ^ 16 % 2 ^ 32 ≡ p / 2 ^ 16 * 2 ^ 16 = omega (arith, small) in
    let low : (p + 0x100) % 2 ^ 32 * 2 ^ 16 % 2 ^ 32 / 2 ^ 16 ≡ (p / 256 + 1) % 256 * 256 = omega (arith, small, even) in
    rw (high, low) (or_shifted (p / 2 ^ 16) 16 ((p / 256 + 1) % 256 * 256) (omega arith) ∙ omega arith)

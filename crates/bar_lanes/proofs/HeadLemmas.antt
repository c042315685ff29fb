-- The first 20 bytes of messages, as words.
use Rattle.std.proofs.Common.{◌≡◌, ℕ, zero, suc, ◌*◌, ◌<◌, List, length, take, slice_index, slice_set, refl, ◌∙◌, arith}
use Rattle.std.proofs.lemmas.List.{take_all}
use Rattle.sha2.specs.Sha256.{digest_bytes, word_at}
use Rattle.bar_lanes.specs.declared.beginning.Beginning.{Beginning}
use Rattle.bar_lanes.specs.Code.Lane.{Begins, IsScheduled, begin_lane, head_lane}
use Rattle.bar_lanes.proofs.ScheduleLemmas.{word_of_head}
use Rattle.bar_lanes.proofs.TailLemmas.{bytes_of_words, first_more, long_set}

pub head_length : (b : Beginning) (j : ℕ) → length (head_lane b j) ≡ 20
unfolding head_lane digest_bytes
head_length b j = refl

-- If a block begins with these bytes, their first words are those of the block.
pub begins_alike : (block bytes : List ℕ) (j : ℕ) (words : Beginning) → take 20 block ≡ bytes → Begins bytes j words → Begins block j words
begins_alike block bytes j words same b = record {
  first = b.first ∙ word_of_head block bytes 0 (omega arith) same;
  second = b.second ∙ word_of_head block bytes 1 (omega arith) same;
  third = b.third ∙ word_of_head block bytes 2 (omega arith) same;
  fourth = b.fourth ∙ word_of_head block bytes 3 (omega arith) same;
  fifth = b.fifth ∙ word_of_head block bytes 4 (omega arith) same;
}

-- the first five words of a block, written into a schedule
pub scheduled_five : (block : List ℕ) (j : ℕ) (head : Beginning) → Begins block j head → (ws : List (List ℕ)) → length ws ≡ 64
    → IsScheduled block j (slice_set (slice_set (slice_set (slice_set (slice_set ws 0 head.a) 1 head.b) 2 head.c) 3 head.d) 4 head.e) 5
scheduled_five block j head b ws long =
    let none : IsScheduled block j ws 0 = λ k below. absurd (omega (arith, below)) in
    let long1 = long_set ws 0 head.a long in
    let long2 = long_set _ 1 head.b long1 in
    let long3 = long_set _ 2 head.c long2 in
    let long4 = long_set _ 3 head.d long3 in
    first_more block j 4 _ head.e (omega arith) long4 b.fifth
    (first_more block j 3 _ head.d (omega arith) long3 b.fourth
    (first_more block j 2 _ head.c (omega arith) long2 b.third
    (first_more block j 1 _ head.b (omega arith) long1 b.second (first_more block j 0 ws head.a (omega arith) long b.first none))))

-- the words of a head are those of its bytes
pub head_of_bytes : (b : Beginning) (j : ℕ) (bytes : List ℕ) → ((i : ℕ) → slice_index bytes i < 256) → length bytes ≡ 20
    → Begins bytes j b → head_lane b j ≡ bytes
unfolding head_lane
head_of_bytes b j bytes small long h =
    bytes_of_words (begin_lane j b) bytes 5 small (omega (arith, long)) each ∙ take_all 20 bytes (omega (arith, long))
  where
    each : (i : ℕ) → i < 5 → slice_index (begin_lane j b) i ≡ word_at bytes (4 * i)
    each zero below = h.first
    each (suc zero) below = h.second
    each (suc (suc zero)) below = h.third
    each (suc (suc (suc zero))) below = h.fourth
    each (suc (suc (suc (suc zero)))) below = h.fifth
    each (suc (suc (suc (suc (suc n))))) below = absurd (omega arith)

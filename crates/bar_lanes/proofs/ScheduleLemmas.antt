-- The schedules of eight blocks side by side.
use Rattle.std.proofs.Common.{◌≡◌, ℕ, ◌+◌, ◌-◌, ◌*◌, ◌<◌, ◌≤◌, List, [], length, take, zero, suc, slice_index, slice_set, arith, ◌∙◌, refl, ap, sym, inl, inr}
use Rattle.std.proofs.lemmas.Bool.{cases_eq}
use Rattle.std.proofs.lemmas.List.{get_or-set_same, get_or-set_other, get_or-take}
use Rattle.sha2.specs.Sha256.{schedule, next_word, word_at, add32, small_sigma1}
use Rattle.sha2.proofs.Schedule256.{slice_index-schedule_first, slice_index-schedule_next}
use Rattle.bar_lanes.specs.Code.Lane.{lane, lane_at, IsScheduled, late_at}
use Rattle.bar_lanes.proofs.LaneLemmas.{slice_index-lane}

-- the first sixteen words of a schedule are those of the block
pub scheduled_first : (block : List ℕ) (j : ℕ) (words : List (List ℕ)) → ((k : ℕ) → k < 16 → lane_at words k j ≡ word_at block (4 * k))
    → IsScheduled block j words 16
scheduled_first block j words is k below = is k below ∙ sym (slice_index-schedule_first block 48 k below)

-- If the first n words are those of the schedule, so are the first m, for m at most n.
pub scheduled_fewer : (block : List ℕ) (j : ℕ) (words : List (List ℕ)) (n m : ℕ) → m ≤ n → IsScheduled block j words n
    → IsScheduled block j words m
scheduled_fewer block j words n m le held k below = held k (omega (arith, le, below))

-- the next word of a lane is that of the schedule
pub scheduled_word : (block : List ℕ) (j t : ℕ) (words : List (List ℕ)) → 16 ≤ t → t < 64 → length words ≡ 64 → IsScheduled block j words t
    → next_word (lane j words) t ≡ slice_index (schedule block 48) t
scheduled_word block j t words low high long held =
    let at : (k : ℕ) → k < t → slice_index (lane j words) k ≡ slice_index (schedule block 48) k =
    λ k below. slice_index-lane words j k (omega (arith, long, below, high)) ∙ held k below
    in
    rw (at (t - 2) (omega arith), at (t - 7) (omega arith), at (t - 15) (omega arith), at (t - 16) (omega arith))
    (sym (slice_index-schedule_next block 48 t low (omega arith)))

-- the first words of the schedule after one more is written
pub scheduled_more : (block : List ℕ) (j t : ℕ) (words : List (List ℕ)) (word : List ℕ) → t < length words
    → slice_index word j ≡ slice_index (schedule block 48) t → IsScheduled block j words t
    → IsScheduled block j (slice_set words t word) (t + 1)
scheduled_more block j t words word room is held k below =
    elim (cases_eq k t) [
      | inl same ↦ rw same (ap (λ (v : List ℕ). slice_index v j) (get_or-set_same words t word [] room) ∙ is)
      | inr other ↦
          ap (λ (v : List ℕ). slice_index v j) (get_or-set_other words t k word [] other) ∙ held k (omega (arith, below, other))
    ]

add32_assoc : (x y z : ℕ) → add32 (add32 x y) z ≡ add32 x (add32 y z)
add32_assoc x y z = omega arith

-- word 16 + k of a schedule, its last two summands taken together
pub late_word_is : (block : List ℕ) (k : ℕ) → k < 4
    → add32 (add32 (small_sigma1 (slice_index (schedule block 48) (k + 14))) (slice_index (schedule block 48) (k + 9))) (late_at block k)
    ≡ slice_index (schedule block 48) (16 + k)
late_word_is block k below =
    let ws = schedule block 48 in
    let two : 16 + k - 2 ≡ k + 14 = omega arith in
    let seven : 16 + k - 7 ≡ k + 9 = omega arith in
    let fifteen : 16 + k - 15 ≡ k + 1 = omega arith in
    let sixteen : 16 + k - 16 ≡ k = omega arith in
    sym (slice_index-schedule_next block 48 (16 + k) (omega arith) (omega arith)
    ∙ rw (two, seven, fifteen, sixteen) (add32_assoc (add32 (small_sigma1 (slice_index ws (k + 14))) (slice_index ws (k + 9))) _ (slice_index ws k)))

-- If a block begins with these bytes, its first five words are those of the bytes.
pub word_of_head : (block bytes : List ℕ) (k : ℕ) → k < 5 → take 20 block ≡ bytes → word_at bytes (4 * k) ≡ word_at block (4 * k)
word_of_head block bytes k below same =
    let at : (i : ℕ) → i < 20 → slice_index bytes i ≡ slice_index block i =
    λ i few. ap (λ (b : List ℕ). slice_index b i) (sym same) ∙ get_or-take 20 block i 0 few
    in
    rw (at (4 * k) (omega arith), at (4 * k + 1) (omega arith), at (4 * k + 2) (omega arith), at (4 * k + 3) (omega arith)) refl

-- what holds for each of the numbers 0 to 3 holds for each number below 4
pub below_four : (P : ℕ → Type 0) → P 0 → P 1 → P 2 → P 3 → (k : ℕ) → k < 4 → P k
below_four P p0 p1 p2 p3 zero h = p0
below_four P p0 p1 p2 p3 (suc zero) h = p1
below_four P p0 p1 p2 p3 (suc (suc zero)) h = p2
below_four P p0 p1 p2 p3 (suc (suc (suc zero))) h = p3
below_four P p0 p1 p2 p3 (suc (suc (suc (suc n)))) h = absurd (omega arith)

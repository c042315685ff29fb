-- Eight states side by side: a vector for each word, with a lane for each state.
use Rattle.std.specs.Prelude.{◌≡◌, ℕ, ◌+◌, ◌<◌, List, [], ◌∷◌, ◌++◌, map, take, slice_index, slice_index_or}
use Rattle.std.specs.Int.{w32, to_be_bytes}
use Rattle.bar_lanes.specs.declared.state.State.{State}
use Rattle.bar_lanes.specs.declared.beginning.Beginning.{Beginning}
use Rattle.bar_lanes.specs.declared.late.Late.{Late}
use Rattle.sha2.specs.Sha256.{schedule, rounds, initial_hash_256, add32, digest_bytes, small_sigma0, word_at}

-- the words of one lane
abbrev pub lane : ℕ → List (List ℕ) → List ℕ
lane j x = map (λ v. slice_index v j) x

-- word k of lane j
abbrev pub lane_at : List (List ℕ) → ℕ → ℕ → ℕ
lane_at x k j = slice_index (slice_index_or x k []) j

-- the eight words of one lane of a hash value
abbrev pub hash_lane : ℕ → List (List ℕ) → List ℕ
hash_lane j x =
    lane_at x 0 j ∷ lane_at x 1 j ∷ lane_at x 2 j ∷ lane_at x 3 j
    ∷ lane_at x 4 j ∷ lane_at x 5 j ∷ lane_at x 6 j ∷ lane_at x 7 j ∷ []

-- the first n words of a lane are those of the schedule of a block
abbrev pub IsScheduled : List ℕ → ℕ → List (List ℕ) → ℕ → Type 0
IsScheduled block j words n = (k : ℕ) → k < n → lane_at words k j ≡ slice_index (schedule block 48) k

-- the summands of word 16 + k of the schedule of a block that come from words k and k + 1
abbrev pub late_at : List ℕ → ℕ → ℕ
late_at block k = add32 (small_sigma0 (slice_index (schedule block 48) (k + 1))) (slice_index (schedule block 48) k)

-- the eight words of one lane of a state
abbrev pub state_lane : ℕ → State → List ℕ
state_lane j s =
    slice_index s.a j ∷ slice_index s.b j ∷ slice_index s.c j ∷ slice_index s.d j
    ∷ slice_index s.e j ∷ slice_index s.f j ∷ slice_index s.g j ∷ slice_index s.h j ∷ []

-- the five words of one lane of the beginnings of blocks
abbrev pub begin_lane : ℕ → Beginning → List ℕ
begin_lane j b = slice_index b.a j ∷ slice_index b.b j ∷ slice_index b.c j ∷ slice_index b.d j ∷ slice_index b.e j ∷ []

-- lane j of these words is the first five words of the block
pub record Begins (block : List ℕ) (j : ℕ) (words : Beginning) : Type 0 where
  pub first : slice_index words.a j ≡ word_at block 0
  pub second : slice_index words.b j ≡ word_at block 4
  pub third : slice_index words.c j ≡ word_at block 8
  pub fourth : slice_index words.d j ≡ word_at block 12
  pub fifth : slice_index words.e j ≡ word_at block 16

-- lane j has the first five words of the block and what depends on them alone: the summands of words 16 to 19 of its schedule, and the
-- state after five rounds
pub record IsHeadState (block : List ℕ) (j : ℕ) (words : Beginning) (late : Late) (working : State) : Type 0 where
  pub begins : Begins block j words
  pub first : slice_index late.a j ≡ late_at block 0
  pub second : slice_index late.b j ≡ late_at block 1
  pub third : slice_index late.c j ≡ late_at block 2
  pub fourth : slice_index late.d j ≡ late_at block 3
  pub state : state_lane j working ≡ rounds initial_hash_256 (schedule block 48) 5

-- the 32 bytes of a lane of eight words
unfoldable pub digest_lane : State → ℕ → List ℕ
digest_lane state j = digest_bytes (state_lane j state) 8

-- the 20 bytes of a lane of five words
unfoldable pub head_lane : Beginning → ℕ → List ℕ
head_lane words j = digest_bytes (begin_lane j words) 5

-- a lane of the last 35 bytes of messages of 55: the upper three bytes of a word, and the 32 bytes of eight words
unfoldable pub tail_lane : List ℕ → State → ℕ → List ℕ
tail_lane place values j = take 3 (to_be_bytes w32 (slice_index place j)) ++ digest_lane values j

-- the list of eight lanes
abbrev pub of_lanes : (ℕ → List ℕ) → List (List ℕ)
of_lanes f = f 0 ∷ f 1 ∷ f 2 ∷ f 3 ∷ f 4 ∷ f 5 ∷ f 6 ∷ f 7 ∷ []

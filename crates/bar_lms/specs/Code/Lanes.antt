-- Eight lanes, each of which takes two chains, one after the other.
use Rattle.std.specs.Prelude.{◌≡◌, ℕ, ◌+◌, ◌-◌, ◌<◌, ◌++◌, List, [], length, slice_index, slice_index_or, nat_lt, if◌then◌else◌, min}
use Rattle.std.specs.Int.{w32, to_be_bytes}
use Rattle.bar_lms.specs.declared.legs.Legs.{Legs}
use Rattle.bar_lms.specs.declared.legs.Eight.{Eight}
use Rattle.bar_lms.specs.Chains.{place, chain, chain_buffer}

-- the leg of a chain at a place: `count` steps from a value on; `from` is the number of the first step
pub record Leg : Type 0 where
  pub at : List ℕ
  pub from : ℕ
  pub count : ℕ
  pub value : List ℕ

-- the value at the end of a leg
abbrev pub leg_end : Leg → List ℕ
leg_end leg = chain leg.at leg.from leg.count leg.value

-- the leg of chain i of leaf q
abbrev pub leg_at : List ℕ → ℕ → Legs → ℕ → Leg
leg_at ident q legs i = record {
  at = place ident q i;
  from = slice_index legs.from i;
  count = slice_index legs.counts i;
  value = slice_index_or legs.starts i [];
}

-- the leg of one of eight chains of leaf q
abbrev pub leg_of : List ℕ → ℕ → Eight → ℕ → Leg
leg_of ident q eight j = record {
  at = place ident q (slice_index eight.numbers j);
  from = slice_index eight.from j;
  count = slice_index eight.counts j;
  value = slice_index_or eight.starts j [];
}

-- each of eight heads is what every step of a chain of leaf q begins with
abbrev pub AreHeadsOf : List ℕ → ℕ → List (List ℕ) → Type 0
AreHeadsOf ident q heads = (length ident ≡ 16) × ((j : ℕ) → j < 8 → slice_index_or heads j [] ≡ ident ++ to_be_bytes w32 q)

-- the steps of a lane that takes one of eight chains and then one of eight others
abbrev pub lane_steps : Eight → Eight → ℕ → ℕ
lane_steps first second j = slice_index first.counts j + slice_index second.counts j

-- the buffer of a lane after n steps of one leg and then another; at the end of the first leg, the second is not yet begun
unfoldable pub lane_held : Leg → Leg → ℕ → List ℕ
lane_held a b n =
    (if nat_lt a.count n then chain_buffer b.at b.from (min (n - a.count) b.count) b.value else chain_buffer a.at a.from n a.value)

-- the same, but at the end of the first leg the second is begun
unfoldable pub lane_begun : Leg → Leg → ℕ → List ℕ
lane_begun a b n =
    (if nat_lt n a.count then chain_buffer a.at a.from n a.value else chain_buffer b.at b.from (min (n - a.count) b.count) b.value)

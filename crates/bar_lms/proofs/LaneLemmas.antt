-- Lanes that take two chains, one after the other.
use Rattle.std.proofs.Common.{◌≡◌, ℕ, ◌+◌, ◌-◌, ◌%◌, ◌≤◌, ◌<◌, ◌==◌, ◌++◌, ◌∷◌, length, take, drop, List, [], refl, arith, ap, ◌∙◌, min, slice_index, slice_index_or, nat_lt, if◌then◌else◌, true, false, inl, inr}
use Rattle.std.proofs.lemmas.Bool.{cases_lt, cases_eq, eq-eqb, ne_eqb, lt-ltb, le-ltb}
use Rattle.sha2.specs.Sha256.{sha256}
use Rattle.bar_lms.specs.Chains.{chain_buffer}
use Rattle.bar_lms.specs.declared.legs.Legs.{Legs}
use Rattle.bar_lms.specs.declared.legs.Eight.{Eight}
use Rattle.bar_lms.specs.Code.Lanes.{Leg, leg_at, leg_of, leg_end, lane_held, lane_begun}
use Rattle.bar_lms.specs.Code.Order.{reached}
use Rattle.bar_lms.proofs.ChainLemmas.{buffer_none, buffer_value, buffer_more, buffer_head}

-- before any step
pub held_none : (a b : Leg) (n : ℕ) (now : List ℕ) → a.from < 256 → n ≡ 0 → now ≡ a.at ++ a.from ∷ a.value → now ≡ lane_held a b n
unfolding lane_held
held_none a b n now small none is =
    let test : nat_lt a.count n ≡ false = le-ltb a.count n (omega (arith, none)) in
    rw test (is ∙ buffer_none a.at a.from n a.value small none)

-- the second leg is begun when the first is over
pub begun_by : (a b : Leg) (n : ℕ) (now second next : List ℕ) → b.from < 256 → now ≡ lane_held a b n → second ≡ b.at ++ b.from ∷ b.value
    → next ≡ (if a.count == n then second else now) → next ≡ lane_begun a b n
unfolding lane_held lane_begun
begun_by a b n now second next small held begins is =
    elim (cases_eq a.count n) [
      | inl same ↦
          let test : (a.count == n) ≡ true = eq-eqb a.count n same in
          let over : nat_lt n a.count ≡ false = le-ltb n a.count (omega (arith, same)) in
          rw over ((rw test at is) ∙ (begins ∙ buffer_none b.at b.from (min (n - a.count) b.count) b.value small (omega (arith, same))))
      | inr other ↦
          let test : (a.count == n) ≡ false = ne_eqb a.count n other in
          elim (cases_lt n a.count) [
            | inl on ↦
                let goes : nat_lt n a.count ≡ true = lt-ltb n a.count on in
                let before : nat_lt a.count n ≡ false = le-ltb a.count n (omega (arith, on)) in
                rw goes ((rw test at is) ∙ (rw before at held))
            | inr past ↦
                let goes : nat_lt n a.count ≡ false = le-ltb n a.count past in
                let behind : nat_lt a.count n ≡ true = lt-ltb a.count n (omega (arith, past, other)) in
                rw goes ((rw test at is) ∙ (rw behind at held))
          ]
    ]

-- the value of the first leg is kept when it is over
pub end_kept : (a b : Leg) (n : ℕ) (now before end : List ℕ) → length a.at ≡ 22 → now ≡ lane_held a b n → (a.count < n → before ≡ leg_end a)
    → end ≡ (if a.count == n then drop 23 now else before) → a.count ≤ n → end ≡ leg_end a
unfolding lane_held
end_kept a b n now before end long held had is over =
    elim (cases_eq a.count n) [
      | inl same ↦
          let test : (a.count == n) ≡ true = eq-eqb a.count n same in
          let last : nat_lt a.count n ≡ false = le-ltb a.count n (omega (arith, same)) in
          let whole : now ≡ chain_buffer a.at a.from a.count a.value = rw same (rw last at held) in
          (rw (test, whole) at is) ∙ buffer_value a.at a.from a.count a.value long
      | inr other ↦
          let test : (a.count == n) ≡ false = ne_eqb a.count n other in
          (rw test at is) ∙ had (omega (arith, over, other))
    ]

-- all buffers of a lane begin with the same bytes
pub begun_head : (a b : Leg) (n : ℕ) (now head : List ℕ) → length a.at ≡ 22 → length b.at ≡ 22 → take 20 a.at ≡ head → take 20 b.at ≡ head
    → now ≡ lane_begun a b n → take 20 now ≡ head
unfolding lane_begun
begun_head a b n now head long_a long_b head_a head_b begun =
    elim (cases_lt n a.count) [
      | inl on ↦
          let goes : nat_lt n a.count ≡ true = lt-ltb n a.count on in
          let is : now ≡ chain_buffer a.at a.from n a.value = rw goes at begun in
          rw is (buffer_head a.at a.from n a.value long_a ∙ head_a)
      | inr past ↦
          let goes : nat_lt n a.count ≡ false = le-ltb n a.count past in
          let is : now ≡ chain_buffer b.at b.from (min (n - a.count) b.count) b.value = rw goes at begun in
          rw is (buffer_head b.at b.from (min (n - a.count) b.count) b.value long_b ∙ head_b)
    ]

-- one more step
pub held_more : (a b : Leg) (n : ℕ) (now hash next : List ℕ) → length a.at ≡ 22 → length b.at ≡ 22 → a.from + a.count ≤ 256 → b.from + b.count ≤ 256
    → now ≡ lane_begun a b n → hash ≡ sha256 now
    → next ≡ (if nat_lt n (a.count + b.count) then take 22 now ++ (slice_index now 22 + 1) % 256 ∷ hash else now)
    → next ≡ lane_held a b (n + 1)
unfolding lane_held lane_begun
held_more a b n now hash next long_a long_b few_a few_b begun hashed goes =
    elim (cases_lt n a.count) [
      | inl on ↦
          let in_first : nat_lt n a.count ≡ true = lt-ltb n a.count on in
          let in_both : nat_lt n (a.count + b.count) ≡ true = lt-ltb n (a.count + b.count) (omega (arith, on)) in
          let later : nat_lt a.count (n + 1) ≡ false = le-ltb a.count (n + 1) (omega (arith, on)) in
          let here : min n a.count ≡ n = omega (arith, on) in
          let there : min (n + 1) a.count ≡ n + 1 = omega (arith, on) in
          let same : nat_lt n (a.count + b.count) ≡ nat_lt n a.count = rw (in_first, in_both) refl in
          let is : now ≡ chain_buffer a.at a.from (min n a.count) a.value = rw here (rw in_first at begun) in
          rw later (rw there at (buffer_more a.at a.from n a.count a.value now hash next long_a few_a is hashed (rw same at goes)))
      | inr past ↦
          let k = n - a.count in
          let in_second : nat_lt n a.count ≡ false = le-ltb n a.count past in
          let later : nat_lt a.count (n + 1) ≡ true = lt-ltb a.count (n + 1) (omega (arith, past)) in
          let next_is : n + 1 - a.count ≡ k + 1 = omega (arith, past) in
          let same : nat_lt n (a.count + b.count) ≡ nat_lt k b.count =
          elim (cases_lt k b.count) [
            | inl goes_on ↦
                let left = lt-ltb n (a.count + b.count) (omega (arith, goes_on, past)) in
                let right = lt-ltb k b.count goes_on in
                rw (left, right) refl
            | inr over ↦
                let left = le-ltb n (a.count + b.count) (omega (arith, over, past)) in
                let right = le-ltb k b.count over in
                rw (left, right) refl
          ]
          in
          let is : now ≡ chain_buffer b.at b.from (min k b.count) b.value = rw in_second at begun in
          rw (later, next_is) (buffer_more b.at b.from k b.count b.value now hash next long_b few_b is hashed (rw same at goes))
    ]

-- after the last step
pub second_whole : (a b : Leg) (n : ℕ) (now : List ℕ) → length b.at ≡ 22 → a.count + b.count ≤ n → now ≡ lane_begun a b n → drop 23 now ≡ leg_end b
unfolding lane_begun
second_whole a b n now long over begun =
    let test : nat_lt n a.count ≡ false = le-ltb n a.count (omega (arith, over)) in
    let whole : min (n - a.count) b.count ≡ b.count = omega (arith, over) in
    let is : now ≡ chain_buffer b.at b.from b.count b.value = rw whole at (rw test at begun) in
    rw is (buffer_value b.at b.from b.count b.value long)

-- the values of eight chains whose legs have these numbers
pub reached_by : (ident : List ℕ) (q : ℕ) (legs : Legs) (eight : Eight) (numbers : List ℕ) (values : List (List ℕ)) → eight.numbers ≡ numbers
    → ((j : ℕ) → j < 8 → leg_of ident q eight j ≡ leg_at ident q legs (slice_index numbers j))
    → ((j : ℕ) → j < 8 → slice_index_or values j [] ≡ leg_end (leg_of ident q eight j))
    → (j : ℕ) → j < 8 → slice_index_or values j [] ≡ reached ident q legs (slice_index eight.numbers j)
unfolding reached
reached_by ident q legs eight numbers values same is taken j below =
    rw same (taken j below ∙ ap leg_end (is j below))

-- Pacing of lists of inputs.
use Rattle.std.proofs.Common.{◌≡◌, ℕ, zero, suc, ◌+◌, ◌-◌, ◌*◌, ◌≤◌, List, [], ◌∷◌, ◌++◌, refl, arith, false, true, inl, inr, ◌==◌, nat_le, Result, Ok, Err, length}
use Rattle.std.proofs.lemmas.Bool.{cases_Bool}
use Rattle.std.proofs.lemmas.Bool.Decides.{nat_tests}
use Rattle.std.specs.Prelude.{bytes_eq, take, drop}
use Rattle.std.specs.List.{AllByRecursion}
use Rattle.bar_wire.specs.Inputs.{Input, Tick, Datagram}
use Rattle.bar_record.specs.Pacing.{is_datagram, run_after, ticks_of, with_tick, with_ticks, due, paced_from, EndsAtTheLast, IsFew, StaysPaced}
use Rattle.bar_record.specs.declared.fault.RecordFault.{RecordFault}
use Rattle.bar_record.specs.declared.fault.RecordFault.TheVariants.{AfterEnd, BadHead, AfterLast}
use Rattle.bar_record.specs.Recording.{First, NoByte, End, Entry, NoEntry, head_bytes, first_of, before, ticks_put, inputs_by, inputs_from, IsInRange, IsTakenWhole, StaysInRange}

-- ---- everything that is read is taken

-- an input that isn't after the last tick is taken, with the tick that is inserted before it
due_whole : (last ticks run : ℕ) (input : Input) → nat_le last (ticks + ticks_put run input) ≡ false → due last ticks run input ≡ with_tick run input
due_whole last ticks run Tick early = let test : nat_le last ticks ≡ false = grind (arith, nat_tests, early) in rw test refl
due_whole last ticks run (Datagram bytes) early =
    let test : nat_le last ticks ≡ false = grind (arith, nat_tests, early) in
    elim (cases_Bool (run == 65536)) [
      | inl is ↦ let here : nat_le last (ticks + 1) ≡ false = rw is at early in rw (test, is, here) refl
      | inr is_not ↦ rw (test, is_not) refl
    ]

-- if everything that is read after an entry is taken, so is everything that is read with it
whole_before : (last ticks run : ℕ) (input : Input) (r : Result (List Input) RecordFault) (inputs : List Input) → nat_le last (ticks + ticks_put run input) ≡ false
    → ((others : List Input) → r ≡ Ok others → paced_from last (ticks + ticks_of (with_tick run input)) (run_after run (is_datagram input)) others
    ≡ with_ticks (run_after run (is_datagram input)) others)
    → before input r ≡ Ok inputs → paced_from last ticks run inputs ≡ with_ticks run inputs
whole_before last ticks run input (Err fault) inputs early behind is = absurd cc
whole_before last ticks run input (Ok others) inputs early behind is =
    let e : inputs ≡ input ∷ others = cc in
    rw (e, due_whole last ticks run input early, behind others refl) refl

-- everything that is read from the first entry on is taken, if everything that is read of the rest is
whole_by : (most last ticks run at : ℕ) (first : First) (inputs : List Input)
    → ((ticks run at : ℕ) (bytes : List ℕ) (inputs : List Input) → inputs_from most last ticks run at bytes ≡ Ok inputs
    → paced_from last ticks run inputs ≡ with_ticks run inputs)
    → inputs_by (inputs_from most last) last ticks run at first ≡ Ok inputs → paced_from last ticks run inputs ≡ with_ticks run inputs
whole_by most last ticks run at NoByte inputs rest is = absurd cc
whole_by most last ticks run at NoEntry inputs rest is = absurd cc
whole_by most last ticks run at (End bytes) inputs rest is = elim (cases_Bool (length bytes == 0)) [
  | inl none ↦ let e : Ok [] ≡ Ok inputs = rw none at is in let f : inputs ≡ [] = cc in rw f refl
  | inr some ↦ let e : Err AfterEnd ≡ Ok inputs = rw some at is in absurd cc
]
whole_by most last ticks run at (Entry input bytes) inputs rest is = elim (cases_Bool (nat_le last (ticks + ticks_put run input))) [
  | inl late ↦ let e : Err (AfterLast at) ≡ Ok inputs = rw late at is in absurd cc
  | inr early ↦ whole_before last ticks run input _ inputs early (rest _ _ _ bytes) (rw early at is)
]

whole_from : (most last ticks run at : ℕ) (bytes : List ℕ) (inputs : List Input) → inputs_from most last ticks run at bytes ≡ Ok inputs
    → paced_from last ticks run inputs ≡ with_ticks run inputs
unfolding inputs_from
whole_from zero last ticks run at bytes inputs is = absurd cc
whole_from (suc most) last ticks run at bytes inputs is = whole_by most last ticks run at (first_of bytes) inputs (whole_from most last) is

pub taken_whole : IsTakenWhole
taken_whole id bytes party last inputs is = elim (cases_Bool (bytes_eq (take 15 bytes) (head_bytes id party))) [
  | inl same ↦ whole_from (suc (length (drop 15 bytes))) last 0 0 15 (drop 15 bytes) inputs (rw same at is)
  | inr other ↦ let e : Err BadHead ≡ Ok inputs = rw other at is in absurd cc
]

-- ---- up to the last tick

-- after the last tick nothing is taken
pub none_late : (last ticks run : ℕ) (inputs : List Input) → nat_le last ticks ≡ true → paced_from last ticks run inputs ≡ []
none_late last ticks run [] late = refl
none_late last ticks run (Tick ∷ inputs) late = let same : ticks + 0 ≡ ticks = omega arith in rw (late, same) (none_late last ticks 0 inputs late)
none_late last ticks run (Datagram bytes ∷ inputs) late =
    let same : ticks + 0 ≡ ticks = omega arith in
    rw (late, same) (none_late last ticks (run_after run true) inputs late)

-- the ticks of two lists
pub ticks_joined : (xs ys : List Input) → ticks_of (xs ++ ys) ≡ ticks_of xs + ticks_of ys
ticks_joined [] ys = omega arith
ticks_joined (input ∷ xs) ys = omega (arith, ticks_joined xs ys)

few_due : (last ticks run : ℕ) (input : Input) → ticks ≤ last → ticks + ticks_of (due last ticks run input) ≤ last
few_due last ticks run Tick few = elim (cases_Bool (nat_le last ticks)) [
  | inl late ↦ rw late (omega arith)
  | inr early ↦ let more : ticks + 1 ≤ last = grind (arith, nat_tests) in rw early (omega arith)
]
few_due last ticks run (Datagram bytes) few = elim (cases_Bool (nat_le last ticks)) [
  | inl late ↦ rw late (omega arith)
  | inr early ↦
      let more : ticks + 1 ≤ last = grind (arith, nat_tests) in
      elim (cases_Bool (run == 65536)) [
        | inl is ↦ elim (cases_Bool (nat_le last (ticks + 1))) [ inl end ↦ rw (early, is, end) (omega arith) | inr on ↦ rw (early, is, on) (omega arith) ]
        | inr is_not ↦ rw (early, is_not) (omega arith)
      ]
]

pub few_ticks : EndsAtTheLast
few_ticks last ticks run [] few = omega arith
few_ticks last ticks run (input ∷ inputs) few =
    let now = due last ticks run input in
    let count = ticks + ticks_of now in
    let behind = run_after run (is_datagram input) in
    omega (arith, ticks_joined now (paced_from last count behind inputs), few_ticks last count behind inputs (few_due last ticks run input few))

-- what is paced already stays the same, after so many ticks and so many datagrams in a row
again_from : (last ticks run : ℕ) (inputs : List Input) → paced_from last ticks run (paced_from last ticks run inputs) ≡ paced_from last ticks run inputs
again_from last ticks run [] = refl
again_from last ticks run (Tick ∷ inputs) = elim (cases_Bool (nat_le last ticks)) [
  | inl late ↦ rw (none_late last ticks run (Tick ∷ inputs) late) refl
  | inr early ↦ rw early (rw (early, again_from last (ticks + 1) 0 inputs) refl)
]
again_from last ticks run (Datagram bytes ∷ inputs) = elim (cases_Bool (nat_le last ticks)) [
  | inl late ↦ rw (none_late last ticks run (Datagram bytes ∷ inputs) late) refl
  | inr early ↦
      let same : ticks + 0 ≡ ticks = omega arith in
      elim (cases_Bool (run == 65536)) [
        | inl is ↦ elim (cases_Bool (nat_le last (ticks + 1))) [
          | inl end ↦ rw (early, is, end, none_late last (ticks + 1) 1 inputs end) (rw early refl)
          | inr on ↦
              let plus : ticks + 1 + 0 ≡ ticks + 1 = omega arith in
              rw (early, is, on) (rw (early, on, plus, again_from last (ticks + 1) 1 inputs) refl)
        ]
        | inr is_not ↦ rw (early, is_not, same) (rw (early, is_not, same, again_from last ticks (run + 1) inputs) refl)
      ]
]

pub paced_again : StaysPaced
paced_again last inputs = again_from last 0 0 inputs

-- ---- how many inputs are taken

few_from : (last ticks run : ℕ) (inputs : List Input) → run ≤ 65536 → length (paced_from last ticks run inputs) ≤ 65537 * (last - ticks) - run
few_from last ticks run [] few = omega arith
few_from last ticks run (Tick ∷ inputs) few = elim (cases_Bool (nat_le last ticks)) [
  | inl late ↦ rw (none_late last ticks run (Tick ∷ inputs) late) (omega arith)
  | inr early ↦
      let more : ticks + 1 ≤ last = grind (arith, nat_tests) in
      rw early (omega (arith, few_from last (ticks + 1) 0 inputs (omega arith)))
]
few_from last ticks run (Datagram bytes ∷ inputs) few = elim (cases_Bool (nat_le last ticks)) [
  | inl late ↦ rw (none_late last ticks run (Datagram bytes ∷ inputs) late) (omega arith)
  | inr early ↦
      let more : ticks + 1 ≤ last = grind (arith, nat_tests) in
      elim (cases_Bool (run == 65536)) [
        | inl is ↦ elim (cases_Bool (nat_le last (ticks + 1))) [
          | inl end ↦ rw (early, is, end, none_late last (ticks + 1) 1 inputs end) (omega arith)
          | inr on ↦
              let two : ticks + 2 ≤ last = grind (arith, nat_tests) in
              rw (early, is, on) (omega (arith, few_from last (ticks + 1) 1 inputs (omega arith)))
        ]
        | inr is_not ↦
            let same : ticks + 0 ≡ ticks = omega arith in
            let short : run + 1 ≤ 65536 = grind (arith, nat_tests) in
            rw (early, is_not, same) (omega (arith, few_from last ticks (run + 1) inputs short))
      ]
]

pub few_inputs : IsFew
few_inputs last inputs = omega (arith, few_from last 0 0 inputs (omega arith))

-- ---- each datagram stays the same

ranged_from : (last ticks run : ℕ) (inputs : List Input) → AllByRecursion IsInRange inputs → AllByRecursion IsInRange (paced_from last ticks run inputs)
ranged_from last ticks run [] fit = tt
ranged_from last ticks run (Tick ∷ inputs) fit = elim (cases_Bool (nat_le last ticks)) [
  | inl late ↦ rw (none_late last ticks run (Tick ∷ inputs) late) tt
  | inr early ↦ rw early (tt, ranged_from last (ticks + 1) 0 inputs fit.1)
]
ranged_from last ticks run (Datagram bytes ∷ inputs) fit = elim (cases_Bool (nat_le last ticks)) [
  | inl late ↦ rw (none_late last ticks run (Datagram bytes ∷ inputs) late) tt
  | inr early ↦ elim (cases_Bool (run == 65536)) [
    | inl is ↦ elim (cases_Bool (nat_le last (ticks + 1))) [
      | inl end ↦ rw (early, is, end, none_late last (ticks + 1) 1 inputs end) (tt, tt)
      | inr on ↦ rw (early, is, on) (tt, (fit.0, ranged_from last (ticks + 1) 1 inputs fit.1))
    ]
    | inr is_not ↦
        let same : ticks + 0 ≡ ticks = omega arith in
        rw (early, is_not, same) (fit.0, ranged_from last ticks (run + 1) inputs fit.1)
  ]
]

pub in_range : StaysInRange
in_range last inputs fit = ranged_from last 0 0 inputs fit

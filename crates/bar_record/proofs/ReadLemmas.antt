-- Reading a recording entry by entry.
use Rattle.std.proofs.Common.{◌≡◌, ℕ, zero, suc, ◌+◌, ◌-◌, ◌<◌, ◌≤◌, ◌++◌, List, [], ◌∷◌, length, refl, ap, sym, ◌∙◌, arith, append_assoc, Result, Ok, Err, nat_le, false, true}
use Rattle.std.proofs.Common.{take, drop, ◌==◌, inl, inr, length-append, length-drop, append-nil}
use Rattle.std.proofs.lemmas.Bool.{cases_Bool}
use Rattle.std.proofs.lemmas.Bool.Decides.{nat_tests}
use Rattle.std.proofs.lemmas.List.{length-take-le}
use Rattle.bar_bytes.specs.Bytes.{first_u16}
use Rattle.bar_bytes.proofs.Lengths.{length_u16}
use Rattle.bar_record.proofs.EntryLemmas.{entries_entry, entries_zero}
use Rattle.bar_wire.specs.Limits.{largest_datagram}
use Rattle.bar_wire.specs.Inputs.{Input}
use Rattle.bar_wire.specs.Inputs as event
use Rattle.bar_record.specs.declared.fault.RecordFault.{RecordFault}
use Rattle.bar_record.specs.declared.fault.RecordFault.TheVariants.{NoEnd, AfterLast}
use Rattle.bar_record.specs.Recording.{First, Entry, NoEntry, End, entry_bytes, datagram_first, sized_first, marked_first, first_of, inputs_from, inputs_by, before, ticks_put}
use Rattle.bar_record.specs.Pacing.{is_datagram, is_due, run_after, ticks_in, ticks_of, with_tick}
use Rattle.bar_record.specs.Code.Items.{entries}

-- inputs before those of a reading
abbrev pub after : List Input → Result (List Input) RecordFault → Result (List Input) RecordFault
after inputs (Ok others) = Ok (inputs ++ others)
after inputs (Err fault) = Err fault

pub after_before : (xs : List Input) (input : Input) (r : Result (List Input) RecordFault) → after xs (before input r) ≡ after (xs ++ input ∷ []) r
after_before xs input (Ok others) = ap Ok (sym (append_assoc xs (input ∷ []) others))
after_before xs input (Err fault) = refl

pub after-none : (r : Result (List Input) RecordFault) → after [] r ≡ r
after-none (Ok others) = refl
after-none (Err fault) = refl

le_of_test : (a b : ℕ) → nat_le a b ≡ true → a ≤ b
le_of_test a b h = grind (arith, nat_tests)

-- one more step of a reading
pub reads_by : (most last ticks run at : ℕ) (bytes : List ℕ) → 0 < most → inputs_from most last ticks run at bytes ≡ inputs_by (inputs_from (most - 1) last) last ticks run at (first_of bytes)
unfolding inputs_from
reads_by zero last ticks run at bytes some = absurd (omega arith)
reads_by (suc most) last ticks run at bytes some = let e : suc most - 1 ≡ most = omega arith in rw e refl

-- ---- an entry takes as many bytes as it has

length_datagram : (len : ℕ) (rest others : List ℕ) (input : Input) → datagram_first len rest ≡ Entry input others
    → 3 + length rest ≡ length (entry_bytes input) + length others
length_datagram len rest others input is = elim (cases_Bool (nat_le len largest_datagram)) [
  | inl few ↦ elim (cases_Bool (nat_le len (length rest))) [
    | inl all ↦
        let e : Entry (event.Datagram (take len rest)) (drop len rest) ≡ Entry input others = rw (few, all) at is in
        let le : len ≤ length rest = le_of_test len (length rest) all in
        let one : input ≡ event.Datagram (take len rest) = cc in
        let two : others ≡ drop len rest = cc in
        rw (one, two) (simp (length-append, length_u16, length-drop) (omega (arith, length-take-le len rest le)))
    | inr short ↦ let e : NoEntry ≡ Entry input others = rw (few, short) at is in absurd cc
  ]
  | inr many ↦ let e : NoEntry ≡ Entry input others = rw many at is in absurd cc
]

length_sized : (rest others : List ℕ) (input : Input) → sized_first rest ≡ Entry input others → 1 + length rest ≡ length (entry_bytes input) + length others
length_sized rest others input is = elim (cases_Bool (nat_le 2 (length rest))) [
  | inl room ↦
      let e : datagram_first (first_u16 rest) (drop 2 rest) ≡ Entry input others = rw room at is in
      let le : 2 ≤ length rest = le_of_test 2 (length rest) room in
      omega (arith, length_datagram (first_u16 rest) (drop 2 rest) others input e, length-drop 2 rest)
  | inr short ↦ let e : NoEntry ≡ Entry input others = rw short at is in absurd cc
]

length_marked : (mark : ℕ) (rest others : List ℕ) (input : Input) → marked_first mark rest ≡ Entry input others → 1 + length rest ≡ length (entry_bytes input) + length others
length_marked mark rest others input is = elim (cases_Bool (mark == 0)) [
  | inl end ↦ let e : End rest ≡ Entry input others = rw end at is in absurd cc
  | inr no_end ↦ elim (cases_Bool (mark == 1)) [
    | inl tick ↦
        let e : Entry event.Tick rest ≡ Entry input others = rw (no_end, tick) at is in
        let one : input ≡ event.Tick = cc in
        let two : others ≡ rest = cc in
        rw (one, two) refl
    | inr no_tick ↦ elim (cases_Bool (mark == 2)) [
      | inl sized ↦ let e : sized_first rest ≡ Entry input others = rw (no_end, no_tick, sized) at is in length_sized rest others input e
      | inr no_mark ↦ let e : NoEntry ≡ Entry input others = rw (no_end, no_tick, no_mark) at is in absurd cc
    ]
  ]
]

pub length_entry : (bytes rest : List ℕ) (input : Input) → first_of bytes ≡ Entry input rest → length bytes ≡ length (entry_bytes input) + length rest
unfolding first_of
length_entry [] rest input is = absurd cc
length_entry (mark ∷ bytes) rest input is = omega (arith, length_marked mark bytes rest input is)

-- ---- the ticks of an entry

-- an input's ticks are those that are inserted before it and its own
pub ticks_with : (run : ℕ) (input : Input) → ticks_of (with_tick run input) ≡ ticks_put run input + ticks_in input
ticks_with run input = elim (cases_Bool (is_due run (is_datagram input))) [
  | inl due ↦ rw due (omega arith)
  | inr none ↦ rw none (omega arith)
]

-- an input and what is inserted before it have at most one tick
pub few_with : (run : ℕ) (input : Input) → ticks_put run input + ticks_in input ≤ 1
few_with run event.Tick = omega arith
few_with run (event.Datagram bytes) = elim (cases_Bool (run == 65536)) [ inl due ↦ rw due (omega arith) | inr none ↦ rw none (omega arith) ]

-- ---- the progress of a reading

-- what is read of the whole is the entries so far and what is read of the rest
pub record IsReadTo (whole : List ℕ) (last i ticks run : ℕ) (rest : List ℕ) : Type 0 where
  pub read : inputs_from (suc (length whole)) last 0 0 15 whole
      ≡ after (entries i whole) (inputs_from (suc (length whole) - i) last ticks run (15 + (length whole - length rest)) rest)
  pub front : (m : ℕ) → entries (i + m) whole ≡ entries i whole ++ entries m rest
  pub within : length rest ≤ length whole
  pub early : ticks ≤ last

-- nothing is read yet
pub read_none : (whole : List ℕ) (last : ℕ) → IsReadTo whole last 0 0 0 whole
read_none whole last =
    let e : suc (length whole) - 0 ≡ suc (length whole) = omega arith in
    let f : 15 + (length whole - length whole) ≡ 15 = omega arith in
    record {
      read = rw (entries_zero whole, e, f) (sym (after-none (inputs_from (suc (length whole)) last 0 0 15 whole)));
      front = λ m. let g : 0 + m ≡ m = omega arith in rw (g, entries_zero whole) refl;
      within = omega arith;
      early = omega arith;
    }

-- the reading ends, depending on what the rest begins with
pub read_by : (whole rest : List ℕ) (last i ticks run : ℕ) (first : First) → IsReadTo whole last i ticks run rest → i < length whole + 1
    → first_of rest ≡ first
    → inputs_from (suc (length whole)) last 0 0 15 whole
    ≡ after (entries i whole) (inputs_by (inputs_from (suc (length whole) - i - 1) last) last ticks run (15 + (length whole - length rest)) first)
read_by whole rest last i ticks run first h below is =
    let some : 0 < suc (length whole) - i = omega arith in
    h.read ∙ ap (after (entries i whole))
    (reads_by (suc (length whole) - i) last ticks run (15 + (length whole - length rest)) rest some
    ∙ ap (inputs_by (inputs_from (suc (length whole) - i - 1) last) last ticks run (15 + (length whole - length rest))) is)

-- an entry after the last tick ends the reading
pub read_late : (whole rest others : List ℕ) (last i ticks run put : ℕ) (input : Input) → IsReadTo whole last i ticks run rest → i < length whole + 1
    → put ≡ ticks_put run input → last - ticks ≤ put → first_of rest ≡ Entry input others
    → inputs_from (suc (length whole)) last 0 0 15 whole ≡ Err (AfterLast (15 + (length whole - length rest)))
read_late whole rest others last i ticks run put input h below is_put late is =
    let test : nat_le last (ticks + ticks_put run input) ≡ true = grind (arith, nat_tests) in
    read_by whole rest last i ticks run (Entry input others) h below is ∙ rw test refl

-- one more entry is read
pub read_more : (whole rest others : List ℕ) (last i ticks run put : ℕ) (input : Input) → IsReadTo whole last i ticks run rest → i < length whole + 1
    → put ≡ ticks_put run input → (last - ticks ≤ put → ⊥) → first_of rest ≡ Entry input others
    → IsReadTo whole last (i + 1) (ticks + (put + ticks_in input)) (run_after run (is_datagram input)) others
read_more whole rest others last i ticks run put input h below is_put early is =
    let test : nat_le last (ticks + ticks_put run input) ≡ false = grind (arith, nat_tests) in
    let long : length rest ≡ length (entry_bytes input) + length others = length_entry rest others input is in
    let at : 15 + (length whole - length rest) + length (entry_bytes input) ≡ 15 + (length whole - length others) = omega (arith, h.within) in
    let most : suc (length whole) - i - 1 ≡ suc (length whole) - (i + 1) = omega arith in
    let count : ticks + ticks_of (with_tick run input) ≡ ticks + (put + ticks_in input) = omega (arith, ticks_with run input) in
    let one : entries (i + 1) whole ≡ entries i whole ++ input ∷ [] =
    h.front 1 ∙ ap (λ es. entries i whole ++ es) (entries_entry 1 rest others input (omega arith) is ∙ ap (λ es. input ∷ es) (entries_zero others))
    in
    let end : Result (List Input) RecordFault =
    inputs_from (suc (length whole) - (i + 1)) last (ticks + (put + ticks_in input)) (run_after run (is_datagram input)) (15 + (length whole - length others)) others
    in
    let here : inputs_by (inputs_from (suc (length whole) - i - 1) last) last ticks run (15 + (length whole - length rest)) (Entry input others) ≡ before input end =
    rw (test, at, most, count) refl
    in
    let longer : after (entries i whole ++ input ∷ []) end ≡ after (entries (i + 1) whole) end = rw one refl in
    record {
      read =
          read_by whole rest last i ticks run (Entry input others) h below is
          ∙ (ap (after (entries i whole)) here ∙ (after_before (entries i whole) input end ∙ longer));
      front = λ m.
          let shift : i + 1 + m ≡ i + (m + 1) = omega arith in
          let less : m + 1 - 1 ≡ m = omega arith in
          rw (shift, h.front (m + 1), entries_entry (m + 1) rest others input (omega arith) is, less, one) (sym (append_assoc (entries i whole) (input ∷ []) (entries m others)));
      within = omega (arith, h.within);
      early = omega (arith, few_with run input);
    }

-- as many entries as allowed are read, without an end
pub read_out : (whole rest : List ℕ) (last ticks run : ℕ) → IsReadTo whole last (length whole + 1) ticks run rest
    → inputs_from (suc (length whole)) last 0 0 15 whole ≡ Err NoEnd
unfolding inputs_from
read_out whole rest last ticks run h = let none : suc (length whole) - (length whole + 1) ≡ 0 = omega arith in rw none at h.read

-- the end, with nothing after it
pub read_end : (whole rest others : List ℕ) (last i ticks run : ℕ) → IsReadTo whole last i ticks run rest → i < length whole + 1 → first_of rest ≡ End others
    → (length others == 0) ≡ true → inputs_from (suc (length whole)) last 0 0 15 whole ≡ Ok (entries i whole)
read_end whole rest others last i ticks run h below is empty =
    read_by whole rest last i ticks run (End others) h below is ∙ rw empty (ap Ok (append-nil (entries i whole)))

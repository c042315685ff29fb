-- The recording of paced inputs is read back.
use Rattle.std.proofs.Common.{◌≡◌, ℕ, suc, ◌+◌, ◌-◌, ◌<◌, ◌≤◌, ◌^◌, ◌==◌, nat_le, false, true, List, [], ◌∷◌, ◌++◌, length, take, drop, refl, ap, ◌∙◌, inl, inr, arith, append_assoc, length-append, Ok}
use Rattle.std.specs.Prelude.{bytes_eq}
use Rattle.std.specs.List.{flat_map, AllByRecursion}
use Rattle.std.proofs.lemmas.Bool.{cases_Bool, le-leb}
use Rattle.std.proofs.lemmas.List.{take_at, drop_at}
use Rattle.std.proofs.lemmas.Slice.Eq.{bytes_eq-Decides}
use Rattle.bar_bytes.specs.Bytes.{u16_bytes, first_u16}
use Rattle.bar_bytes.proofs.Lengths.{length_u16}
use Rattle.bar_wire.specs.Limits.{largest_datagram}
use Rattle.bar_wire.specs.Inputs.{Input, Tick, Datagram}
use Rattle.bar_wire.proofs.Steps.{raw_back, skip_two}
use Rattle.bar_record.specs.Pacing.{is_datagram, run_after, ticks_of, with_tick, paced_from, paced}
use Rattle.bar_record.specs.Recording.{End, Entry, IsInRange, entry_bytes, head_bytes, recording_bytes, datagram_first, sized_first, first_of, ticks_put, before, inputs_by, inputs_from, recording_of, ReadsBack}
use Rattle.bar_record.proofs.HeadLemmas.{length_head}
use Rattle.bar_record.proofs.PacingLemmas.{none_late}
use Rattle.bar_record.proofs.ReadLemmas.{reads_by}

-- ---- an entry is read back

datagram_back : (bytes rest : List ℕ) → length bytes ≤ largest_datagram
    → datagram_first (length bytes) (bytes ++ rest) ≡ Entry (Datagram bytes) rest
datagram_back bytes rest fits =
    let few : nat_le (length bytes) largest_datagram ≡ true = le-leb (length bytes) largest_datagram fits in
    let long : length bytes ≤ length (bytes ++ rest) = omega (arith, length-append bytes rest) in
    let all : nat_le (length bytes) (length (bytes ++ rest)) ≡ true = le-leb (length bytes) (length (bytes ++ rest)) long in
    rw (few, all, take_at bytes rest (length bytes) refl, drop_at bytes rest (length bytes) refl) refl

sized_back : (bytes rest : List ℕ) → length bytes ≤ largest_datagram
    → sized_first (u16_bytes (length bytes) ++ (bytes ++ rest)) ≡ Entry (Datagram bytes) rest
sized_back bytes rest fits =
    let len = length bytes in
    let all = u16_bytes len ++ (bytes ++ rest) in
    let two : 2 ≤ length all = omega (arith, length-append (u16_bytes len) (bytes ++ rest), length_u16 len) in
    let room : nat_le 2 (length all) ≡ true = le-leb 2 (length all) two in
    let short : len < 2 ^ 16 = omega arith in
    let front : first_u16 all ≡ len = raw_back len (bytes ++ rest) short in
    let behind : drop 2 all ≡ bytes ++ rest = skip_two len 0 (bytes ++ rest) short in
    rw (room, front, behind) (datagram_back bytes rest fits)

first_back : (input : Input) (rest : List ℕ) → IsInRange input → first_of (entry_bytes input ++ rest) ≡ Entry input rest
unfolding first_of
first_back Tick rest fits = refl
first_back (Datagram bytes) rest fits = ap sized_first (append_assoc (u16_bytes (length bytes)) bytes rest) ∙ sized_back bytes rest fits

first_end : first_of (0 ∷ []) ≡ End []
unfolding first_of
first_end = refl

-- ---- one input after another

-- the entries of inputs, and the end
abbrev written : List Input → List ℕ
written inputs = flat_map entry_bytes inputs ++ 0 ∷ []

-- after so many ticks, and so many datagrams in a row, the inputs are read back wherever they are
abbrev AreReadBack : ℕ → ℕ → ℕ → List Input → Type 0
AreReadBack last ticks run inputs = (most at : ℕ) → length inputs < most → inputs_from most last ticks run at (written inputs) ≡ Ok inputs

none_back : (last ticks run : ℕ) → AreReadBack last ticks run []
none_back last ticks run most at some =
    reads_by most last ticks run at (0 ∷ []) some ∙ ap (inputs_by (inputs_from (most - 1) last) last ticks run at) first_end

-- an input that isn't after the last tick, before inputs that are read back
more_back : (last ticks run : ℕ) (input : Input) (inputs : List Input) → IsInRange input → nat_le last (ticks + ticks_put run input) ≡ false
    → AreReadBack last (ticks + ticks_of (with_tick run input)) (run_after run (is_datagram input)) inputs
    → AreReadBack last ticks run (input ∷ inputs)
more_back last ticks run input inputs fits early rest most at some =
    let bytes = entry_bytes input ++ written inputs in
    let same : written (input ∷ inputs) ≡ bytes = append_assoc (entry_bytes input) (flat_map entry_bytes inputs) (0 ∷ []) in
    let behind = at + length (entry_bytes input) in
    ap (inputs_from most last ticks run at) same
    ∙ (reads_by most last ticks run at bytes (omega arith)
    ∙ (ap (inputs_by (inputs_from (most - 1) last) last ticks run at) (first_back input (written inputs) fits)
    ∙ rw early (ap (before input) (rest (most - 1) behind (omega arith)))))

tick_back : (last ticks run : ℕ) (inputs : List Input) → nat_le last ticks ≡ false → AreReadBack last (ticks + 1) 0 inputs
    → AreReadBack last ticks run (Tick ∷ inputs)
tick_back last ticks run inputs early rest =
    let same : ticks + 0 ≡ ticks = omega arith in
    more_back last ticks run Tick inputs tt (rw same early) rest

plain_back : (last ticks run : ℕ) (bytes : List ℕ) (inputs : List Input) → length bytes ≤ largest_datagram → nat_le last ticks ≡ false
    → (run == 65536) ≡ false → AreReadBack last ticks (run + 1) inputs → AreReadBack last ticks run (Datagram bytes ∷ inputs)
plain_back last ticks run bytes inputs fits early is_not rest =
    let same : ticks + 0 ≡ ticks = omega arith in
    more_back last ticks run (Datagram bytes) inputs fits (rw (is_not, same) early) (rw (is_not, same) rest)

-- ---- paced inputs

paced_back : (last ticks run : ℕ) (inputs : List Input) → AllByRecursion IsInRange inputs
    → AreReadBack last ticks run (paced_from last ticks run inputs)
paced_back last ticks run [] fit = none_back last ticks run
paced_back last ticks run (Tick ∷ inputs) fit = elim (cases_Bool (nat_le last ticks)) [
  | inl late ↦ rw (none_late last ticks run (Tick ∷ inputs) late) (none_back last ticks run)
  | inr early ↦
      rw early (tick_back last ticks run (paced_from last (ticks + 1) 0 inputs) early (paced_back last (ticks + 1) 0 inputs fit.1))
]
paced_back last ticks run (Datagram bytes ∷ inputs) fit = elim (cases_Bool (nat_le last ticks)) [
  | inl late ↦ rw (none_late last ticks run (Datagram bytes ∷ inputs) late) (none_back last ticks run)
  | inr early ↦ elim (cases_Bool (run == 65536)) [
    | inl is ↦ elim (cases_Bool (nat_le last (ticks + 1))) [
      | inl end ↦
          rw (early, is, end, none_late last (ticks + 1) 1 inputs end) (tick_back last ticks run [] early (none_back last (ticks + 1) 0))
      | inr on ↦
          let others = paced_from last (ticks + 1) 1 inputs in
          let behind = plain_back last (ticks + 1) 0 bytes others fit.0 on refl (paced_back last (ticks + 1) 1 inputs fit.1) in
          rw (early, is, on) (tick_back last ticks run (Datagram bytes ∷ others) early behind)
    ]
    | inr is_not ↦
        let same : ticks + 0 ≡ ticks = omega arith in
        let others = paced_from last ticks (run + 1) inputs in
        rw (early, is_not, same) (plain_back last ticks run bytes others fit.0 early is_not (paced_back last ticks (run + 1) inputs fit.1))
  ]
]

-- ---- a recording

-- each entry has at least one byte
entries_many : (inputs : List Input) → length inputs ≤ length (flat_map entry_bytes inputs)
entries_many [] = omega arith
entries_many (Tick ∷ inputs) = omega (arith, entries_many inputs)
entries_many (Datagram bytes ∷ inputs) =
    omega (arith, entries_many inputs, length-append (entry_bytes (Datagram bytes)) (flat_map entry_bytes inputs))

-- after the head, the inputs are read
read_behind : (id bytes rest : List ℕ) (party last : ℕ) → take 15 bytes ≡ head_bytes id party → drop 15 bytes ≡ rest
    → recording_of id party last bytes ≡ inputs_from (suc (length rest)) last 0 0 15 rest
read_behind id bytes rest party last front behind =
    let same : bytes_eq (take 15 bytes) (head_bytes id party) ≡ true = (bytes_eq-Decides (take 15 bytes) (head_bytes id party)).1 front in
    rw (same, behind) refl

pub recording_back : ReadsBack
recording_back id party last inputs long fit =
    let taken = paced last inputs in
    let head = head_bytes id party in
    let bytes = recording_bytes id party taken in
    let front : take 15 bytes ≡ head = take_at head (written taken) 15 (length_head id party long) in
    let behind : drop 15 bytes ≡ written taken = drop_at head (written taken) 15 (length_head id party long) in
    let many : length taken < suc (length (written taken)) =
    omega (arith, entries_many taken, length-append (flat_map entry_bytes taken) (0 ∷ []))
    in
    read_behind id bytes (written taken) party last front behind ∙ paced_back last 0 0 inputs fit (suc (length (written taken))) 15 many

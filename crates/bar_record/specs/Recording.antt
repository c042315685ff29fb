-- Recordings: a head, an entry for each input, and an end.
use Rattle.std.specs.Prelude.{◌≡◌, ℕ, zero, suc, ◌+◌, ◌≤◌, nat_le, ◌==◌, List, [], ◌∷◌, ◌++◌, codes, length, take, drop, bytes_eq, Result, Ok, Err, if◌then◌else◌}
use Rattle.std.specs.List.{flat_map, AllByRecursion}
use Rattle.bar_bytes.specs.Bytes.{u16_bytes, first_u16}
use Rattle.bar_wire.specs.Limits.{largest_datagram}
use Rattle.bar_wire.specs.Inputs.{Input}
use Rattle.bar_wire.specs.Inputs as event
use Rattle.bar_record.specs.Pacing.{is_datagram, is_due, run_after, ticks_of, with_tick, with_ticks, paced}
use Rattle.bar_record.specs.declared.fault.RecordFault.{RecordFault}
use Rattle.bar_record.specs.declared.fault.RecordFault.TheVariants.{BadHead, BadEntry, NoEnd, AfterEnd, AfterLast}

-- ---- writing

-- the head: the letters BARL, the version, the session's id and the party
abbrev pub head_bytes : List ℕ → ℕ → List ℕ
head_bytes id party = codes "BARL" ++ (1 ∷ (id ++ u16_bytes party))

-- the entry of an input
abbrev pub entry_bytes : Input → List ℕ
entry_bytes event.Tick = 1 ∷ []
entry_bytes (event.Datagram bytes) = 2 ∷ (u16_bytes (length bytes) ++ bytes)

-- the most bytes of an entry: its mark, the length of a datagram, and the datagram
abbrev pub largest_entry : ℕ
largest_entry = 3 + largest_datagram

-- a datagram has no more bytes than one can have
abbrev pub IsInRange : Input → Type 0
IsInRange event.Tick = Unit {0}
IsInRange (event.Datagram bytes) = length bytes ≤ largest_datagram

-- the recording of a list of inputs
abbrev pub recording_bytes : List ℕ → ℕ → List Input → List ℕ
recording_bytes id party inputs = head_bytes id party ++ (flat_map entry_bytes inputs ++ 0 ∷ [])

-- ---- reading

-- what bytes begin with, and what follows it
pub data First : Type 0 where
  NoByte : First
  End : (rest : List ℕ) → First
  Entry : (input : Input) → (rest : List ℕ) → First
  NoEntry : First

-- so many bytes, and what follows them, if they are all there and not too many
abbrev pub datagram_first : ℕ → List ℕ → First
datagram_first len rest =
    if nat_le len largest_datagram
    then (if nat_le len (length rest) then Entry (event.Datagram (take len rest)) (drop len rest) else NoEntry)
    else NoEntry

-- what follows the mark of a datagram: its length in two bytes, and its bytes
abbrev pub sized_first : List ℕ → First
sized_first rest = if nat_le 2 (length rest) then datagram_first (first_u16 rest) (drop 2 rest) else NoEntry

abbrev pub marked_first : ℕ → List ℕ → First
marked_first mark rest =
    if mark == 0 then End rest else if mark == 1 then Entry event.Tick rest else if mark == 2 then sized_first rest else NoEntry

unfoldable pub first_of : List ℕ → First
first_of [] = NoByte
first_of (mark ∷ rest) = marked_first mark rest

-- how many ticks are inserted before an input, after so many datagrams in a row
abbrev pub ticks_put : ℕ → Input → ℕ
ticks_put run input = if is_due run (is_datagram input) then 1 else 0

-- an input before others
abbrev pub before : Input → Result (List Input) RecordFault → Result (List Input) RecordFault
before input (Ok inputs) = Ok (input ∷ inputs)
before input (Err fault) = Err fault

-- The inputs, given the first entry of bytes at this place, after so many ticks and so many datagrams in a row. Ticks are counted as paced:
-- only the end may follow the last of them, whether it is in the bytes or inserted before an entry.
abbrev pub inputs_by : (ℕ → ℕ → ℕ → List ℕ → Result (List Input) RecordFault) → ℕ → ℕ → ℕ → ℕ → First → Result (List Input) RecordFault
inputs_by rest_of last ticks run at NoByte = Err NoEnd
inputs_by rest_of last ticks run at (End rest) = if length rest == 0 then Ok [] else Err AfterEnd
inputs_by rest_of last ticks run at NoEntry = Err (BadEntry at)
inputs_by rest_of last ticks run at (Entry input rest) =
    if nat_le last (ticks + ticks_put run input) then Err (AfterLast at)
    else before input
    (rest_of (ticks + ticks_of (with_tick run input)) (run_after run (is_datagram input)) (at + length (entry_bytes input)) rest)

-- the inputs of the entries in the bytes, which are followed by the end; at most so many are read
unfoldable pub inputs_from : ℕ → ℕ → ℕ → ℕ → ℕ → List ℕ → Result (List Input) RecordFault
inputs_from zero last ticks run at bytes = Err NoEnd
inputs_from (suc most) last ticks run at bytes = inputs_by (inputs_from most last) last ticks run at (first_of bytes)

-- The inputs of a recording, or its first fault from the left. Each entry has at least one byte, so no more entries are read than there are
-- bytes.
abbrev pub recording_of : List ℕ → ℕ → ℕ → List ℕ → Result (List Input) RecordFault
recording_of id party last bytes =
    if bytes_eq (take 15 bytes) (head_bytes id party)
    then inputs_from (suc (length (drop 15 bytes))) last 0 0 15 (drop 15 bytes) else Err BadHead

-- Pacing drops nothing of a recording: it only inserts the ticks that are due.
abbrev pub IsTakenWhole : Type 0
IsTakenWhole =
    (id bytes : List ℕ) (party last : ℕ) (inputs : List Input) → recording_of id party last bytes ≡ Ok inputs →
    paced last inputs ≡ with_ticks 0 inputs

-- The recording of paced inputs is read back as these inputs.
abbrev pub ReadsBack : Type 0
ReadsBack =
    (id : List ℕ) (party last : ℕ) (inputs : List Input) → length id ≡ 8 → AllByRecursion IsInRange inputs →
    recording_of id party last (recording_bytes id party (paced last inputs)) ≡ Ok (paced last inputs)

-- Pacing doesn't change datagrams, so if none is too long before, none is afterwards.
abbrev pub StaysInRange : Type 0
StaysInRange = (last : ℕ) (inputs : List Input) → AllByRecursion IsInRange inputs → AllByRecursion IsInRange (paced last inputs)

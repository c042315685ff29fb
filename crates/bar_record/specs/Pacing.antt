-- Pacing: how many datagrams may follow one another, when a tick is inserted before one, and what is taken up to the last tick.
use Rattle.std.specs.Prelude.{◌≡◌, ℕ, ◌+◌, ◌*◌, ◌≤◌, ◌==◌, ◌&&◌, not, nat_le, Bool, true, false, List, [], ◌∷◌, ◌++◌, length, if◌then◌else◌}
use Rattle.bar_wire.specs.Inputs.{Input, Tick, Datagram}

abbrev pub is_datagram : Input → Bool
is_datagram Tick = false
is_datagram (Datagram bytes) = true

-- ---- datagrams in a row

-- the most datagrams between two ticks
abbrev pub most_in_a_row : ℕ
most_in_a_row = 65536

-- after so many in a row, a tick is inserted before one more datagram
abbrev pub is_due : ℕ → Bool → Bool
is_due run is_datagram = is_datagram && (run == most_in_a_row)

-- how many are in a row after one more input, and after the tick that is inserted before it
abbrev pub run_after : ℕ → Bool → ℕ
run_after run is_datagram = if is_datagram then (if run == most_in_a_row then 1 else run + 1) else 0

-- ---- the number of ticks

abbrev pub ticks_in : Input → ℕ
ticks_in Tick = 1
ticks_in (Datagram bytes) = 0

-- the number of ticks in a list
abbrev pub ticks_of : List Input → ℕ
ticks_of [] = 0
ticks_of (input ∷ inputs) = ticks_in input + ticks_of inputs

-- ---- a tick is inserted before each input for which one is due

-- an input, after a tick if one is due after so many datagrams in a row
abbrev pub with_tick : ℕ → Input → List Input
with_tick run input = if is_due run (is_datagram input) then Tick ∷ input ∷ [] else input ∷ []

-- all inputs, with the ticks that are inserted among them
abbrev pub with_ticks : ℕ → List Input → List Input
with_ticks run [] = []
with_ticks run (input ∷ inputs) = with_tick run input ++ with_ticks (run_after run (is_datagram input)) inputs

-- ---- nothing follows the last tick

-- what is taken for an input, after so many ticks and so many datagrams in a row
abbrev pub due : ℕ → ℕ → ℕ → Input → List Input
due last ticks run Tick = if nat_le last ticks then [] else Tick ∷ []
due last ticks run (Datagram bytes) =
    if nat_le last ticks then []
    else if not (run == most_in_a_row) then Datagram bytes ∷ []
    else if nat_le last (ticks + 1) then Tick ∷ []
    else Tick ∷ Datagram bytes ∷ []

abbrev pub paced_from : ℕ → ℕ → ℕ → List Input → List Input
paced_from last ticks run [] = []
paced_from last ticks run (input ∷ inputs) =
    due last ticks run input ++ paced_from last (ticks + ticks_of (due last ticks run input)) (run_after run (is_datagram input)) inputs

-- what is taken of these inputs, up to the tick of this number
abbrev pub paced : ℕ → List Input → List Input
paced last inputs = paced_from last 0 0 inputs

-- ---- laws

-- the number of ticks that are taken is at most that of the last tick
abbrev pub EndsAtTheLast : Type 0
EndsAtTheLast = (last ticks run : ℕ) (inputs : List Input) → ticks ≤ last → ticks_of (paced_from last ticks run inputs) + ticks ≤ last

-- pacing is idempotent
abbrev pub StaysPaced : Type 0
StaysPaced = (last : ℕ) (inputs : List Input) → paced last (paced last inputs) ≡ paced last inputs

-- for each tick up to the last there are at most the datagrams between two ticks and the tick
abbrev pub IsFew : Type 0
IsFew = (last : ℕ) (inputs : List Input) → length (paced last inputs) ≤ (most_in_a_row + 1) * last

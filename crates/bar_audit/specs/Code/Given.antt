-- What a party's recording adds: one datagram of it, or all.
use Rattle.std.specs.Prelude.{◌≡◌, ℕ, ◌==◌, ◌&&◌, ◌||◌, Bool, false, List, filter, length, Option, option_map, option_and_then, if◌then◌else◌}
use Rattle.std.specs.Option.{option_map_or, option_or}
use Rattle.bar_wire.specs.Datagram.{Datagram, kind_number}
use Rattle.bar_wire.specs.declared.kind.Kind.TheVariants as kinds
use Rattle.bar_wire.specs.Inputs.{Input}
use Rattle.bar_wire.specs.Kinds.{code_of}
use Rattle.bar_rules.specs.Member.{Session}
use Rattle.bar_audit.specs.declared.kept.KeptCase.{KeptCase}
use Rattle.bar_audit.specs.declared.side.Side.{Side}
use Rattle.bar_audit.specs.Code.Findings.{case_at, has_side}
use Rattle.bar_audit.specs.Code.Found.{Promised, promised_by, is_key, case_in, has_key_in}
use Rattle.bar_audit.specs.Recordings.{datagrams_in}
use Rattle.bar_audit.specs.Code.Shown.{case_shown}
use Rattle.bar_audit.specs.Code.Sides.{receiver}

-- ---- only of sides that send to this party

-- what is kept of the CASE of a side, after something is found of it
abbrev pub case_with : ℕ → Side → Option Promised → Option Promised → Option Promised
case_with party side kept found = if receiver side == party then option_or kept found else kept

abbrev pub key_with : ℕ → Side → Bool → Bool → Bool
key_with party side kept found = if receiver side == party then kept || found else kept

-- one datagram adds this, if the bytes encode one
abbrev pub GivesCase : Session → ℕ → Option Datagram → List (Side × KeptCase) → List (Side × KeptCase) → Type 0
GivesCase s party o old new =
    (side : Side) → case_at new side ≡ case_with party side (case_at old side) (option_and_then (case_shown s side) o)

abbrev pub GivesKey : Session → ℕ → Option Datagram → List Side → List Side → Type 0
GivesKey s party o old new =
    (side : Side) → has_side new side ≡ key_with party side (has_side old side) (option_map_or (is_key s side.x side.role) o false)

-- all inputs add this
abbrev pub GivesCases : Session → ℕ → List Input → List (Side × KeptCase) → List (Side × KeptCase) → Type 0
GivesCases s party inputs old new =
    (side : Side) → case_at new side
    ≡ case_with party side (case_at old side) (option_map (promised_by s) (case_in s side.x side.role inputs))

abbrev pub GivesKeys : Session → ℕ → List Input → List Side → List Side → Type 0
GivesKeys s party inputs old new =
    (side : Side) → has_side new side ≡ key_with party side (has_side old side) (has_key_in s side.x side.role inputs)

-- ---- what is checked

-- a CASE or a KEY to the party
abbrev pub is_told : ℕ → Datagram → Bool
is_told party d =
    (d.message.to == party) && (kind_number d.message.body == code_of kinds.Case || kind_number d.message.body == code_of kinds.Key)

-- how many of them are among inputs
abbrev pub told : Session → ℕ → List Input → ℕ
told s party inputs = length (filter (is_told party) (datagrams_in s inputs))

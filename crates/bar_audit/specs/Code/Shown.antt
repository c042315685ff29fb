-- What a datagram of a recording adds to what an auditor keeps.
use Rattle.std.specs.Prelude.{◌≡◌, ◌||◌, List, Option, None, option_map, if◌then◌else◌}
use Rattle.std.specs.Option.{option_or}
use Rattle.bar_wire.specs.Bodies.{briefcase_in}
use Rattle.bar_wire.specs.Datagram.{Datagram, Place}
use Rattle.bar_rules.specs.Member.{Session}
use Rattle.bar_audit.specs.declared.kept.KeptCase.{KeptCase}
use Rattle.bar_audit.specs.declared.side.Side.{Side}
use Rattle.bar_audit.specs.Code.Findings.{case_at, has_side}
use Rattle.bar_audit.specs.Code.Found.{Promised, promised_by, is_case, is_key}

abbrev pub place_at : Side → Place
place_at side = record { exchange = side.x; role = side.role }

-- what a datagram promises if it counts as the CASE of a side
abbrev pub case_shown : Session → Side → Datagram → Option Promised
case_shown s side d = if is_case s side.x side.role d then option_map (promised_by s) (briefcase_in d.message.body) else None

-- a CASE is added to its own side, if none is kept yet
abbrev pub AddsCase : Session → Datagram → List (Side × KeptCase) → List (Side × KeptCase) → Type 0
AddsCase s d old new = (side : Side) → case_at new side ≡ option_or (case_at old side) (case_shown s side d)

-- a KEY adds its own side
abbrev pub AddsKey : Session → Datagram → List Side → List Side → Type 0
AddsKey s d old new = (side : Side) → has_side new side ≡ (has_side old side || is_key s side.x side.role d)

-- The turn of an input: what a run does for it.
use Rattle.std.specs.Prelude.{ℕ, ◌+◌, List, [], ◌∷◌, ◌++◌, length, Option, Some, None}
use Rattle.std.specs.List.{flat_map}
use Rattle.std.specs.Fmt.{decimal}
use Rattle.hex.specs.Hex.{encode_lower}
use Rattle.bar_wire.specs.Inputs.{Input}
use Rattle.bar_record.specs.Recording.{entry_bytes}
use Rattle.bar_outside.specs.Plan.{Action}
use Rattle.bar_outside.specs.Plan.Action.{append, show, link}
use Rattle.bar_outside.specs.Plan.LinkCall.{send}
use Rattle.bar_core.specs.Rules.{Rules, Send}

-- the actions of a run: for an input, for a content that is played, and for a datagram of the input with this number
pub record Layout : Type 0 where
  pub enter : Input → List Action
  pub play : List ℕ → List Action
  pub give : ℕ → Send → List Action

-- the turn of an input: its entry, then what it plays, and then what it sends; inputs are numbered from 1
abbrev pub turn : Layout → Rules → List Input → Input → List Action
turn lay r before input =
    lay.enter input ++ (flat_map lay.play (r.contents before input) ++ flat_map (lay.give (length before + 1)) (r.sends before input))

abbrev pub turns : Layout → Rules → List Input → List Input → List Action
turns lay r before [] = []
turns lay r before (input ∷ inputs) = turn lay r before input ++ turns lay r (before ++ input ∷ []) inputs

-- ---- the layouts of the three runs

-- bytes are appended to a file, if one is kept
abbrev pub kept : Option (List ℕ) → List ℕ → List Action
kept None bytes = []
kept (Some path) bytes = append path bytes ∷ []

abbrev pub sent : ℕ → Send → List Action
sent number next = link (send next.0 next.1) ∷ []

-- the recording and the played contents are kept in files, if given, and datagrams are given out in this way
abbrev pub layout_by : Option (List ℕ) → Option (List ℕ) → (ℕ → Send → List Action) → Layout
layout_by recording played give = record { enter = λ input. kept recording (entry_bytes input); play = kept played; give = give }

-- a node sends; a peer keeps a recording and plays into a file, and a broadcaster does neither
abbrev pub node_layout : Option (List ℕ) → Option (List ℕ) → Layout
node_layout recording played = layout_by recording played sent

-- The line of a datagram in a transcript: the number of its input and its receiver, each followed by a blank, its bytes in hex, and a
-- newline.
abbrev pub line_of_bytes : ℕ → ℕ → List ℕ → List ℕ
line_of_bytes number to bytes = decimal number ++ (32 ∷ (decimal to ++ (32 ∷ (encode_lower bytes ++ 10 ∷ []))))

abbrev pub shown_line : ℕ → Send → List Action
shown_line number next = show (line_of_bytes number next.0 next.1) ∷ []

-- a replay plays into a file and prints a transcript
abbrev pub replay_layout : List ℕ → Layout
replay_layout played = layout_by None (Some played) shown_line

-- What each input of a replay plays and shows.
use Rattle.std.specs.Prelude.{ℕ, ◌+◌, List, [], ◌∷◌, ◌++◌, map}
use Rattle.std.specs.List.{flat_map, concat}
use Rattle.bar_outside.specs.Plan.{Action}
use Rattle.bar_outside.specs.Plan.Action.{append, show}
use Rattle.bar_wire.specs.Inputs.{Input}
use Rattle.bar_rules.specs.Member.{Session, Member}
use Rattle.bar_rules.specs.Peer.Log.{Log}
use Rattle.bar_rules.specs.Peer.Run.{Out, step}
use Rattle.bar_cli.specs.Replay.Transcript.{lines_of_sends}

-- the contents that an input plays, and the lines of the datagrams that it sends
pub record Turn : Type 0 where
  pub contents : List (List ℕ)
  pub lines : List (List ℕ)

-- the turn of the input with this number
abbrev pub turn_of : Session → ℕ → Out → Turn
turn_of s number out = record { contents = out.contents; lines = lines_of_sends s number out.sends }

-- the turns of all inputs, by the rules of a peer
abbrev pub turns_from : Member → ℕ → Log → List Input → List Turn
turns_from me number log [] = []
turns_from me number log (input ∷ inputs) =
    turn_of me.session number (step me log input) ∷ turns_from me (number + 1) (step me log input).state inputs

-- the contents are appended in order, and then the lines are shown in order
abbrev pub turn_actions : List ℕ → Turn → List Action
turn_actions played turn = map (append played) turn.contents ++ map show turn.lines

abbrev pub turns_actions : List ℕ → List Turn → List Action
turns_actions played turns = flat_map (turn_actions played) turns

-- the bytes that are played and those that are shown
abbrev pub played_bytes : List Turn → List ℕ
played_bytes turns = flat_map (λ turn. concat turn.contents) turns

abbrev pub shown_bytes : List Turn → List ℕ
shown_bytes turns = flat_map (λ turn. concat turn.lines) turns

-- Whole runs: over what a link gives, and over a recording.
use Rattle.std.specs.Prelude.{◌≡◌, ◌≤◌, ℕ, ◌+◌, ◌*◌, ◌||◌, Bool, true, false, List, [], ◌∷◌, ◌++◌, length, nat_le, Option, None, Some, Result, if◌then◌else◌, IsTrue, IfOk, OnOk}
use Rattle.std.specs.List.{AllByRecursion, concat}
use Rattle.bar_wire.specs.Inputs.{Input}
use Rattle.bar_wire.specs.Inputs as plain
use Rattle.bar_record.specs.Pacing.{due, is_datagram, most_in_a_row, paced, run_after, ticks_of}
use Rattle.bar_record.specs.Recording.{IsInRange}
use Rattle.bar_outside.specs.Disk.{Disk}
use Rattle.bar_outside.specs.Wire.{Arrival, Datagram, End, Tick, Wire}
use Rattle.bar_outside.specs.Plan.{Action, Begun, Outside, Ran, with_files, with_wire}
use Rattle.bar_outside.specs.Plan.Action.{link}
use Rattle.bar_outside.specs.Plan.LinkCall.{receive}
use Rattle.bar_outside.specs.Code.Follows.{Follows}
use Rattle.bar_outside.specs.declared.fault.Fault.{Fault}
use Rattle.bar_findings.specs.Findings.{Finding, findings_actions, findings_of}
use Rattle.bar_core.specs.Rules.{Rules}
use Rattle.bar_core.specs.Runs.{contents_over, sends_over}
use Rattle.bar_node.specs.Code.Counting.{capped}
use Rattle.bar_node.specs.Code.Effects.{received_in}
use Rattle.bar_node.specs.Code.Taking.{Took}
use Rattle.bar_node.specs.Code.Turns.{Layout, kept, node_layout, replay_layout, turns}
use Rattle.bar_node.specs.declared.counts.Counts.{Counts}
use Rattle.bar_node.specs.declared.summary.Summary.{Summary}

-- ---- what a link gives

-- the input that an arrival represents; the end represents none
abbrev pub input_of : Arrival → Option Input
input_of Tick = Some plain.Tick
input_of (Datagram bytes) = Some (plain.Datagram bytes)
input_of End = None

abbrev pub inputs_of : List Arrival → List Input
inputs_of [] = []
inputs_of (Tick ∷ arrivals) = plain.Tick ∷ inputs_of arrivals
inputs_of (Datagram bytes ∷ arrivals) = plain.Datagram bytes ∷ inputs_of arrivals
inputs_of (End ∷ arrivals) = inputs_of arrivals

-- the arrivals that a link reports as taken: all but the end
abbrev pub heard : List Arrival → List Arrival
heard [] = []
heard (Tick ∷ arrivals) = Tick ∷ heard arrivals
heard (Datagram bytes ∷ arrivals) = Datagram bytes ∷ heard arrivals
heard (End ∷ arrivals) = heard arrivals

abbrev pub has_end : List Arrival → Bool
has_end [] = false
has_end (Tick ∷ arrivals) = has_end arrivals
has_end (Datagram bytes ∷ arrivals) = has_end arrivals
has_end (End ∷ arrivals) = true

-- the inputs of a run by these rules: what the link gave, paced
abbrev pub taken_of : Rules → List Arrival → List Input
taken_of r given = paced r.last (inputs_of given)

-- the run is at its end: the link gave its end, or the last tick was taken
abbrev pub is_ended : Rules → List Arrival → Bool
is_ended r given = has_end given || nat_le r.last (ticks_of (taken_of r given))

-- ---- arrival by arrival

-- what is taken at an arrival, and how many datagrams were then taken in a row
abbrev pub due_if : ℕ → ℕ → ℕ → Option Input → List Input
due_if last ticks run None = []
due_if last ticks run (Some input) = due last ticks run input

abbrev pub run_if : ℕ → Option Input → ℕ
run_if run None = run
run_if run (Some input) = run_after run (is_datagram input)

-- the actions over some arrivals: each is received, and then the turns of the inputs that are due are done
abbrev pub node_from : Layout → Rules → List Input → ℕ → List Arrival → List Action
node_from lay r before run [] = []
node_from lay r before run (a ∷ arrivals) =
    link (receive (Some a))
    ∷ (turns lay r before (due_if r.last (ticks_of before) run (input_of a))
    ++ node_from lay r (before ++ due_if r.last (ticks_of before) run (input_of a)) (run_if run (input_of a)) arrivals)

-- ---- the plans

-- the turns over what a link gave; if the run isn't at its end, the link is asked once more
abbrev pub inputs_plan : Layout → Rules → List Arrival → List Action
inputs_plan lay r given = node_from lay r [] 0 given ++ (if is_ended r given then [] else link (receive None) ∷ [])

-- what a core found after these inputs, in files whose names begin with this prefix
abbrev pub found_after : List ℕ → Rules → List Input → List Finding
found_after found r taken = findings_of found (r.manifest taken) r.rounds (r.evidence taken) r.peers

-- the end of a recording, if one is kept, and then what was found
abbrev pub closing : Option (List ℕ) → List ℕ → Rules → List Input → List Action
closing recording found r taken = kept recording (0 ∷ []) ++ findings_actions (found_after found r taken)

-- what follows some arrivals: the closing if the run is at its end, and otherwise another call of the link
abbrev pub behind : Option (List ℕ) → List ℕ → Rules → List Arrival → List Action
behind recording found r given = if is_ended r given then closing recording found r (taken_of r given) else link (receive None) ∷ []

-- a node's run over what a link gave
abbrev pub node_plan : Option (List ℕ) → Option (List ℕ) → List ℕ → Rules → List Arrival → List Action
node_plan recording played found r given = node_from (node_layout recording played) r [] 0 given ++ behind recording found r given

-- a replay of some inputs
abbrev pub replay_plan : List ℕ → List ℕ → Rules → List Input → List Action
replay_plan played found r inputs =
    turns (replay_layout played) r [] (paced r.last inputs) ++ findings_actions (found_after found r (paced r.last inputs))

-- the numbers of ticks among some inputs, of datagrams that they send and of bytes that they play
abbrev pub summary_of : Rules → List Input → Summary
summary_of r inputs =
    record {
      ticks = ticks_of inputs;
      sent = capped (length (sends_over r [] inputs));
      played = capped (length (concat (contents_over r [] inputs)));
    }

-- ---- properties of a node's run

-- The link isn't asked again once the run is at its end: before each arrival the run wasn't at its end.
abbrev pub AsksToTheEnd : Rules → List Arrival → Type 0
AsksToTheEnd r given =
    (front : List Arrival) (next : Arrival) (rest : List Arrival) → given ≡ front ++ next ∷ rest → is_ended r front ≡ false

-- What a link gave: no datagram exceeds the largest size, the link was asked up to the run's end and no further, and the number of inputs
-- is bounded.
pub record IsGiven (r : Rules) (given : List Arrival) : Type 0 where
  pub within : AllByRecursion IsInRange (inputs_of given)
  pub asked : AsksToTheEnd r given
  pub few : length (taken_of r given) ≤ (most_in_a_row + 1) * r.last

-- A plan was done in part: a prefix of it, and possibly a part of the next action. What was done received exactly what the link gave.
pub record HasDone (plan : List Action) (given : List Arrival) (files files_new : Disk) (wire wire_new : Wire) : Type 0 where
  pub done : List Action
  pub begun : Begun plan done
  pub received : received_in done ≡ given
  pub ran : (w : Outside) → Ran done (with_wire (with_files w files) wire) (with_wire (with_files w files_new) wire_new)

-- Everything that a link gave was taken in order, up to the run's end or a fault.
pub record RanInputs (lay : Layout) (now : List Input → Type 0) (r : Rules) (files files_new : Disk) (wire wire_new : Wire)
    (result : Result Counts Fault) : Type 0 where
  pub given : List Arrival
  pub is_given : IsGiven r given
  pub follows : (w : Outside) → Follows (inputs_plan lay r given)
      (with_wire (with_files w files) wire) (with_wire (with_files w files_new) wire_new) result
  -- whatever the result, what was done received exactly these arrivals
  pub did : HasDone (inputs_plan lay r given) given files files_new wire wire_new
  pub taken : wire_new.traffic.taken ≡ wire.traffic.taken ++ heard given
  -- the link reports whether it gave its end
  pub told_end : wire_new.traffic.ended ≡ (wire.traffic.ended || has_end given)
  pub took : IfOk result (Took [] now r (taken_of r given))
  pub ended : OnOk result (IsTrue (is_ended r given))

-- A node's run: the link gave some list of arrivals, which it reports as taken, and the plan over this list was followed.
pub record RanNode (recording played : Option (List ℕ)) (found : List ℕ) (r : Rules) (now : List Input → Type 0) (files files_new : Disk)
    (wire wire_new : Wire) (result : Result Summary Fault) : Type 0 where
  pub given : List Arrival
  pub is_given : IsGiven r given
  pub follows : (w : Outside) → Follows (node_plan recording played found r given)
      (with_wire (with_files w files) wire) (with_wire (with_files w files_new) wire_new) result
  -- whatever the result, what was done received exactly these arrivals
  pub did : HasDone (node_plan recording played found r given) given files files_new wire wire_new
  pub taken : wire_new.traffic.taken ≡ wire.traffic.taken ++ heard given
  -- the link reports whether it gave its end
  pub told_end : wire_new.traffic.ended ≡ (wire.traffic.ended || has_end given)
  pub stands : OnOk result (now (taken_of r given))
  pub ended : OnOk result (IsTrue (is_ended r given))
  pub summary : IfOk result (λ summary. summary ≡ summary_of r (taken_of r given))

-- The summary that a run prints at its end.
use Rattle.std.specs.Prelude.{ℕ, ◌==◌, ◌||◌, Bool, List, [], ◌∷◌, ◌++◌, Option, None, Some, codes, if◌then◌else◌}
use Rattle.std.specs.Fmt.{decimal}
use Rattle.std.specs.List.{flat_map, range_with_len}
use Rattle.bar_outside.specs.Plan.{Action}
use Rattle.bar_outside.specs.Plan.Action.{show}
use Rattle.bar_outside.specs.Wire.{Arrival}
use Rattle.bar_wire.specs.Inputs.{Input}
use Rattle.bar_core.specs.Rules.{Rules}
use Rattle.bar_node.specs.Runs.{is_ended, summary_of, taken_of}
use Rattle.bar_node.specs.declared.summary.Summary.{Summary}

-- the line of a peer's counts
abbrev pub peer_line : Summary → List ℕ
peer_line s =
    codes "ticks " ++ (decimal s.ticks ++ (codes " sent " ++ (decimal s.sent ++ (codes " played " ++ (decimal s.played ++ codes "\n")))))

-- the line of a broadcaster's counts
abbrev pub caster_line : Summary → List ℕ
caster_line s = codes "ticks " ++ (decimal s.ticks ++ (codes " sent " ++ (decimal s.sent ++ codes "\n")))

-- a label and a party's number
abbrev pub party_line : List ℕ → ℕ → List ℕ
party_line word party = word ++ (decimal party ++ codes "\n")

-- a line for a party, if evidence against it is kept
abbrev pub shown_if : List ℕ → ℕ → Option (List ℕ) → List Action
shown_if word party None = []
shown_if word party (Some evidence) = show (party_line word party) ∷ []

-- a line for each peer with evidence against it, in increasing order
abbrev pub shown_parties : List ℕ → (ℕ → Option (List ℕ)) → ℕ → List Action
shown_parties word evidence peers = flat_map (λ party. shown_if word party (evidence party)) (range_with_len 1 peers)

abbrev pub evidence_word : List ℕ
evidence_word = codes "evidence "

abbrev pub evicted_word : List ℕ
evicted_word = codes "evicted "

-- what a peer and a broadcaster print after the inputs that they took; the broadcaster's lines name the parties that it evicts, against
-- which it keeps evidence

abbrev pub peer_summary : Rules → List Input → List Action
peer_summary r taken = show (peer_line (summary_of r taken)) ∷ shown_parties evidence_word (r.evidence taken) r.peers

abbrev pub caster_summary : Rules → List Input → List Action
caster_summary r taken = show (caster_line (summary_of r taken)) ∷ shown_parties evicted_word (r.evidence taken) r.peers

-- the summary is printed if the run is at its end
abbrev pub at_end : (Rules → List Input → List Action) → Rules → List Arrival → List Action
at_end summary r given = if is_ended r given then summary r (taken_of r given) else []

-- the statuses at which something may have been printed
abbrev pub may_print : ℕ → Bool
may_print status = status == 0 || status == 7 || status == 70

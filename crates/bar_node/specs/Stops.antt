-- What holds after a run over a link, without reference to plans.
use Rattle.std.specs.Prelude.{◌≡◌, ◌≢◌, ◌≤◌, ℕ, List, [], ◌∷◌, ◌++◌, length, Option, Some, IfSome, if◌then◌else◌}
use Rattle.std.specs.List.{AllByRecursion, concat, flat_map}
use Rattle.bar_wire.specs.Inputs.{Input}
use Rattle.bar_record.specs.Recording.{entry_bytes}
use Rattle.bar_outside.specs.Disk.{Content, Disk}
use Rattle.bar_outside.specs.Plan.{Action, Begun, Outside, Ran}
use Rattle.bar_outside.specs.Wire.{Arrival, Wire}
use Rattle.bar_judge.specs.TableFile.{table_bytes}
use Rattle.bar_findings.specs.Findings.{Finding, evidence_name, in_order, table_name}
use Rattle.bar_core.specs.Rules.{Rules, Send}
use Rattle.bar_core.specs.Runs.{contents_over, sends_over}
use Rattle.bar_node.specs.Code.Effects.{received_in}
use Rattle.bar_node.specs.Runs.{found_after, is_ended, node_plan, taken_of}

-- the first list is a prefix of the second
pub record IsFront {X : Type 0} (front all : List X) : Type 0 where
  pub rest : List X
  pub is : all ≡ front ++ rest

-- Some inputs were begun: all but the last of these were done, and the last was done in part. At most one due input wasn't begun.
pub record Cut (all : List Input) : Type 0 where
  pub whole : List Input
  pub last : List Input
  pub left : List Input
  pub is : all ≡ whole ++ (last ++ left)
  pub one : length last ≤ 1
  pub most : length left ≤ 1

-- The file of this name is none of the files of what was found.
pub record IsApart (path found : List ℕ) : Type 0 where
  pub table : path ≢ table_name found
  pub evidence : (party : ℕ) → path ≢ evidence_name found party

-- The names of a peer's files differ.
pub record AreApart (recording played found : List ℕ) : Type 0 where
  pub differ : played ≢ recording
  pub played_apart : IsApart played found
  pub recording_apart : IsApart recording found

-- Bytes were appended to a file that existed.
abbrev pub IsAddedTo : List ℕ → Disk → Disk → List ℕ → Type 0
IsAddedTo path files files_new bytes =
    (held : List ℕ) → files.content path ≡ Some held → files_new.content path ≡ Some (held ++ bytes)

-- What a node sent before it was stopped: everything that the begun inputs but the last send, and a prefix of what the last one sends.
pub record StoppedSending (r : Rules) (given : List Arrival) (wire wire_new : Wire) : Type 0 where
  pub cut : Cut (taken_of r given)
  pub sent : List Send
  pub front : IsFront sent (sends_over r cut.whole cut.last)
  pub is : wire_new.traffic.sent ≡ wire.traffic.sent ++ (sends_over r [] cut.whole ++ sent)

-- the recording's end mark, if the run is at its end
abbrev pub end_of : Rules → List Arrival → List ℕ
end_of r given = if is_ended r given then 0 ∷ [] else []

-- A peer that was stopped: it sent, played and recorded everything for the begun inputs but the last, and a prefix of that for the last.
-- The claims on files require that their names differ.
pub record StoppedPeer (recording played found : List ℕ) (r : Rules) (given : List Arrival) (files files_new : Disk)
    (wire wire_new : Wire) : Type 0 where
  pub cut : Cut (taken_of r given)
  pub sent : List Send
  pub bytes : List ℕ
  pub entries : List ℕ
  pub sent_front : IsFront sent (sends_over r cut.whole cut.last)
  pub bytes_front : IsFront bytes (concat (contents_over r cut.whole cut.last))
  pub entries_front : IsFront entries (flat_map entry_bytes cut.last ++ end_of r given)
  pub sent_is : wire_new.traffic.sent ≡ wire.traffic.sent ++ (sends_over r [] cut.whole ++ sent)
  pub played_is : AreApart recording played found → IsAddedTo played files files_new (concat (contents_over r [] cut.whole) ++ bytes)
  pub recorded_is : AreApart recording played found → IsAddedTo recording files files_new (flat_map entry_bytes cut.whole ++ entries)

-- A peer that completed: it sent everything, its played file contains everything that is played, and its recording contains the inputs
-- taken and the end mark.
pub record DonePeer (recording played : List ℕ) (r : Rules) (given : List Arrival) (files files_new : Disk)
    (wire wire_new : Wire) : Type 0 where
  pub sent_is : wire_new.traffic.sent ≡ wire.traffic.sent ++ sends_over r [] (taken_of r given)
  pub played_is : IsAddedTo played files files_new (concat (contents_over r [] (taken_of r given)))
  pub recorded_is : IsAddedTo recording files files_new (flat_map entry_bytes (taken_of r given) ++ 0 ∷ [])

-- A node's run was done in part, and received exactly what the link gave.
pub record HasRun (recording played : Option (List ℕ)) (found : List ℕ) (r : Rules) (given : List Arrival)
    (old new : Outside) : Type 0 where
  pub done : List Action
  pub begun : Begun (node_plan recording played found r given) done
  pub received : received_in done ≡ given
  pub ran : Ran done old new

-- The file of this name is neither one to which a run appends nor one of the files of what was found.
pub record IsOther (recording played : Option (List ℕ)) (findings : List Finding) (path : List ℕ) : Type 0 where
  pub not_recording : IfSome recording (λ name. path ≢ name)
  pub not_played : IfSome played (λ name. path ≢ name)
  pub not_found : AllByRecursion (λ f. f.name ≢ path) findings

-- The table file contains exactly the manifests that are kept, by round. Each peer against which evidence is kept has a file with exactly
-- this evidence. The other files are unchanged.
pub record FoundBy (recording played : Option (List ℕ)) (found : List ℕ) (r : Rules) (taken : List Input) (old new : Content) : Type 0 where
  pub table : new (table_name found) ≡ Some (table_bytes (in_order (r.manifest taken) r.rounds))
  pub evidence : (party : ℕ) → 1 ≤ party → party ≤ r.peers →
      IfSome (r.evidence taken party) (λ kept. new (evidence_name found party) ≡ Some kept)
  pub others : (path : List ℕ) → IsOther recording played (found_after found r taken) path → new path ≡ old path

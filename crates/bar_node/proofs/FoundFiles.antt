-- What was found by a run, and the files that the run leaves alone.
use Rattle.std.proofs.Common.{◌≡◌, ◌≢◌, ◌<◌, ◌^◌, ℕ, ◌+◌, Bool, true, false, cond, List, [], ◌∷◌, ◌++◌, length, refl, sym, ap, ◌∙◌, subst, inl, inr, append_assoc, Option, Some, None, IfSome, IsTrue, Result, Ok, Err}
use Rattle.std.specs.List.{flat_map}
use Rattle.bar_wire.specs.Inputs.{Input}
use Rattle.bar_record.specs.Pacing.{ticks_of}
use Rattle.bar_record.specs.Recording.{entry_bytes}
use Rattle.bar_outside.specs.Disk.{Content, Disk}
use Rattle.bar_outside.specs.Wire.{Arrival, Wire}
use Rattle.bar_outside.specs.declared.fault.Fault.{Fault}
use Rattle.bar_outside.specs.Plan.{Action, Outside, Ran, Touches, content_after}
use Rattle.bar_outside.specs.Plan.Action.{link}
use Rattle.bar_outside.specs.Plan.LinkCall.{receive}
use Rattle.bar_outside.proofs.ActionLists.{content_after-append}
use Rattle.bar_outside.proofs.Untouched.{Touches-begun, Touches-split, content-untouched}
use Rattle.bar_findings.specs.Findings.{Finding, findings_actions}
use Rattle.bar_findings.proofs.Holding.{AreWritten, all-written, evidence-there, table-there, touched-findings}
use Rattle.bar_findings.proofs.Names.{findings-distinct}
use Rattle.bar_core.specs.Rules.{Rules}
use Rattle.bar_node.specs.Code.Turns.{Layout, kept, node_layout, sent, turn, turns}
use Rattle.bar_node.specs.Runs.{RanNode, behind, closing, due_if, found_after, input_of, is_ended, node_from, node_plan, run_if, taken_of}
use Rattle.bar_node.specs.Stops.{FoundBy, IsOther}
use Rattle.bar_node.specs.declared.summary.Summary.{Summary}
use Rattle.bar_node.proofs.Doing.{beside}

-- ---- the files that are touched

touched-kept : (path bytes : List ℕ) (file : Option (List ℕ)) → IfSome file (λ name. path ≢ name) → Touches (kept file bytes) path → ⊥
touched-kept path bytes None h t = t
touched-kept path bytes (Some name) h (inl e) = h e
touched-kept path bytes (Some name) h (inr t) = t

touched-each : {X : Type 0} (path : List ℕ) (f : X → List Action) → ((x : X) → Touches (f x) path → ⊥) → (xs : List X) →
    Touches (flat_map f xs) path → ⊥
touched-each path f none [] t = t
touched-each path f none (x ∷ xs) t =
    elim (Touches-split (f x) (flat_map f xs) path t) [ inl a ↦ none x a | inr b ↦ touched-each path f none xs b ]

module _ (recording played : Option (List ℕ)) (found : List ℕ) (r : Rules) where
  abbrev lay : Layout
  lay = node_layout recording played

  module _ (path : List ℕ) (not_recording : IfSome recording (λ name. path ≢ name)) (not_played : IfSome played (λ name. path ≢ name)) where
    touched-turn : (before : List Input) (input : Input) → Touches (turn lay r before input) path → ⊥
    touched-turn before input t =
        let plays : List Action = flat_map (kept played) (r.contents before input) in
        let sends : List Action = flat_map (sent (length before + 1)) (r.sends before input) in
        elim (Touches-split (kept recording (entry_bytes input)) (plays ++ sends) path t) [
          | inl a ↦ touched-kept path (entry_bytes input) recording not_recording a
          | inr b ↦ elim (Touches-split plays sends path b) [
            | inl a ↦ touched-each path (kept played) (λ content. touched-kept path content played not_played) (r.contents before input) a
            | inr d ↦ touched-each path (sent (length before + 1)) (λ send s. s) (r.sends before input) d
          ]
        ]

    touched-turns : (before inputs : List Input) → Touches (turns lay r before inputs) path → ⊥
    touched-turns before [] t = t
    touched-turns before (x ∷ xs) t =
        elim (Touches-split (turn lay r before x) (turns lay r (before ++ x ∷ []) xs) path t) [
          | inl a ↦ touched-turn before x a
          | inr b ↦ touched-turns (before ++ x ∷ []) xs b
        ]

    touched-node : (before : List Input) (run : ℕ) (given : List Arrival) → Touches (node_from lay r before run given) path → ⊥
    touched-node before run [] t = t
    touched-node before run (a ∷ given) t =
        let now : List Input = due_if r.last (ticks_of before) run (input_of a) in
        let next : ℕ = run_if run (input_of a) in
        elim (Touches-split (turns lay r before now) (node_from lay r (before ++ now) next given) path t) [
          | inl b ↦ touched-turns before now b
          | inr b ↦ touched-node (before ++ now) next given b
        ]

  touched-closing : (path : List ℕ) (taken : List Input) → IsOther recording played (found_after found r taken) path →
      Touches (closing recording found r taken) path → ⊥
  touched-closing path taken other t =
      elim (Touches-split (kept recording (0 ∷ [])) (findings_actions (found_after found r taken)) path t) [
        | inl a ↦ touched-kept path (0 ∷ []) recording other.not_recording a
        | inr b ↦ touched-findings (λ name. name ≢ path) (found_after found r taken) path other.not_found b refl
      ]

  touched-behind : (path : List ℕ) (given : List Arrival) → IsOther recording played (found_after found r (taken_of r given)) path →
      Touches (behind recording found r given) path → ⊥
  touched-behind path given other = by_test (is_ended r given)
    where
      by_test : (b : Bool) → Touches (cond b (closing recording found r (taken_of r given)) (link (receive None) ∷ [])) path → ⊥
      by_test true t = touched-closing path (taken_of r given) other t
      by_test false t = t

  -- a run touches only its own files
  pub touched-plan : (given : List Arrival) (path : List ℕ) → IsOther recording played (found_after found r (taken_of r given)) path →
      Touches (node_plan recording played found r given) path → ⊥
  touched-plan given path other t =
      elim (Touches-split (node_from lay r [] 0 given) (behind recording found r given) path t) [
        | inl a ↦ touched-node path other.not_recording other.not_played [] 0 given a
        | inr b ↦ touched-behind path given other b
      ]

  pub run-unchanged : (now : List Input → Type 0) (files files_new : Disk) (wire wire_new : Wire) (result : Result Summary Fault)
      (ran : RanNode recording played found r now files files_new wire wire_new result) → (path : List ℕ) →
      IsOther recording played (found_after found r (taken_of r ran.given)) path → files_new.content path ≡ files.content path
  run-unchanged now files files_new wire wire_new (Ok summary) ran path other =
      ap (λ (holds : Content). holds path) ((ran.follows (beside files wire)).done.files)
      ∙ content-untouched (node_plan recording played found r ran.given) files.content path (touched-plan ran.given path other)
  run-unchanged now files files_new wire wire_new (Err fault) ran path other =
      let part = (ran.follows (beside files wire)).part in
      ap (λ (holds : Content). holds path) part.ran.files
      ∙ content-untouched part.done files.content path
      (λ t. touched-plan ran.given path other (Touches-begun (node_plan recording played found r ran.given) part.done path part.begun t))

  -- ---- what was found

  module _ (given : List Arrival) (old new : Outside) (ran : Ran (node_plan recording played found r given) old new) where
    abbrev taken : List Input
    taken = taken_of r given

    abbrev findings : List Finding
    findings = found_after found r taken

    -- everything that is done before it
    abbrev front : List Action
    front = node_from lay r [] 0 given ++ kept recording (0 ∷ [])

    -- the link is asked again
    abbrev asked : List Action
    asked = link (receive None) ∷ []

    found-last : IsTrue (is_ended r given) →
        new.files.content ≡ content_after (findings_actions findings) (content_after front old.files.content)
    found-last ended =
        ran.files
        ∙ ap (λ b. content_after (node_from lay r [] 0 given ++ cond b (closing recording found r taken) asked) old.files.content) ended
        ∙ ap (λ acts. content_after acts old.files.content)
        (sym (append_assoc (node_from lay r [] 0 given) (kept recording (0 ∷ [])) (findings_actions findings)))
        ∙ content_after-append front (findings_actions findings) old.files.content

    pub found-whole : IsTrue (is_ended r given) → r.peers < 2 ^ 64 →
        FoundBy recording played found r taken old.files.content new.files.content
    found-whole ended few =
        let written : AreWritten findings new.files.content =
        subst (AreWritten findings) (sym (found-last ended))
        (all-written findings (content_after front old.files.content)
        (findings-distinct found (r.manifest taken) r.rounds (r.evidence taken) r.peers few)) in
        record {
          table = table-there found (r.manifest taken) r.rounds (r.evidence taken) r.peers new.files.content written;
          evidence = evidence-there found (r.manifest taken) r.rounds (r.evidence taken) r.peers new.files.content written;
          others = λ path other.
              ap (λ (holds : Content). holds path) ran.files
              ∙ content-untouched (node_plan recording played found r given) old.files.content path (touched-plan given path other);
        }

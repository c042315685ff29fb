-- A node's run writes its files, receives what a link gives and sends over it; it binds no link and prints nothing.
use Rattle.std.proofs.Common.{ℕ, ◌+◌, Bool, true, false, cond, List, [], ◌∷◌, ◌++◌, Option, None, Some, IfSome, length, map}
use Rattle.std.specs.List.{AllByRecursion, flat_map}
use Rattle.bar_wire.specs.Inputs.{Input}
use Rattle.bar_record.specs.Pacing.{ticks_of}
use Rattle.bar_record.specs.Recording.{entry_bytes}
use Rattle.bar_outside.specs.Wire.{Arrival}
use Rattle.bar_outside.specs.Plan.{Action}
use Rattle.bar_outside.specs.Plan.Action.{append, link}
use Rattle.bar_outside.specs.Plan.LinkCall.{receive}
use Rattle.bar_findings.specs.Findings.{Finding, IsFindingName, finding_actions, findings_actions}
use Rattle.bar_findings.proofs.Names.{finding-names}
use Rattle.bar_core.specs.Rules.{Rules, Send}
use Rattle.bar_laws.proofs.Logs.{all-both, all-map}
use Rattle.bar_node.specs.Code.Turns.{Layout, kept, node_layout, sent, turn, turns}
use Rattle.bar_node.specs.Runs.{behind, closing, due_if, found_after, input_of, is_ended, node_from, node_plan, run_if, taken_of}
use Rattle.bar_node.proofs.ActionKinds.{AreAmong, IsAmong, IsUnbinding}

module _ (P : List ℕ → Type 0) where
  -- an action of a run whose files have names in P
  abbrev IsOfRun : Action → Type 0
  IsOfRun act = IsAmong P IsUnbinding ⊥ act

  abbrev pub AreOfRun : List Action → Type 0
  AreOfRun acts = AreAmong P IsUnbinding ⊥ acts

  of-all : {X : Type 0} (f : X → List Action) (xs : List X) → ((x : X) → AreOfRun (f x)) → AreOfRun (flat_map f xs)
  of-all f [] h = tt
  of-all f (x ∷ xs) h = all-both IsOfRun (f x) (flat_map f xs) (h x) (of-all f xs h)

  of-kept : (path : Option (List ℕ)) (bytes : List ℕ) → IfSome path P → AreOfRun (kept path bytes)
  of-kept None bytes h = tt
  of-kept (Some path) bytes h = (h, tt)

  -- ---- what was found

  of-pieces : (name : List ℕ) (pieces : List (List ℕ)) → P name → AreOfRun (map (append name) pieces)
  of-pieces name [] h = tt
  of-pieces name (x ∷ xs) h = (h, of-pieces name xs h)

  of-findings : (findings : List Finding) → AllByRecursion (λ f. P f.name) findings → AreOfRun (findings_actions findings)
  of-findings [] h = tt
  of-findings (f ∷ fs) h =
      all-both IsOfRun (finding_actions f) (findings_actions fs) (h.0, of-pieces f.name f.pieces h.0) (of-findings fs h.1)

  -- ---- the turns, and the whole run

  module _ (recording played : Option (List ℕ)) (of_recording : IfSome recording P) (of_played : IfSome played P) (r : Rules) where
    abbrev lay : Layout
    lay = node_layout recording played

    of-turn : (before : List Input) (input : Input) → AreOfRun (turn lay r before input)
    of-turn before input =
        let contents : List (List ℕ) = r.contents before input in
        let sends : List Send = r.sends before input in
        let number : ℕ = length before + 1 in
        all-both IsOfRun (kept recording (entry_bytes input)) (flat_map (kept played) contents ++ flat_map (sent number) sends)
        (of-kept recording (entry_bytes input) of_recording)
        (all-both IsOfRun (flat_map (kept played) contents) (flat_map (sent number) sends)
        (of-all (kept played) contents (λ content. of-kept played content of_played))
        (of-all (sent number) sends (λ next. (tt, tt))))

    of-turns : (before inputs : List Input) → AreOfRun (turns lay r before inputs)
    of-turns before [] = tt
    of-turns before (input ∷ inputs) =
        all-both IsOfRun (turn lay r before input) (turns lay r (before ++ input ∷ []) inputs) (of-turn before input)
        (of-turns (before ++ input ∷ []) inputs)

    of-arrivals : (before : List Input) (run : ℕ) (given : List Arrival) → AreOfRun (node_from lay r before run given)
    of-arrivals before run [] = tt
    of-arrivals before run (a ∷ given) =
        let now : List Input = due_if r.last (ticks_of before) run (input_of a) in
        let next : ℕ = run_if run (input_of a) in (
          tt,
          all-both IsOfRun (turns lay r before now) (node_from lay r (before ++ now) next given) (of-turns before now)
              (of-arrivals (before ++ now) next given),
        )

    module _ (found : List ℕ) (of_found : (name : List ℕ) → IsFindingName found name → P name) (given : List Arrival) where
      of-closing : AreOfRun (closing recording found r (taken_of r given))
      of-closing =
          let findings : List Finding = found_after found r (taken_of r given) in
          all-both IsOfRun (kept recording (0 ∷ [])) (findings_actions findings) (of-kept recording (0 ∷ []) of_recording)
          (of-findings findings (all-map (λ f. IsFindingName found f.name) (λ f. P f.name) findings (λ f is. of_found f.name is)
          (finding-names found (r.manifest (taken_of r given)) r.rounds (r.evidence (taken_of r given)) r.peers)))

      of-behind : AreOfRun (behind recording found r given)
      of-behind = by_test (is_ended r given)
        where
          by_test : (b : Bool) → AreOfRun (cond b (closing recording found r (taken_of r given)) (link (receive None) ∷ []))
          by_test true = of-closing
          by_test false = (tt, tt)

      pub of-run : AreOfRun (node_plan recording played found r given)
      of-run =
          all-both IsOfRun (node_from lay r [] 0 given) (behind recording found r given) (of-arrivals [] 0 given) of-behind

-- What follows the turns of a run: the recording's end and what was found, or another call of the link.
use Rattle.std.proofs.Common.{◌≡◌, ℕ, Bool, true, false, cond, List, [], ◌∷◌, ◌++◌, refl, ap, ◌∙◌, append-nil, map, Option, None}
use Rattle.std.specs.List.{AllByRecursion, flat_map}
use Rattle.std.proofs.lemmas.Grind.{flat_map-append}
use Rattle.bar_wire.specs.Inputs.{Input}
use Rattle.bar_outside.specs.Wire.{Arrival}
use Rattle.bar_outside.specs.Plan.{Action}
use Rattle.bar_outside.specs.Plan.Action.{append, create, link}
use Rattle.bar_outside.specs.Plan.LinkCall.{receive}
use Rattle.bar_findings.specs.Findings.{Finding, finding_actions, findings_actions}
use Rattle.bar_core.specs.Rules.{Rules}
use Rattle.bar_node.specs.Code.Turns.{kept}
use Rattle.bar_node.specs.Runs.{behind, closing, found_after, is_ended, taken_of}

module _ {X : Type 0} (gives : Action → List X) where
  -- creating or appending to a file of this name gives nothing
  abbrev pub GivesNone : List ℕ → Type 0
  GivesNone name = (gives (create name) ≡ []) × ((bytes : List ℕ) → gives (append name bytes) ≡ [])

  pieces-none : (name : List ℕ) (pieces : List (List ℕ)) → GivesNone name → flat_map gives (map (append name) pieces) ≡ []
  pieces-none name [] h = refl
  pieces-none name (x ∷ xs) h = ap (λ ys. ys ++ flat_map gives (map (append name) xs)) (h.1 x) ∙ pieces-none name xs h

  finding-none : (f : Finding) → GivesNone f.name → flat_map gives (finding_actions f) ≡ []
  finding-none f h = ap (λ ys. ys ++ flat_map gives (map (append f.name) f.pieces)) h.0 ∙ pieces-none f.name f.pieces h

  findings-none : (findings : List Finding) → AllByRecursion (λ f. GivesNone f.name) findings →
      flat_map gives (findings_actions findings) ≡ []
  findings-none [] h = refl
  findings-none (f ∷ fs) h =
      flat_map-append gives (finding_actions f) (findings_actions fs)
      ∙ ap (λ ys. ys ++ flat_map gives (findings_actions fs)) (finding-none f h.0) ∙ findings-none fs h.1

  -- if writing the findings gives nothing, only the recording's end gives something
  module _ (recording : Option (List ℕ)) (found : List ℕ) (r : Rules) where
    closing-gives : (taken : List Input) → AllByRecursion (λ f. GivesNone f.name) (found_after found r taken) →
        flat_map gives (closing recording found r taken) ≡ flat_map gives (kept recording (0 ∷ []))
    closing-gives taken none =
        flat_map-append gives (kept recording (0 ∷ [])) (findings_actions (found_after found r taken))
        ∙ ap (λ ys. flat_map gives (kept recording (0 ∷ [])) ++ ys) (findings-none (found_after found r taken) none)
        ∙ append-nil _

    pub behind-gives : (given : List Arrival) (end : List X) → gives (link (receive None)) ≡ [] →
        AllByRecursion (λ f. GivesNone f.name) (found_after found r (taken_of r given)) → flat_map gives (kept recording (0 ∷ [])) ≡ end →
        flat_map gives (behind recording found r given) ≡ cond (is_ended r given) end []
    behind-gives given end asks none ends = by_test (is_ended r given)
      where
        by_test : (b : Bool) →
            flat_map gives (cond b (closing recording found r (taken_of r given)) (link (receive None) ∷ [])) ≡ cond b end []
        by_test true = closing-gives (taken_of r given) none ∙ ends
        by_test false = ap (λ ys. ys ++ []) asks

    pub behind-none : (given : List Arrival) → gives (link (receive None)) ≡ [] →
        AllByRecursion (λ f. GivesNone f.name) (found_after found r (taken_of r given)) → flat_map gives (kept recording (0 ∷ [])) ≡ [] →
        flat_map gives (behind recording found r given) ≡ []
    behind-none given asks none ends = behind-gives given [] asks none ends ∙ by_test (is_ended r given)
      where
        by_test : (b : Bool) → cond b (let nothing : List X = [] in nothing) [] ≡ []
        by_test true = refl
        by_test false = refl

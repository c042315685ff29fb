-- The turns of inputs, one after the other, and what actions add to a link's traffic.
use Rattle.std.proofs.Common.{◌≡◌, ℕ, ◌+◌, List, [], ◌∷◌, ◌++◌, refl, sym, ap, ◌∙◌, append-nil, append_assoc, arith}
use Rattle.std.specs.List.{flat_map}
use Rattle.std.proofs.lemmas.Grind.{flat_map-append}
use Rattle.bar_wire.specs.Inputs.{Input}
use Rattle.bar_record.specs.Pacing.{paced_from, ticks_of}
use Rattle.bar_record.proofs.PacingLemmas.{ticks_joined}
use Rattle.bar_outside.specs.Wire.{Arrival, Datagram, End, Tick, Traffic}
use Rattle.bar_outside.specs.Plan.{Action, traffic_after, traffic_by}
use Rattle.bar_core.specs.Rules.{Rules}
use Rattle.bar_node.specs.Code.Turns.{Layout, turn, turns}
use Rattle.bar_node.specs.Runs.{due_if, input_of, inputs_of, run_if}

-- ---- turns, and what is taken

snoc-append : {X : Type 0} (xs : List X) (y : X) (ys : List X) → (xs ++ y ∷ []) ++ ys ≡ xs ++ y ∷ ys
snoc-append xs y ys = append_assoc xs (y ∷ []) ys

pub turns-append : (lay : Layout) (r : Rules) (before xs ys : List Input) →
    turns lay r before (xs ++ ys) ≡ turns lay r before xs ++ turns lay r (before ++ xs) ys
turns-append lay r before [] ys = ap (λ h. turns lay r h ys) (sym (append-nil before))
turns-append lay r before (x ∷ xs) ys =
    ap (λ rest. turn lay r before x ++ rest)
    (turns-append lay r (before ++ x ∷ []) xs ys
    ∙ ap (λ h. turns lay r (before ++ x ∷ []) xs ++ turns lay r h ys) (snoc-append before x xs))
    ∙ sym (append_assoc (turn lay r before x) (turns lay r (before ++ x ∷ []) xs) (turns lay r (before ++ x ∷ xs) ys))

-- what is due at an arrival, and then at the following ones
pub paced-step : (last : ℕ) (before : List Input) (run : ℕ) (a : Arrival) (given : List Arrival) →
    paced_from last (ticks_of before) run (inputs_of (a ∷ given))
    ≡ due_if last (ticks_of before) run (input_of a)
    ++ paced_from last (ticks_of (before ++ due_if last (ticks_of before) run (input_of a))) (run_if run (input_of a)) (inputs_of given)
paced-step last before run a given =
    let now : List Input = due_if last (ticks_of before) run (input_of a) in
    at_once last (ticks_of before) run a given
    ∙ ap (λ t. now ++ paced_from last t (run_if run (input_of a)) (inputs_of given)) (sym (ticks_joined before now))
  where
    at_once : (last ticks run : ℕ) (a : Arrival) (given : List Arrival) →
        paced_from last ticks run (inputs_of (a ∷ given))
        ≡ due_if last ticks run (input_of a)
        ++ paced_from last (ticks + ticks_of (due_if last ticks run (input_of a))) (run_if run (input_of a)) (inputs_of given)
    at_once last ticks run Tick given = refl
    at_once last ticks run (Datagram bytes) given = refl
    at_once last ticks run End given = let e : ticks ≡ ticks + 0 = omega arith in ap (λ t. paced_from last t run (inputs_of given)) e

-- ---- what actions add to the link's traffic

-- if each action adds to a list of the traffic, a list of actions adds all of it in order
pub traffic-adds : {X : Type 0} (part : Traffic → List X) (gives : Action → List X) →
    ((a : Action) (t : Traffic) → part (traffic_by a t) ≡ part t ++ gives a) →
    (acts : List Action) (t : Traffic) → part (traffic_after acts t) ≡ part t ++ flat_map gives acts
traffic-adds part gives one [] t = sym (append-nil (part t))
traffic-adds part gives one (a ∷ acts) t =
    traffic-adds part gives one acts (traffic_by a t)
    ∙ ap (λ xs. xs ++ flat_map gives acts) (one a t)
    ∙ append_assoc (part t) (gives a) (flat_map gives acts)

-- ---- what actions don't give

both-none : {X : Type 0} (xs ys : List X) → xs ≡ [] → ys ≡ [] → xs ++ ys ≡ []
both-none xs ys e f = rw (e, f) refl

-- if the actions for each element give nothing, those for all elements give nothing
pub each-none : {X Y : Type 0} (gives : Action → List X) (f : Y → List Action) → ((y : Y) → flat_map gives (f y) ≡ []) → (ys : List Y) →
    flat_map gives (flat_map f ys) ≡ []
each-none gives f none [] = refl
each-none gives f none (y ∷ ys) = flat_map-append gives (f y) (flat_map f ys) ∙ both-none _ _ (none y) (each-none gives f none ys)

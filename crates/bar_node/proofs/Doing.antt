-- How much was done of a plan that prints nothing, and what was received.
use Rattle.std.proofs.Common.{◌≡◌, ◌⊎◌, ℕ, Bool, true, false, cond, List, [], ◌∷◌, ◌++◌, refl, sym, ap, ◌∙◌, subst, inl, inr, append-nil, append_assoc, IsTrue, Option, Some, None, IfSome, map}
use Rattle.std.specs.List.{AllByRecursion}
use Rattle.std.proofs.lemmas.Grind.{flat_map-append}
use Rattle.bar_wire.specs.Inputs.{Input}
use Rattle.bar_record.specs.Pacing.{ticks_of}
use Rattle.bar_record.specs.Recording.{IsInRange}
use Rattle.bar_record.proofs.PacingLemmas.{few_inputs}
use Rattle.bar_outside.specs.Disk.{Disk}
use Rattle.bar_outside.specs.Stream.{Stream}
use Rattle.bar_outside.specs.Wire.{Arrival, Datagram, End, Tick, Wire}
use Rattle.bar_outside.specs.Plan.{Action, Begun, Outside, Ran, outside, shown}
use Rattle.bar_outside.specs.Plan.Action.{append, link}
use Rattle.bar_outside.specs.Plan.LinkCall.{receive}
use Rattle.bar_outside.proofs.ActionLists.{Begun-behind, Begun-longer, Begun-nothing, shown-append}
use Rattle.bar_findings.specs.Findings.{Finding, finding_actions, findings_actions}
use Rattle.bar_core.specs.Rules.{Rules}
use Rattle.bar_node.specs.Code.Effects.{received_by, received_in}
use Rattle.bar_node.specs.Code.Turns.{Layout, kept, node_layout, turns}
use Rattle.bar_node.specs.Runs.{HasDone, IsGiven, behind, closing, due_if, found_after, input_of, inputs_of, inputs_plan, is_ended, node_from, node_plan, run_if, taken_of}
use Rattle.bar_node.proofs.Yields.{cons-nil}
use Rattle.bar_node.proofs.Arriving.{due_next, node-next}
use Rattle.bar_node.proofs.Receiving.{AreQuiet, quiet-begun, quiet-both, quiet-kept, quiet-turns, received-quiet, shown-quiet}

-- an outside of files and a link, with an empty output
abbrev pub silent_out : Stream
silent_out = record { reliable = true; bytes = []; faults = 0 }

abbrev pub beside : Disk → Wire → Outside
beside files wire = outside files silent_out wire

-- no turn receives anything from the link, and none prints
abbrev pub IsSilent : Layout → Type 0
IsSilent lay = (r : Rules) (before inputs : List Input) → AreQuiet (turns lay r before inputs)

-- ---- the actions after the turns are quiet

quiet-pieces : (name : List ℕ) (pieces : List (List ℕ)) → AreQuiet (map (append name) pieces)
quiet-pieces name [] = tt
quiet-pieces name (x ∷ xs) = (tt, quiet-pieces name xs)

quiet-findings : (findings : List Finding) → AreQuiet (findings_actions findings)
quiet-findings [] = tt
quiet-findings (f ∷ fs) =
    quiet-both (finding_actions f) (findings_actions fs) (tt, quiet-pieces f.name f.pieces) (quiet-findings fs)

pub quiet-closing : (recording : Option (List ℕ)) (found : List ℕ) (r : Rules) (taken : List Input) →
    AreQuiet (closing recording found r taken)
quiet-closing recording found r taken =
    quiet-both (kept recording (0 ∷ [])) (findings_actions (found_after found r taken)) (quiet-kept recording (0 ∷ []))
    (quiet-findings (found_after found r taken))

-- ---- a plan over what a link gave receives exactly this, and prints nothing

module _ (lay : Layout) (silent : IsSilent lay) (r : Rules) where
  pub received-node : (before : List Input) (run : ℕ) (given : List Arrival) → received_in (node_from lay r before run given) ≡ given
  received-node before run [] = refl
  received-node before run (a ∷ given) =
      let now : List Input = due_if r.last (ticks_of before) run (input_of a) in
      let others : List Action = node_from lay r (before ++ now) (run_if run (input_of a)) given in
      ap (λ xs. a ∷ xs)
      (flat_map-append received_by (turns lay r before now) others
      ∙ ap (λ xs. xs ++ received_in others) (received-quiet (turns lay r before now) (silent r before now))
      ∙ received-node (before ++ now) (run_if run (input_of a)) given)

  pub shown-node : (before : List Input) (run : ℕ) (given : List Arrival) → shown (node_from lay r before run given) ≡ []
  shown-node before run [] = refl
  shown-node before run (a ∷ given) =
      let now : List Input = due_if r.last (ticks_of before) run (input_of a) in
      let others : List Action = node_from lay r (before ++ now) (run_if run (input_of a)) given in
      shown-append (turns lay r before now) others
      ∙ ap (λ xs. xs ++ shown others) (shown-quiet (turns lay r before now) (silent r before now))
      ∙ shown-node (before ++ now) (run_if run (input_of a)) given

-- a whole run receives everything that was given
pub received-run : (recording played : Option (List ℕ)) (found : List ℕ) (r : Rules) (given : List Arrival) →
    received_in (node_plan recording played found r given) ≡ given
received-run recording played found r given =
    let front = node_from (node_layout recording played) r [] 0 given in
    flat_map-append received_by front (behind recording found r given)
    ∙ ap (λ xs. xs ++ received_in (behind recording found r given))
    (received-node (node_layout recording played) (quiet-turns recording played) r [] 0 given)
    ∙ ap (λ xs. given ++ xs) (received-quiet (behind recording found r given) (by_test (is_ended r given)))
    ∙ append-nil given
  where
    by_test : (b : Bool) → AreQuiet (cond b (closing recording found r (taken_of r given)) (link (receive None) ∷ []))
    by_test true = quiet-closing recording found r (taken_of r given)
    by_test false = (tt, tt)

-- ---- how much was done

module _ (given : List Arrival) (files files_new : Disk) (wire wire_new : Wire) where
  abbrev Did : List Action → Type 0
  Did plan = HasDone plan given files files_new wire wire_new

  -- all of a prefix that printed nothing, and a part of the following quiet actions
  pub did-behind : (front plan part : List Action) → received_in front ≡ given → shown front ≡ [] → AreQuiet plan → Begun plan part →
      Ran (front ++ part) (beside files wire) (beside files_new wire_new) → Did (front ++ plan)
  did-behind front plan part received none quiet begun ran = record {
    done = front ++ part;
    begun = Begun-behind front plan part begun;
    received =
        flat_map-append received_by front part
        ∙ ap (λ xs. received_in front ++ xs) (received-quiet part (quiet-begun plan part quiet begun))
        ∙ append-nil (received_in front) ∙ received;
    ran = λ w. record {
      files = ran.files;
      out = sym (ap (λ bytes. w.out.bytes ++ bytes) silent_is ∙ append-nil w.out.bytes);
      wire = ran.wire;
    };
  }
    where
      silent_is : shown (front ++ part) ≡ []
      silent_is =
          shown-append front part ∙ ap (λ xs. xs ++ shown part) none ∙ shown-quiet part (quiet-begun plan part quiet begun)

  pub did-longer : (plan more : List Action) → Did plan → Did (plan ++ more)
  did-longer plan more d = record {
    done = d.done;
    begun = Begun-longer plan more d.done d.begun;
    received = d.received;
    ran = d.ran;
  }

  -- if the run wasn't at its end, the plan is longer
  pub did-before : (front more asked : List Action) (ended : Bool) → Did (front ++ cond ended [] asked) → Did (front ++ cond ended more asked)
  did-before front more asked true d = did-longer front more (subst Did (append-nil front) d)
  did-before front more asked false d = d

-- all turns over some arrivals were done, and the run is at its end
module _ (lay : Layout) (silent : IsSilent lay) (r : Rules) (given : List Arrival) (files files_new : Disk) (wire wire_new : Wire) where
  abbrev front : List Action
  front = node_from lay r [] 0 given

  pub did-all : IsTrue (is_ended r given) → Ran front (beside files wire) (beside files_new wire_new) →
      HasDone (inputs_plan lay r given) given files files_new wire wire_new
  did-all ended ran =
      subst (λ b. HasDone (front ++ cond b [] (link (receive None) ∷ [])) given files files_new wire wire_new) (sym ended)
      (did-behind given files files_new wire wire_new front [] [] (received-node lay silent r [] 0 given) (shown-node lay silent r [] 0 given)
      tt (Begun-nothing []) (subst (λ acts. Ran acts (beside files wire) (beside files_new wire_new)) (sym (append-nil front)) ran))

  -- one more arrival was received, and a part of the turns of what is due was done
  pub did-turns : (a : Arrival) (part : List Action) → Begun (turns lay r (taken_of r given) (due_next lay r given a)) part →
      Ran ((front ++ link (receive (Some a)) ∷ []) ++ part) (beside files wire) (beside files_new wire_new) →
      HasDone (node_from lay r [] 0 (given ++ a ∷ [])) (given ++ a ∷ []) files files_new wire wire_new
  did-turns a part begun ran =
      let now : List Action = turns lay r (taken_of r given) (due_next lay r given a) in
      subst (λ plan. HasDone plan (given ++ a ∷ []) files files_new wire wire_new)
      (append_assoc front (link (receive (Some a)) ∷ []) now ∙ sym (node-next lay r given a))
      (did-behind (given ++ a ∷ []) files files_new wire wire_new (front ++ link (receive (Some a)) ∷ []) now part
      (flat_map-append received_by front (link (receive (Some a)) ∷ []) ∙ ap (λ xs. xs ++ a ∷ []) (received-node lay silent r [] 0 given))
      (shown-append front (link (receive (Some a)) ∷ []) ∙ ap (λ xs. xs ++ []) (shown-node lay silent r [] 0 given))
      (silent r (taken_of r given) (due_next lay r given a)) begun ran)

-- ---- what a link gives

pub none-more : {X : Type 0} (xs : List X) (y : X) (zs : List X) → [] ≡ xs ++ y ∷ zs → ⊥
none-more [] y zs e = cons-nil y zs (sym e)
none-more (x ∷ xs) y zs e = cons-nil x (xs ++ y ∷ zs) (sym e)

-- A proper prefix of a list with one more element is the list itself or a proper prefix of it.
last-or-not : {X : Type 0} (xs ys : List X) (x y : X) (zs : List X) → xs ++ x ∷ [] ≡ ys ++ y ∷ zs →
    (ys ≡ xs) ⊎ ((more : List X) × (xs ≡ ys ++ y ∷ more))
last-or-not [] [] x y zs e = inl refl
last-or-not [] (b ∷ ys) x y zs e = let f : [] ≡ ys ++ y ∷ zs = cc in absurd (none-more ys y zs f)
last-or-not (a ∷ xs) [] x y zs e = inr (xs, let f : a ≡ y = cc in ap (λ v. v ∷ xs) f)
last-or-not (a ∷ xs) (b ∷ ys) x y zs e =
    let f : a ≡ b = cc in
    let rest : xs ++ x ∷ [] ≡ ys ++ y ∷ zs = cc in
    elim (last-or-not xs ys x y zs rest) [
      | inl same ↦ inl (let g : b ∷ ys ≡ a ∷ xs = cc in g)
      | inr m ↦ inr (m.0, ap (λ v. v ∷ xs) f ∙ ap (λ vs. b ∷ vs) m.1)
    ]

-- one more datagram doesn't exceed the largest size
within-more : (given : List Arrival) (a : Arrival) → AllByRecursion IsInRange (inputs_of given) → IfSome (input_of a) IsInRange →
    AllByRecursion IsInRange (inputs_of (given ++ a ∷ []))
within-more [] Tick h k = (tt, tt)
within-more [] (Datagram bytes) h k = (k, tt)
within-more [] End h k = tt
within-more (Tick ∷ given) a h k = (tt, within-more given a h.1 k)
within-more (Datagram bytes ∷ given) a h k = (h.0, within-more given a h.1 k)
within-more (End ∷ given) a h k = within-more given a h k

pub given-none : (r : Rules) → IsGiven r []
given-none r = record {
  within = tt;
  asked = λ front next rest e. absurd (none-more front next rest e);
  few = few_inputs r.last [];
}

-- the link was asked once more
pub given-more : (r : Rules) (given : List Arrival) (a : Arrival) → IsGiven r given → is_ended r given ≡ false →
    IfSome (input_of a) IsInRange → IsGiven r (given ++ a ∷ [])
given-more r given a is goes fits = record {
  within = within-more given a is.within fits;
  asked = λ front next rest e.
      elim (last-or-not given front a next rest e) [
        | inl same ↦ subst (λ xs. is_ended r xs ≡ false) (sym same) goes
        | inr m ↦ is.asked front next m.0 m.1
      ];
  few = few_inputs r.last (inputs_of (given ++ a ∷ []));
}

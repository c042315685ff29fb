-- The exits of a run over what a link gives.
use Rattle.std.proofs.Common.{◌≡◌, ◌≤◌, ◌<◌, ℕ, ◌+◌, ◌*◌, ◌^◌, length, arith, nat_le, min, cond, Bool, true, false, List, [], ◌∷◌, ◌++◌, refl, sym, ap, ◌∙◌, subst, append-nil, IfSome, Some, None, Result, Ok, Err}
use Rattle.std.proofs.lemmas.Bool.{or_from, or_left, or_right}
use Rattle.bar_wire.specs.Inputs.{Input}
use Rattle.bar_record.specs.Pacing.{due, is_datagram, most_in_a_row, run_after, ticks_of}
use Rattle.bar_outside.specs.Disk.{Disk}
use Rattle.bar_outside.specs.Wire.{Wire, Arrival, Tick, Datagram, End}
use Rattle.bar_outside.specs.declared.fault.Fault.{Fault}
use Rattle.bar_outside.specs.Code.Faults.{code_of_fault}
use Rattle.bar_outside.specs.Plan.{Outside, Action, Reached, with_files, with_wire}
use Rattle.bar_outside.specs.Plan.Action.{link}
use Rattle.bar_outside.specs.Plan.LinkCall.{receive}
use Rattle.bar_outside.specs.Code.Follows.{Follows}
use Rattle.bar_outside.proofs.ActionLists.{Ran-append}
use Rattle.bar_outside.proofs.Following.{answered, followed, handed, nothing_done, stopped}
use Rattle.bar_core.specs.Rules.{Rules}
use Rattle.bar_core.specs.Code.Face.{Face, IsIdle}
use Rattle.bar_node.specs.Code.Turns.{Layout, turns}
use Rattle.bar_node.specs.Code.Taking.{Took}
use Rattle.bar_node.specs.Code.Counting.{both, capped}
use Rattle.bar_node.specs.Runs.{input_of, has_end, due_if, run_if, node_from, is_ended, taken_of, HasDone, IsGiven, RanInputs}
use Rattle.bar_node.specs.declared.counts.Counts.{Counts}
use Rattle.bar_node.proofs.Turning.{took-both, took-along}
use Rattle.bar_record.proofs.DueLemmas.{all-count, not-late, row-stays, ticks-early, ticks-late}
use Rattle.bar_record.specs.Recording.{IsInRange}
use Rattle.bar_node.proofs.Doing.{IsSilent, beside, did-all, did-behind, did-longer, did-turns, given-more, received-node, shown-node}
use Rattle.bar_node.proofs.Receiving.{Heard, has_end-append, heard-more, heard-still, same-taken}
use Rattle.bar_node.proofs.Arriving.{run_from, due_next, taken-next, arrive, run_from-append}

-- some arrivals, none of which is the end, and what was done over them
pub record Arrived (lay : Layout) (now : List Input → Type 0) (r : Rules) (at : Face) (run : ℕ) (files files_at : Disk)
    (wire wire_at : Wire) (counts : Counts) : Type 0 where
  pub rules : at.rules ≡ r
  pub idle : IsIdle at
  pub given : List Arrival
  pub is_given : IsGiven r given
  pub took : Took [] now r (taken_of r given) counts
  pub goes_on : has_end given ≡ false
  pub run_is : run ≡ run_from 0 given
  pub row : run ≤ 65536
  pub follows : (w : Outside) → Follows {T = Unit {0}} (node_from lay r [] 0 given)
      (with_wire (with_files w files) wire) (with_wire (with_files w files_at) wire_at) (Ok tt)
  pub gave : Heard given wire wire_at

-- ---- the count of the inputs taken, which is exact

exact : (inputs n last : ℕ) → inputs ≡ capped n → n ≤ (most_in_a_row + 1) * last → last < 2 ^ 32 → (inputs ≡ n) × (inputs + 2 < 2 ^ 64)
exact inputs n last e few small = (omega arith, omega arith)

pub count-given : (lay : Layout) (now : List Input → Type 0) (r : Rules) (at : Face) (run : ℕ) (files files_at : Disk) (wire wire_at : Wire)
    (counts : Counts) (i : Arrived lay now r at run files files_at wire wire_at counts) → r.last < 2 ^ 32
    → (counts.inputs ≡ length (taken_of r i.given)) × (counts.inputs + 2 < 2 ^ 64)
count-given lay now r at run files files_at wire wire_at counts i small =
    exact counts.inputs (length (taken_of r i.given)) r.last (ap (λ (k : Counts). k.inputs) i.took.counted) i.is_given.few small

-- ---- whether the run is at its end

is-end : (a : Arrival) → None ≡ input_of a → has_end (a ∷ []) ≡ true
is-end End e = refl
is-end Tick e = cc
is-end (Datagram bytes) e = cc

is-no-end : (a : Arrival) (input : Input) → Some input ≡ input_of a → has_end (a ∷ []) ≡ false
is-no-end Tick input e = refl
is-no-end (Datagram bytes) input e = refl
is-no-end End input e = cc

goes-on-more : (given : List Arrival) (a : Arrival) (input : Input) → has_end given ≡ false → Some input ≡ input_of a →
    has_end (given ++ a ∷ []) ≡ false
goes-on-more given a input h is = has_end-append given (a ∷ []) ∙ or_from _ _ h (is-no-end a input is)

-- if the run isn't at its end, the plan is longer
module _ {T : Type 0} (plan more : List Action) (old new : Outside) where
  at-its-end : (ended : Bool) (q : Result T Fault) → ended ≡ true → Follows plan old new q → Follows (plan ++ cond ended [] more) old new q
  at-its-end ended q e f =
      subst (λ b. Follows (plan ++ cond b [] more) old new q) (sym e) (subst (λ acts. Follows acts old new q) (sym (append-nil plan)) f)

  before-its-end : (ended : Bool) (q : Result T Fault) → ended ≡ false → Follows (plan ++ more) old new q →
      Follows (plan ++ cond ended [] more) old new q
  before-its-end ended q e f = subst (λ b. Follows (plan ++ cond b [] more) old new q) (sym e) f

module _ (lay : Layout) (now : List Input → Type 0) (r : Rules) (at : Face) (run : ℕ) (files files_at : Disk) (wire wire_at : Wire)
    (counts : Counts) (i : Arrived lay now r at run files files_at wire wire_at counts)
    (timed : at.ticks ≡ min (ticks_of (taken_of r i.given)) at.rules.last) (silent : IsSilent lay) where
  last-is : at.rules.last ≡ r.last
  last-is = ap (λ (rules : Rules). rules.last) i.rules

  -- if the last tick wasn't taken, the run isn't at its end
  goes-on : false ≡ nat_le at.rules.last at.ticks → is_ended r i.given ≡ false
  goes-on goes = or_from _ _ i.goes_on (ticks-early (taken_of r i.given) _ _ _ timed last-is goes)

  first : Follows {T = Unit {0}} (node_from lay r [] 0 i.given) (beside files wire) (beside files_at wire_at) (Ok tt)
  first = i.follows (beside files wire)

  -- ---- a call of the link

  -- the link failed
  pub failed-receiving : {S : Type 0} (later : List Input → Type 0) (wire_new : Wire) (fault : Fault) →
      false ≡ nat_le at.rules.last at.ticks →
      ((w : Outside) → Follows {T = S} (link (receive None) ∷ []) (with_wire w wire_at) (with_wire w wire_new) (Err fault)) →
      RanInputs lay later r files files_at wire wire_new (Err fault)
  failed-receiving later wire_new fault goes f = record {
    given = i.given;
    is_given = i.is_given;
    follows = λ w.
        before-its-end _ _ _ _ (is_ended r i.given) (Err fault) (goes-on goes)
        (followed _ _ _ _ _ (tt {0}) (i.follows w) (Err fault) (handed _ _ _ fault (f (with_files w files_at))));
    taken = gave_new.taken;
    told_end = gave_new.ended;
    did = subst (λ b. HasDone (node_from lay r [] 0 i.given ++ cond b [] (link (receive None) ∷ [])) i.given files files_at wire wire_new)
        (sym (goes-on goes))
        (did-behind i.given files files_at wire wire_new (node_from lay r [] 0 i.given) (link (receive None) ∷ []) asking.done
        (received-node lay silent r [] 0 i.given) (shown-node lay silent r [] 0 i.given) (tt, tt) asking.begun
        (Ran-append (node_from lay r [] 0 i.given) asking.done _ _ _ first.later first.done asking.ran));
    took = tt;
    ended = tt;
  }
    where
      asking : Reached (link (receive None) ∷ []) (code_of_fault fault) (beside files_at wire_at) (beside files_at wire_new)
      asking = (f (beside files_at wire_at)).part

      gave_new : Heard i.given wire wire_new
      gave_new =
          heard-still i.given wire wire_at wire_new i.gave
          (same-taken (link (receive None) ∷ []) (beside files_at wire_at) (beside files_at wire_new) (Err fault) (tt, tt)
          (f (beside files_at wire_at)))

  -- the last tick was taken
  pub at-last : true ≡ nat_le at.rules.last at.ticks → RanInputs lay now r files files_at wire wire_at (Ok counts)
  at-last over =
      let ended = or_right (has_end i.given) _ (ticks-late (taken_of r i.given) _ _ _ timed last-is over) in
      record {
        given = i.given;
        is_given = i.is_given;
        follows = λ w. at-its-end _ _ _ _ (is_ended r i.given) (Ok counts) ended (answered _ _ _ (tt {0}) counts (i.follows w));
        did = did-all lay silent r i.given files files_at wire wire_at ended first.done;
        taken = i.gave.taken;
        told_end = i.gave.ended;
        took = i.took;
        ended = ended;
      }

  module _ (wire_mid : Wire) (a : Arrival) {S : Type 0} (y : S)
      (f : (w : Outside) → Follows (link (receive (Some a)) ∷ []) (with_wire w wire_at) (with_wire w wire_mid) (Ok y)) where
    gave-mid : Heard (i.given ++ a ∷ []) wire wire_mid
    gave-mid =
        heard-more a i.given wire (beside files_at wire_at) (beside files_at wire_mid) y i.gave
        (f (beside files_at wire_at))

    -- the link gave its end
    pub at-end : false ≡ nat_le at.rules.last at.ticks → None ≡ input_of a → RanInputs lay now r files files_at wire wire_mid (Ok counts)
    at-end goes e =
        let none : due_next lay r i.given a ≡ [] =
        ap (λ o. due_if r.last (ticks_of (taken_of r i.given)) (run_from 0 i.given) o) (sym e) in
        let ended = or_left (has_end (i.given ++ a ∷ [])) _ (has_end-append i.given (a ∷ []) ∙ or_right _ _ (is-end a e)) in
        let arrived = λ (w : Outside).
        arrive lay r i.given a _ _ _ _ (tt {0}) y (Ok counts) (i.follows w) (f (with_files w files_at))
        (subst (λ ds. Follows (turns lay r (taken_of r i.given) ds) (with_wire (with_files w files_at) wire_mid)
        (with_wire (with_files w files_at) wire_mid) (Ok counts)) (sym none)
        (answered [] _ _ (tt {0}) counts (nothing_done (with_wire (with_files w files_at) wire_mid)))) in
        record {
          given = i.given ++ a ∷ [];
          is_given = given-more r i.given a i.is_given (goes-on goes) (subst (λ o. IfSome o IsInRange) e tt);
          follows = λ w. at-its-end _ _ _ _ (is_ended r (i.given ++ a ∷ [])) (Ok counts) ended (arrived w);
          did = did-all lay silent r (i.given ++ a ∷ []) files files_at wire wire_mid ended (arrived (beside files wire)).done;
          taken = gave-mid.taken;
          told_end = gave-mid.ended;
          took =
              took-along _ _ _ _ _ _
              (taken-next lay r i.given a ∙ ap (λ ds. taken_of r i.given ++ ds) none ∙ append-nil (taken_of r i.given)) i.took;
          ended = ended;
        }

    -- ---- the turns of what is due

    module _ (input : Input) (is : Some input ≡ input_of a) (fits : IsInRange input) (early : false ≡ nat_le at.rules.last at.ticks) where
      goes : at.ticks < at.rules.last
      goes = not-late _ _ early

      given-now : IsGiven r (i.given ++ a ∷ [])
      given-now = given-more r i.given a i.is_given (goes-on early) (subst (λ o. IfSome o IsInRange) is fits)

      same-due : due at.rules.last at.ticks run input ≡ due_next lay r i.given a
      same-due =
          let t : at.ticks ≡ ticks_of (taken_of r i.given) = sym (all-count (taken_of r i.given) _ _ timed goes) in
          ap (λ n. due n at.ticks run input) last-is
          ∙ ap (λ n. due r.last n run input) t
          ∙ ap (λ n. due r.last (ticks_of (taken_of r i.given)) n input) i.run_is
          ∙ ap (λ o. due_if r.last (ticks_of (taken_of r i.given)) (run_from 0 i.given) o) is

      same-turns : {T : Type 0} (old new : Outside) (q : Result T Fault) →
          Follows (turns lay at.rules (taken_of r i.given) (due at.rules.last at.ticks run input)) old new q →
          Follows (turns lay r (taken_of r i.given) (due_next lay r i.given a)) old new q
      same-turns old new q h =
          subst (λ (rules : Rules). Follows (turns lay rules (taken_of r i.given) (due_next lay r i.given a)) old new q) i.rules
          (subst (λ ds. Follows (turns lay at.rules (taken_of r i.given) ds) old new q) same-due h)

      module _ (files_new : Disk) (wire_new : Wire) where
        gave-new : {T : Type 0} (q : Result T Fault) →
            ((w : Outside) → Follows (turns lay at.rules (taken_of r i.given) (due at.rules.last at.ticks run input))
            (with_wire (with_files w files_at) wire_mid) (with_wire (with_files w files_new) wire_new) q) →
            Heard (i.given ++ a ∷ []) wire wire_new
        gave-new q h =
            heard-still (i.given ++ a ∷ []) wire wire_mid wire_new gave-mid
            (same-taken (turns lay at.rules (taken_of r i.given) (due at.rules.last at.ticks run input))
            (beside files_at wire_mid) (beside files_new wire_new) q (silent at.rules _ _) (h (beside files_at wire_at)))

        -- a turn was stopped
        pub failed-taking : (later : List Input → Type 0) (fault : Fault) →
            ((w : Outside) → Follows {T = Counts} (turns lay at.rules (taken_of r i.given) (due at.rules.last at.ticks run input))
            (with_wire (with_files w files_at) wire_mid) (with_wire (with_files w files_new) wire_new) (Err fault)) →
            RanInputs lay later r files files_new wire wire_new (Err fault)
        failed-taking later fault h = record {
          given = i.given ++ a ∷ [];
          is_given = given-now;
          follows = λ w.
              stopped _ (cond (is_ended r (i.given ++ a ∷ [])) [] (link (receive None) ∷ [])) _ _ fault
              (arrive lay r i.given a _ _ _ _ (tt {0}) y (Err fault) (i.follows w) (f (with_files w files_at))
              (same-turns _ _ (Err fault) (h w)));
          taken = (gave-new (Err fault) h).taken;
          told_end = (gave-new (Err fault) h).ended;
          did = did-longer (i.given ++ a ∷ []) files files_new wire wire_new (node_from lay r [] 0 (i.given ++ a ∷ [])) _
              (did-turns lay silent r i.given files files_new wire wire_new a taking.done taking.begun
              (Ran-append (node_from lay r [] 0 i.given ++ link (receive (Some a)) ∷ []) taking.done _ _ _ received.later received.done
              taking.ran));
          took = tt;
          ended = tt;
        }
          where
            received : Follows (node_from lay r [] 0 i.given ++ link (receive (Some a)) ∷ []) (beside files wire) (beside files_at wire_mid) (Ok y)
            received =
                followed (node_from lay r [] 0 i.given) (link (receive (Some a)) ∷ []) _ _ _ (tt {0}) first (Ok y) (f (beside files_at wire_at))

            taking : Reached (turns lay r (taken_of r i.given) (due_next lay r i.given a)) (code_of_fault fault)
                (beside files_at wire_mid) (beside files_new wire_new)
            taking = (same-turns _ _ (Err fault) (h (beside files_at wire_mid))).part

        -- the input was taken
        pub arrived-more : (later : List Input → Type 0) (new : Face) (run_new : ℕ) (more : Counts) →
            ((w : Outside) → Follows (turns lay at.rules (taken_of r i.given) (due at.rules.last at.ticks run input))
            (with_wire (with_files w files_at) wire_mid) (with_wire (with_files w files_new) wire_new) (Ok more)) →
            Took (taken_of r i.given) later at.rules (due at.rules.last at.ticks run input) more → IsIdle new → new.rules ≡ at.rules →
            run_new ≡ run_after run (is_datagram input) →
            Arrived lay later r new run_new files files_new wire wire_new (both counts more)
        arrived-more later new run_new more h took idle rules run_is = record {
          rules = rules ∙ i.rules;
          idle = idle;
          given = i.given ++ a ∷ [];
          is_given = given-now;
          took =
              took-along _ _ _ _ _ _ (taken-next lay r i.given a ∙ ap (λ ds. taken_of r i.given ++ ds) (sym same-due))
              (took-both [] _ _ r (taken_of r i.given) _ _ _ i.took
              (subst (λ (rules : Rules). Took (taken_of r i.given) later rules (due at.rules.last at.ticks run input) more) i.rules took));
          goes_on = goes-on-more i.given a input i.goes_on is;
          run_is =
              run_is
              ∙ ap (λ n. run_after n (is_datagram input)) i.run_is
              ∙ ap (run_if (run_from 0 i.given)) is
              ∙ sym (run_from-append 0 i.given (a ∷ []));
          row = subst (λ n. n ≤ 65536) (sym run_is) (row-stays run (is_datagram input) i.row);
          follows = λ w.
              answered _ _ _ more (tt {0})
              (arrive lay r i.given a _ _ _ _ (tt {0}) y (Ok more) (i.follows w) (f (with_files w files_at))
              (same-turns _ _ (Ok more) (h w)));
          gave = gave-new (Ok more) h;
        }

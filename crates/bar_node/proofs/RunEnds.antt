-- How a run over a link ends.
use Rattle.std.proofs.Common.{◌≡◌, ◌∙◌, ℕ, cond, min, Bool, true, false, List, [], ◌∷◌, ◌++◌, refl, sym, subst, arith, append-nil, Option, None, Result, Ok, Err}
use Rattle.bar_wire.specs.Inputs.{Input}
use Rattle.bar_record.specs.Pacing.{paced, ticks_of}
use Rattle.bar_record.proofs.PacingLemmas.{few_ticks}
use Rattle.bar_outside.specs.Disk.{Disk}
use Rattle.bar_outside.specs.Wire.{Wire}
use Rattle.bar_outside.specs.declared.fault.Fault.{Fault}
use Rattle.bar_outside.specs.declared.fault.Fault.TheVariants.{NoMemory}
use Rattle.bar_outside.specs.Plan.{Outside, Action, Begun, Ran, with_files, with_wire}
use Rattle.bar_outside.specs.Plan.Action.{link}
use Rattle.bar_outside.specs.Plan.LinkCall.{receive}
use Rattle.bar_outside.specs.Code.Follows.{Follows}
use Rattle.bar_outside.proofs.ActionLists.{Begun-nothing, Begun-whole, Ran-append}
use Rattle.bar_outside.proofs.Following.{Ran-nothing, true-not_false, answered, followed, stopped, handed, no_memory}
use Rattle.bar_core.specs.Rules.{Rules}
use Rattle.bar_node.specs.Code.Turns.{node_layout}
use Rattle.bar_node.specs.Code.Counting.{counts_over}
use Rattle.bar_node.specs.Runs.{HasDone, RanInputs, RanNode, closing, is_ended, node_from, node_plan, summary_of, taken_of}
use Rattle.bar_node.specs.declared.counts.Counts.{Counts}
use Rattle.bar_node.specs.declared.summary.Summary.{Summary}
use Rattle.bar_node.proofs.Receiving.{heard-none, quiet-turns}
use Rattle.bar_node.proofs.Doing.{beside, did-before, did-behind, given-none, quiet-closing, received-node, shown-node}

-- a plan of inputs that was stopped, and what was to follow it
module _ {S T : Type 0} (front more asked : List Action) (old new : Outside) (fault : Fault) where
  stopped-before : (ended : Bool) → Follows {T = S} (front ++ cond ended [] asked) old new (Err fault) →
      Follows {T = T} (front ++ cond ended more asked) old new (Err fault)
  stopped-before true f =
      handed _ old new fault
      (stopped front more old new fault (subst (λ acts. Follows {T = S} acts old new (Err fault)) (append-nil front) f))
  stopped-before false f = handed _ old new fault f

-- a plan of inputs that was done, and what followed it
module _ {S T : Type 0} (front more asked : List Action) (old mid new : Outside) (y : S) (q : Result T Fault) where
  done-before : (ended : Bool) → ended ≡ true → Follows (front ++ cond ended [] asked) old mid (Ok y) → Follows more mid new q →
      Follows (front ++ cond ended more asked) old new q
  done-before true e f g = followed front more old mid new y (subst (λ acts. Follows acts old mid (Ok y)) (append-nil front) f) q g
  done-before false e f g = absurd (true-not_false (sym e))

module _ (recording played : Option (List ℕ)) (found : List ℕ) (r : Rules) (now : List Input → Type 0) (files : Disk) (wire : Wire) where
  -- nothing was done, because memory ran out
  pub not-run : RanNode recording played found r now files files wire wire (Err NoMemory)
  not-run = record {
    given = [];
    is_given = given-none r;
    follows = λ w. no_memory _ _;
    did = record { done = []; begun = Begun-nothing _; received = refl; ran = λ w. Ran-nothing _ };
    taken = (heard-none wire).taken;
    told_end = (heard-none wire).ended;
    stands = tt;
    ended = tt;
    summary = tt;
  }

  module _ (taking : List Input → Type 0) (files_at : Disk) (wire_at : Wire) where
    -- a fault stopped it
    pub run-failed : (fault : Fault) → RanInputs (node_layout recording played) taking r files files_at wire wire_at (Err fault) →
        RanNode recording played found r now files files_at wire wire_at (Err fault)
    run-failed fault i = record {
      given = i.given;
      is_given = i.is_given;
      follows = λ w.
          stopped-before (node_from (node_layout recording played) r [] 0 i.given) (closing recording found r (taken_of r i.given))
          (link (receive None) ∷ []) _ _ fault (is_ended r i.given) (i.follows w);
      taken = i.taken;
      told_end = i.told_end;
      did = did-before i.given files files_at wire wire_at (node_from (node_layout recording played) r [] 0 i.given)
          (closing recording found r (taken_of r i.given)) (link (receive None) ∷ []) (is_ended r i.given) i.did;
      stands = tt;
      ended = tt;
      summary = tt;
    }

    module _ (counts : Counts) (i : RanInputs (node_layout recording played) taking r files files_at wire wire_at (Ok counts))
        (rules_at : Rules) (same : rules_at ≡ r) where
      -- the closing by these rules
      closed : {T : Type 0} (files_new : Disk) (q : Result T Fault) →
          ((w : Outside) → Follows (closing recording found rules_at (taken_of r i.given))
          (with_files w files_at) (with_files w files_new) q) →
          (w : Outside) → Follows (closing recording found r (taken_of r i.given)) (with_files w files_at) (with_files w files_new) q
      closed files_new q f w =
          subst (λ (rules : Rules). Follows (closing recording found rules (taken_of r i.given))
          (with_files w files_at) (with_files w files_new) q) same (f w)

      closes : {T : Type 0} (files_new : Disk) (q : Result T Fault) →
          ((w : Outside) → Follows (closing recording found rules_at (taken_of r i.given))
          (with_files w files_at) (with_files w files_new) q) →
          (w : Outside) → Follows (node_plan recording played found r i.given)
          (with_wire (with_files w files) wire) (with_wire (with_files w files_new) wire_at) q
      closes files_new q f w =
          done-before (node_from (node_layout recording played) r [] 0 i.given) (closing recording found r (taken_of r i.given))
          (link (receive None) ∷ []) _ _ _ counts q (is_ended r i.given) i.ended (i.follows w) (closed files_new q f (with_wire w wire_at))

      -- only the turns
      turned : (w : Outside) → Follows (node_from (node_layout recording played) r [] 0 i.given)
          (with_wire (with_files w files) wire) (with_wire (with_files w files_at) wire_at) (Ok counts)
      turned w =
          subst (λ acts. Follows acts (with_wire (with_files w files) wire) (with_wire (with_files w files_at) wire_at) (Ok counts))
          (append-nil (node_from (node_layout recording played) r [] 0 i.given))
          (subst (λ b. Follows (node_from (node_layout recording played) r [] 0 i.given ++ cond b [] (link (receive None) ∷ []))
          (with_wire (with_files w files) wire) (with_wire (with_files w files_at) wire_at) (Ok counts)) i.ended (i.follows w))

      -- a part of its closing was done
      did-closed : (files_new : Disk) (part : List Action) → Begun (closing recording found r (taken_of r i.given)) part →
          Ran part (beside files_at wire_at) (beside files_new wire_at) →
          HasDone (node_plan recording played found r i.given) i.given files files_new wire wire_at
      did-closed files_new part begun ran =
          let lay = node_layout recording played in
          let front = node_from lay r [] 0 i.given in
          let more = closing recording found r (taken_of r i.given) in
          let first = turned (beside files wire) in
          subst (λ b. HasDone (front ++ cond b more (link (receive None) ∷ [])) i.given files files_new wire wire_at) (sym i.ended)
          (did-behind i.given files files_new wire wire_at front more part (received-node lay (quiet-turns recording played) r [] 0 i.given)
          (shown-node lay (quiet-turns recording played) r [] 0 i.given) (quiet-closing recording found r (taken_of r i.given)) begun
          (Ran-append front part _ _ _ first.later first.done ran))

      -- a fault stopped its closing
      pub close-failed : {S : Type 0} (files_new : Disk) (fault : Fault) →
          ((w : Outside) → Follows {T = S} (closing recording found rules_at (taken_of r i.given))
          (with_files w files_at) (with_files w files_new) (Err fault)) →
          RanNode recording played found r now files files_new wire wire_at (Err fault)
      close-failed files_new fault f = record {
        given = i.given;
        is_given = i.is_given;
        follows = λ w. handed _ _ _ fault (closes files_new (Err fault) f w);
        did = let part = (closed files_new (Err fault) f (beside files_at wire_at)).part in did-closed files_new part.done part.begun part.ran;
        taken = i.taken;
        told_end = i.told_end;
        stands = tt;
        ended = tt;
        summary = tt;
      }

      -- the run completed
      pub run-done : {S : Type 0} (files_new : Disk) (y : S) (summary : Summary) →
          ((w : Outside) → Follows (closing recording found rules_at (taken_of r i.given))
          (with_files w files_at) (with_files w files_new) (Ok y)) →
          now (taken_of r i.given) → summary ≡ summary_of r (taken_of r i.given) →
          RanNode recording played found r now files files_new wire wire_at (Ok summary)
      run-done files_new y summary f stands e = record {
        given = i.given;
        is_given = i.is_given;
        follows = λ w. answered _ _ _ y summary (closes files_new (Ok y) f w);
        taken = i.taken;
        told_end = i.told_end;
        did = did-closed files_new (closing recording found r (taken_of r i.given)) (Begun-whole _) (closed files_new (Ok y) f (beside files_at wire_at)).done;
        stands = stands;
        ended = i.ended;
        summary = e;
      }

-- the time is the number of all ticks taken, because none is taken after the last tick
all-ticks : (r : Rules) (inputs : List Input) (ticks end : ℕ) → ticks ≡ min (ticks_of (paced r.last inputs)) end → end ≡ r.last →
    ticks ≡ ticks_of (paced r.last inputs)
all-ticks r inputs ticks end e same = let few = few_ticks r.last 0 0 inputs (omega arith) in omega arith

pub summary-is : (r : Rules) (inputs : List Input) (ticks at end : ℕ) (counts : Counts) → ticks ≡ at →
    at ≡ min (ticks_of (paced r.last inputs)) end → end ≡ r.last → counts ≡ counts_over r [] (paced r.last inputs) →
    (let s : Summary = record { ticks = ticks; sent = counts.sent; played = counts.played } in s) ≡ summary_of r (paced r.last inputs)
summary-is r inputs ticks at end counts e f same h = rw (e ∙ all-ticks r inputs at end f same, h) refl

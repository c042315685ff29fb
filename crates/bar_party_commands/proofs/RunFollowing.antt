-- Runs over a link that are followed, with what precedes and follows them.
use Rattle.std.proofs.Common.{◌≡◌, ℕ, List, [], ◌∷◌, ◌++◌, append-nil, ◌||◌, if◌then◌else◌, Bool, true, false, Option, Result, Ok, Err, OnOk, IsTrue, refl}
use Rattle.std.proofs.Common.{sym, ap, ◌∙◌}
use Rattle.std.proofs.Common.{subst, inl, inr}
use Rattle.std.specs.List.{AllByRecursion}
use Rattle.std.proofs.lemmas.Bool.{false≢true, or_right}
use Rattle.bar_outside.specs.Disk.{Disk}
use Rattle.bar_outside.specs.Stream.{Stream}
use Rattle.bar_outside.specs.Wire.{Arrival, Bound, Traffic, Wire}
use Rattle.bar_outside.specs.Plan.{Action, Begun, IsPartOf, Outside, outside, traffic_after, with_files, with_out, with_wire}
use Rattle.bar_outside.specs.Plan.Action.{append, create, link, read, show}
use Rattle.bar_outside.specs.Plan.LinkCall.{bind}
use Rattle.bar_outside.specs.Code.Follows.{Follows}
use Rattle.bar_outside.specs.declared.fault.Fault.{Fault}
use Rattle.bar_outside.specs.declared.fault.Fault.TheVariants.{NoMemory}
use Rattle.bar_outside.proofs.ActionLists.{Begun-first, Begun-none}
use Rattle.bar_outside.proofs.Following.{Ran-nothing, followed, handed, no_memory, stopped}
use Rattle.bar_wire.specs.Inputs.{Input}
use Rattle.bar_core.specs.Rules.{Rules}
use Rattle.bar_record.specs.Recording.{IsInRange}
use Rattle.bar_node.specs.Code.Effects.{received_in}
use Rattle.bar_node.specs.Runs.{RanNode, has_end, heard, inputs_of, is_ended, node_plan, taken_of}
use Rattle.bar_node.specs.declared.summary.Summary.{Summary}
use Rattle.bar_node.proofs.ActionKinds.{AreAmong, NoCall, NoName, among-unreceived}
use Rattle.bar_node.proofs.Doing.{given-none, received-run}
use Rattle.bar_party_commands.specs.Running.{HasHeard, HasReached, RunFollows}
use Rattle.bar_party_commands.proofs.Reaching.{AnyName, nothing-reached, reached-behind, reached-longer, reached-uncalled}
use Rattle.bar_party_commands.specs.Summaries.{at_end}

-- nothing was taken over the link
pub heard-nothing : (old new : Outside) → new.wire.traffic.taken ≡ old.wire.traffic.taken → HasHeard [] old new
heard-nothing old new same = record {
  taken = same ∙ sym (append-nil old.wire.traffic.taken);
  told_end = λ ended. absurd (false≢true ended);
  within = tt;
}

-- memory ran out before anything was done
pub run-memory : {T : Type 0} (actions : List Arrival → List Action) (r : Rules) (old : Outside) →
    RunFollows {T = T} actions r old old (Err NoMemory)
run-memory actions r old = record {
  given = [];
  heard = heard-nothing old old refl;
  follows = no_memory (actions []) old;
  reached = nothing-reached (actions []) old old (Ran-nothing old);
  asked = (given-none r).asked;
  ended = tt;
}

-- ---- what is done to one part only, over any outside

abbrev pub AtFiles : {T : Type 0} → List Action → Disk → Disk → Result T Fault → Type 0
AtFiles plan old new result = (w : Outside) → Follows plan (with_files w old) (with_files w new) result

abbrev pub AtLink : {T : Type 0} → List Action → Wire → Wire → Result T Fault → Type 0
AtLink plan old new result = (w : Outside) → Follows plan (with_wire w old) (with_wire w new) result

abbrev pub AtOutput : {T : Type 0} → List Action → Stream → Stream → Result T Fault → Type 0
AtOutput plan old new result = (w : Outside) → Follows plan (with_out w old) (with_out w new) result

-- ---- a binding takes nothing

no-part-link : (bound : Bound) (part : Action) → IsPartOf part (link (bind bound)) → ⊥
no-part-link bound (read path) h = h
no-part-link bound (create path) h = h
no-part-link bound (append path bytes) h = h
no-part-link bound (show bytes) h = h
no-part-link bound (link call) h = h

begun-binding : (bound : Bound) (done : List Action) (traffic : Traffic) → Begun (link (bind bound) ∷ []) done →
    (traffic_after done traffic).taken ≡ traffic.taken
begun-binding bound done traffic b =
    elim (Begun-first (link (bind bound)) [] done b) [
      | inl e ↦ ap (λ acts. (traffic_after acts traffic).taken) e.0
      | inr two ↦ elim two [
        | inl part ↦ absurd (no-part-link bound part.0 part.2)
        | inr more ↦
            ap (λ acts. (traffic_after acts traffic).taken)
            (more.1 ∙ ap (λ acts. link (bind bound) ∷ acts) (Begun-none more.0 more.2))
      ]
    ]

-- a binding receives nothing
binding-received : (bound : Bound) (done : List Action) → Begun (link (bind bound) ∷ []) done → received_in done ≡ []
binding-received bound done b =
    elim (Begun-first (link (bind bound)) [] done b) [
      | inl e ↦ ap received_in e.0
      | inr two ↦ elim two [
        | inl part ↦ absurd (no-part-link bound part.0 part.2)
        | inr more ↦ ap received_in (more.1 ∙ ap (λ acts. link (bind bound) ∷ acts) (Begun-none more.0 more.2))
      ]
    ]

unbound-taken : {T : Type 0} (bound : Bound) (old new : Outside) (fault : Fault) →
    Follows {T = T} (link (bind bound) ∷ []) old new (Err fault) → new.wire.traffic.taken ≡ old.wire.traffic.taken
unbound-taken bound old new fault f =
    ap (λ (t : Traffic). t.taken) f.part.ran.wire ∙ begun-binding bound f.part.done old.wire.traffic f.part.begun

bound-taken : {T : Type 0} (bound : Bound) (old new : Outside) (x : T) → Follows {T = T} (link (bind bound) ∷ []) old new (Ok x) →
    new.wire.traffic.taken ≡ old.wire.traffic.taken
bound-taken bound old new x f = ap (λ (t : Traffic). t.taken) f.done.wire

-- ---- some actions on the files, the binding, the run and its summary

abbrev pub run_actions : List Action → Bound → Option (List ℕ) → Option (List ℕ) → List ℕ → (Rules → List Input → List Action) → Rules →
    List Arrival → List Action
run_actions front bound recording played found summary r given =
    front ++ (link (bind bound) ∷ (node_plan recording played found r given ++ at_end summary r given))

at-end : {T : Type 0} (summary : Rules → List Input → List Action) (r : Rules) (given : List Arrival) (old new : Outside)
    (result : Result T Fault) → IsTrue (is_ended r given) → Follows (summary r (taken_of r given)) old new result →
    Follows (at_end summary r given) old new result
at-end summary r given old new result ended f =
    subst (λ b. Follows (if b then summary r (taken_of r given) else []) old new result) (sym ended) f

on-ok : {T : Type 0} (P : Type 0) (result : Result T Fault) → P → OnOk result P
on-ok P (Ok x) p = p
on-ok P (Err fault) p = tt

module _ (front : List Action) (bound : Bound) (recording played : Option (List ℕ)) (found : List ℕ)
    (summary : Rules → List Input → List Action) (r : Rules) (firsts : AreAmong AnyName NoCall ⊥ front)
    (lasts : (taken : List Input) → AreAmong NoName NoCall (Unit {0}) (summary r taken)) where
  abbrev acts : List Arrival → List Action
  acts given = run_actions front bound recording played found summary r given

  abbrev run : List Arrival → List Action
  run given = node_plan recording played found r given

  abbrev behind : List Arrival → List Action
  behind given = run given ++ at_end summary r given

  -- what is printed at the end writes no file and makes no call of the link
  end-kinds : (given : List Arrival) → AreAmong NoName NoCall (Unit {0}) (at_end summary r given)
  end-kinds given = by_test (is_ended r given)
    where
      by_test : (b : Bool) → AreAmong NoName NoCall (Unit {0}) (if b then summary r (taken_of r given) else [])
      by_test true = lasts (taken_of r given)
      by_test false = tt

  module _ (files : Disk) (out : Stream) (wire : Wire) where
    -- the command was stopped before the binding
    pub before-binding : {S T : Type 0} (mid : Disk) (fault : Fault) → AtFiles {T = S} front files mid (Err fault) →
        RunFollows {T = T} acts r (outside files out wire) (outside mid out wire) (Err fault)
    before-binding mid fault first = record {
      given = [];
      heard = heard-nothing (outside files out wire) (outside mid out wire) refl;
      follows = stopped front (link (bind bound) ∷ behind []) _ _ fault (handed front _ _ fault (first (outside files out wire)));
      reached =
          reached-longer front (link (bind bound) ∷ behind []) [] _ _
          (reached-uncalled AnyName ⊥ front _ _ (Err fault) firsts (first (outside files out wire)));
      asked = (given-none r).asked;
      ended = tt;
    }

    module _ {S : Type 0} (mid : Disk) (x : S) (first : AtFiles front files mid (Ok x)) where
      abbrev at_first : Follows front (outside files out wire) (outside mid out wire) (Ok x)
      at_first = first (outside files out wire)

      -- what was reached after the actions on the files
      reached-first : (given : List Arrival) (new : Outside) → HasReached (link (bind bound) ∷ behind given) given (outside mid out wire) new →
          HasReached (acts given) given (outside files out wire) new
      reached-first given new rest =
          reached-behind front (link (bind bound) ∷ behind given) [] given _ _ _ at_first.later at_first.done
          (among-unreceived AnyName ⊥ front firsts) rest

      -- the command was stopped at the binding
      pub at-binding : {U T : Type 0} (wire_new : Wire) (fault : Fault) →
          AtLink {T = U} (link (bind bound) ∷ []) wire wire_new (Err fault) →
          RunFollows {T = T} acts r (outside files out wire) (outside mid out wire_new) (Err fault)
      at-binding wire_new fault second =
          let failed = second (outside mid out wire) in
          record {
            given = [];
            heard =
                heard-nothing (outside files out wire) (outside mid out wire_new)
                (unbound-taken bound (outside mid out wire) (outside mid out wire_new) fault failed);
            follows =
                followed front (link (bind bound) ∷ behind []) _ _ _ x at_first (Err fault)
                (stopped (link (bind bound) ∷ []) (behind []) _ _ fault (handed _ _ _ fault failed));
            reached =
                reached-first [] (outside mid out wire_new)
                (reached-longer (link (bind bound) ∷ []) (behind []) [] _ _
                (record {
                  done = failed.part.done;
                  begun = failed.part.begun;
                  received = binding-received bound failed.part.done failed.part.begun;
                  ran = failed.part.ran;
                }));
            asked = (given-none r).asked;
            ended = tt;
          }

      module _ {U : Type 0} (late : Wire) (y : U) (second : AtLink (link (bind bound) ∷ []) wire late (Ok y)) (now : List Input → Type 0)
          (files_new : Disk) (wire_new : Wire) where
        abbrev at_second : Follows (link (bind bound) ∷ []) (outside mid out wire) (outside mid out late) (Ok y)
        at_second = second (outside mid out wire)

        -- what was reached after the binding
        reached-second : (given : List Arrival) (new : Outside) → HasReached (behind given) given (outside mid out late) new →
            HasReached (acts given) given (outside files out wire) new
        reached-second given new rest =
            reached-first given new
            (reached-behind (link (bind bound) ∷ []) (behind given) [] given _ _ _ at_second.later at_second.done refl rest)

        heard-by : (given : List Arrival) (out_new : Stream) → AllByRecursion IsInRange (inputs_of given) →
            wire_new.traffic.taken ≡ late.traffic.taken ++ heard given →
            wire_new.traffic.ended ≡ (late.traffic.ended || has_end given) →
            HasHeard given (outside files out wire) (outside files_new out_new wire_new)
        heard-by given out_new within taken told_end = record {
          taken =
              taken
              ∙ ap (λ xs. xs ++ heard given) (bound-taken bound (outside mid out wire) (outside mid out late) y at_second);
          told_end = λ ended.
              told_end ∙ or_right late.traffic.ended (has_end given) ended;
          within = within;
        }

        -- the command was stopped during the run
        pub in-run : {T : Type 0} (fault : Fault) → RanNode recording played found r now mid files_new late wire_new (Err fault) →
            RunFollows {T = T} acts r (outside files out wire) (outside files_new out wire_new) (Err fault)
        in-run fault ran = record {
          given = ran.given;
          heard = heard-by ran.given out ran.is_given.within ran.taken ran.told_end;
          follows =
              followed front (link (bind bound) ∷ behind ran.given) _ _ _ x at_first (Err fault)
              (followed (link (bind bound) ∷ []) (behind ran.given) _ _ _ y at_second (Err fault)
              (stopped (run ran.given) (at_end summary r ran.given) _ _ fault (handed _ _ _ fault (ran.follows (outside mid out late)))));
          reached =
              let d = ran.did in
              reached-second ran.given (outside files_new out wire_new)
              (reached-longer (run ran.given) (at_end summary r ran.given) ran.given _ _
              (record { done = d.done; begun = d.begun; received = d.received; ran = d.ran (outside mid out late) }));
          asked = ran.is_given.asked;
          ended = tt;
        }

        -- after the run, by equal rules
        pub behind-run : {T : Type 0} (s : Summary) (ran : RanNode recording played found r now mid files_new late wire_new (Ok s))
            (out_new : Stream) (result : Result T Fault) (same : Rules) → same ≡ r →
            AtOutput (summary same (taken_of r ran.given)) out out_new result →
            RunFollows {T = T} acts r (outside files out wire) (outside files_new out_new wire_new) result
        behind-run s ran out_new result same e third =
            let ran_all = ran.follows (outside mid out late) in
            let shown_all =
            at-end summary r ran.given _ _ result ran.ended
            (subst (λ x. AtOutput (summary x (taken_of r ran.given)) out out_new result) e third (outside files_new out wire_new)) in
            record {
              given = ran.given;
              heard = heard-by ran.given out_new ran.is_given.within ran.taken ran.told_end;
              follows =
                  followed front (link (bind bound) ∷ behind ran.given) _ _ _ x at_first result
                  (followed (link (bind bound) ∷ []) (behind ran.given) _ _ _ y at_second result
                  (followed (run ran.given) (at_end summary r ran.given) _ _ _ s ran_all result shown_all));
              reached =
                  reached-second ran.given (outside files_new out_new wire_new)
                  (subst (λ xs. HasReached (behind ran.given) xs (outside mid out late) (outside files_new out_new wire_new))
                  (append-nil ran.given)
                  (reached-behind (run ran.given) (at_end summary r ran.given) ran.given [] _ _ _ ran_all.later ran_all.done
                  (received-run recording played found r ran.given)
                  (reached-uncalled NoName (Unit {0}) (at_end summary r ran.given) _ _ result (end-kinds ran.given) shown_all)));
              asked = ran.is_given.asked;
              ended = on-ok _ result ran.ended;
            }

-- How much of some actions was done, and what was received.
use Rattle.std.proofs.Common.{◌≡◌, ℕ, List, [], ◌∷◌, ◌++◌, Result, Ok, Err, refl, sym, ap, ◌∙◌, subst, inl, inr}
use Rattle.std.proofs.lemmas.Grind.{flat_map-append}
use Rattle.bar_outside.specs.Wire.{Arrival}
use Rattle.bar_outside.specs.Disk.{Content}
use Rattle.bar_outside.specs.Plan.{Action, Begun, Outside, Plan, Ran, Reached, read_then}
use Rattle.bar_outside.specs.Plan.Action.{append, create, link, read, show}
use Rattle.bar_outside.specs.Code.Follows.{Follows, IsLater}
use Rattle.bar_outside.specs.Stages.{Stages, ComesTo, plan_by}
use Rattle.bar_outside.specs.Stages.Stages.{does, reads}
use Rattle.bar_outside.specs.declared.fault.Fault.{Fault}
use Rattle.bar_outside.proofs.ActionLists.{Begun-behind, Begun-first, Begun-longer, Begun-nothing, Begun-whole, Ran-append, no-part-read}
use Rattle.bar_outside.proofs.Unlinked.{IsUnlinked}
use Rattle.bar_node.specs.Code.Effects.{received_by, received_in}
use Rattle.bar_node.proofs.ActionKinds.{AreAmong, NoCall, among-begun, among-unreceived}
use Rattle.bar_party_commands.specs.Running.{HasReached}

-- any file
abbrev pub AnyName : List ℕ → Type 0
AnyName path = Unit {0}

-- what was done of actions that were followed
so-far : {T : Type 0} (plan : List Action) (old new : Outside) (result : Result T Fault) → Follows plan old new result →
    (done : List Action) × Begun plan done × Ran done old new
so-far plan old new (Ok x) f = (plan, Begun-whole plan, f.done)
so-far plan old new (Err fault) f = (f.part.done, f.part.begun, f.part.ran)

-- nothing was done
pub nothing-reached : (plan : List Action) (old new : Outside) → Ran [] old new → HasReached plan [] old new
nothing-reached plan old new ran = record { done = []; begun = Begun-nothing plan; received = refl; ran = ran }

-- no action calls the link, so nothing was received
pub reached-uncalled : {T : Type 0} (P : List ℕ → Type 0) (S : Type 0) (plan : List Action) (old new : Outside) (result : Result T Fault) →
    AreAmong P NoCall S plan → Follows plan old new result → HasReached plan [] old new
reached-uncalled P S plan old new result kinds f =
    let d = so-far plan old new result f in
    record {
      done = d.0;
      begun = d.1;
      received = among-unreceived P S d.0 (among-begun P NoCall S plan d.0 d.1 kinds);
      ran = d.2;
    }

-- actions without a call of the link only read or write files, or print
kinds-unlinked : (acts : List Action) → IsUnlinked acts → AreAmong AnyName NoCall (Unit {0}) acts
kinds-unlinked [] h = tt
kinds-unlinked (read path ∷ others) h = (tt, kinds-unlinked others h)
kinds-unlinked (create path ∷ others) h = (tt, kinds-unlinked others h)
kinds-unlinked (append path bytes ∷ others) h = (tt, kinds-unlinked others h)
kinds-unlinked (show bytes ∷ others) h = (tt, kinds-unlinked others h)
kinds-unlinked (link call ∷ others) h = absurd h

pub reached-unlinked : (plan : List Action) (status : ℕ) (old new : Outside) → IsUnlinked plan → Reached plan status old new →
    HasReached plan [] old new
reached-unlinked plan status old new unlinked r = record {
  done = r.done;
  begun = r.begun;
  received =
      among-unreceived AnyName (Unit {0}) r.done
      (among-begun AnyName NoCall (Unit {0}) plan r.done r.begun (kinds-unlinked plan unlinked));
  ran = r.ran;
}

pub reached-behind : (front plan : List Action) (before after : List Arrival) (old mid new : Outside) → IsLater old mid →
    Ran front old mid → received_in front ≡ before → HasReached plan after mid new → HasReached (front ++ plan) (before ++ after) old new
reached-behind front plan before after old mid new later first is r = record {
  done = front ++ r.done;
  begun = Begun-behind front plan r.done r.begun;
  received =
      flat_map-append received_by front r.done ∙ ap (λ xs. xs ++ received_in r.done) is ∙ ap (λ xs. before ++ xs) r.received;
  ran = Ran-append front r.done old mid new later first r.ran;
}

pub reached-longer : (plan more : List Action) (given : List Arrival) (old new : Outside) → HasReached plan given old new →
    HasReached (plan ++ more) given old new
reached-longer plan more given old new r = record {
  done = r.done;
  begun = Begun-longer plan more r.done r.begun;
  received = r.received;
  ran = r.ran;
}

-- a read receives nothing, and changes nothing
same-ran : (path : List ℕ) (done : List Action) (old new : Outside) → Ran (read path ∷ done) old new → Ran done old new
same-ran path done old new ran = record { files = ran.files; out = ran.out; wire = ran.wire }

behind-read : (path : List ℕ) (actions : List Action) (given : List Arrival) (old new : Outside) →
    HasReached (read path ∷ actions) given old new → HasReached actions given old new
behind-read path actions given old new r =
    elim (Begun-first (read path) actions r.done r.begun) [
      | inl e ↦
          record {
            done = [];
            begun = Begun-nothing actions;
            received = sym (ap received_in e.0) ∙ r.received;
            ran = subst (λ acts. Ran acts old new) e.0 r.ran;
          }
      | inr two ↦ elim two [
        | inl part ↦ absurd (no-part-read part.0 path part.2)
        | inr n ↦
            record {
              done = n.0;
              begun = n.2;
              received = sym (ap received_in n.1) ∙ r.received;
              ran = same-ran path n.0 old new (subst (λ acts. Ran acts old new) n.1 r.ran);
            }
      ]
    ]

-- the end to which the stages lead was done just as far
pub reached-end : (stages : Stages) (content : Content) (end : Plan) (given : List Arrival) (old new : Outside) →
    ComesTo stages content end → HasReached (plan_by stages content).actions given old new → HasReached end.actions given old new
reached-end (does last) content end given old new c r = subst (λ (p : Plan). HasReached p.actions given old new) c r
reached-end (reads path others) content end given old new c r =
    reached-end (others c.0) content end given old new c.2
    (behind-read path (plan_by (others c.0) content).actions given old new
    (subst (λ o. HasReached (read_then path (λ bytes. plan_by (others bytes)) content o).actions given old new) c.1 r))

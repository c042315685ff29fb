-- Commands that bind a link, run over it and print: which part of their actions was done.
use Rattle.std.proofs.Common.{◌≡◌, ◌⊎◌, ℕ, List, [], ◌∷◌, ◌++◌, Some, refl, sym, ap, ◌∙◌, subst, inl, inr, append-nil, IsTrue, true≢false}
use Rattle.std.proofs.lemmas.Grind.{flat_map-append}
use Rattle.bar_outside.specs.Disk.{Content}
use Rattle.bar_outside.specs.Wire.{Bound, Traffic, bound_to}
use Rattle.bar_outside.specs.Plan.{Action, Begun, Outside, Ran, Touches, content_after, created_after, outside, shown, traffic_after}
use Rattle.bar_outside.specs.Plan.Action.{link}
use Rattle.bar_outside.specs.Plan.LinkCall.{bind}
use Rattle.bar_outside.proofs.ActionLists.{Begun-both, Begun-first, Begun-nothing, Begun-whole, content_after-append, shown-append, traffic_after-append}
use Rattle.bar_outside.proofs.Untouched.{Touches-split, content-untouched}
use Rattle.bar_node.specs.Code.Effects.{received_by, received_in}
use Rattle.bar_node.specs.Runs.{has_end}
use Rattle.bar_party_commands.specs.Stands.{IsBegun, IsFrontPrinted}
use Rattle.bar_node.proofs.ActionKinds.{AreAmong, IsUnbinding, NoCall, NoName, among-begun, among-bound, among-ended, among-silent, among-touches, among-unlinked, among-unreceived, among-unwritten, shown-front}
use Rattle.bar_node.proofs.Cutting.{no-part-link}

-- some actions before the link is bound, the binding, a run over the link, and what is printed at the end
abbrev pub binding_plan : List Action → Bound → List Action → List Action → List Action
binding_plan first to run last = first ++ (link (bind to) ∷ (run ++ last))

-- The link was bound, and the following actions were done in part.
pub record IsBehind (first : List Action) (to : Bound) (run last done : List Action) : Type 0 where
  pub more : List Action
  pub prints : List Action
  pub is : done ≡ first ++ (link (bind to) ∷ (more ++ prints))
  pub run_begun : Begun run more
  pub last_begun : Begun last prints

-- ---- which part of them was done

module _ (first : List Action) (to : Bound) (run last : List Action) where
  -- everything
  abbrev pub all-behind : IsBehind first to run last (binding_plan first to run last)
  all-behind = record { more = run; prints = last; is = refl; run_begun = Begun-whole run; last_begun = Begun-whole last }

  begun-behind : (done more : List Action) → done ≡ first ++ (link (bind to) ∷ more) → Begun (run ++ last) more →
      IsBehind first to run last done
  begun-behind done more is b =
      elim (Begun-both run last more b) [
        | inl m ↦
            record {
              more = more;
              prints = [];
              is = is ∙ ap (λ xs. first ++ (link (bind to) ∷ xs)) (sym (append-nil more));
              run_begun = m.2;
              last_begun = Begun-nothing last;
            }
        | inr m ↦
            record {
              more = run;
              prints = m.0;
              is = is ∙ ap (λ xs. first ++ (link (bind to) ∷ xs)) m.1;
              run_begun = Begun-whole run;
              last_begun = m.2;
            }
      ]

  -- a part of the actions before the binding, or a part of those after it
  pub split-binding : (done : List Action) → Begun (binding_plan first to run last) done →
      Begun first done ⊎ IsBehind first to run last done
  split-binding done b =
      elim (Begun-both first (link (bind to) ∷ (run ++ last)) done b) [
        | inl m ↦ inl m.2
        | inr m ↦ elim (Begun-first (link (bind to)) (run ++ last) m.0 m.2) [
          | inl e ↦ inl (subst (Begun first) (sym (m.1 ∙ ap (λ xs. first ++ xs) e.0 ∙ append-nil first)) (Begun-whole first))
          | inr two ↦ elim two [
            | inl part ↦ absurd (no-part-link part.0 (bind to) part.2)
            | inr n ↦ inr (begun-behind done n.0 (m.1 ∙ ap (λ xs. first ++ xs) n.1) n.2)
          ]
        ]
      ]

-- ---- what then holds

-- The first actions write files with names in P, the run writes files with names in Q and binds no link, and the last actions print.
pub record AreOfKinds (P Q : List ℕ → Type 0) (first run last : List Action) : Type 0 where
  pub firsts : AreAmong P NoCall ⊥ first
  pub runs : AreAmong Q IsUnbinding ⊥ run
  pub lasts : AreAmong NoName NoCall (Unit {0}) last

-- the outside when the link was bound, with the final output
abbrev pub outside-at : List Action → Bound → Outside → Outside → Outside
outside-at first to old new =
    outside
    (record {
      told = old.files.told;
      reliable = old.files.reliable;
      content = content_after first old.files.content;
      created_here = created_after first old.files.created_here;
      failed = old.files.failed;
      faults = old.files.faults;
    })
    new.out
    (record {
      reliable = old.wire.reliable;
      traffic = bound_to to old.wire.traffic;
      faults = old.wire.faults;
    })

module _ {P Q : List ℕ → Type 0} {first run last : List Action} (kinds : AreOfKinds P Q first run last) where
  -- the files that they touch
  pub touched-binding : (to : Bound) (path : List ℕ) → Touches (binding_plan first to run last) path → P path ⊎ Q path
  touched-binding to path t =
      elim (Touches-split first (link (bind to) ∷ (run ++ last)) path t) [
        | inl a ↦ inl (among-touches P NoCall ⊥ first path kinds.firsts a)
        | inr more ↦ elim (Touches-split run last path more) [
          | inl b ↦ inr (among-touches Q IsUnbinding ⊥ run path kinds.runs b)
          | inr c ↦ absurd (among-touches NoName NoCall (Unit {0}) last path kinds.lasts c)
        ]
      ]

  module _ {done : List Action} {old new : Outside} (ran : Ran done old new) where
    -- before the binding
    pub begun-first : Begun first done → IsBegun first old new
    begun-first b =
        let of_kinds = among-begun P NoCall ⊥ first done b kinds.firsts in
        record {
          done = done;
          begun = b;
          ran = ran;
          out =
              ran.out ∙ ap (λ bytes. old.out.bytes ++ bytes) (among-silent P NoCall done of_kinds) ∙ append-nil old.out.bytes;
          wire = ran.wire ∙ among-unlinked P ⊥ done old.wire.traffic of_kinds;
        }

    -- after it
    module _ {to : Bound} (b : IsBehind first to run last done) where
      more-kinds : AreAmong Q IsUnbinding ⊥ b.more
      more-kinds = among-begun Q IsUnbinding ⊥ run b.more b.run_begun kinds.runs

      print-kinds : AreAmong NoName NoCall (Unit {0}) b.prints
      print-kinds = among-begun NoName NoCall (Unit {0}) last b.prints b.last_begun kinds.lasts

      -- the binding, and what was done after it
      abbrev rest : List Action
      rest = link (bind to) ∷ (b.more ++ b.prints)

      -- the run was done up to this point, starting from the files when the link was bound, and from a bound link

      content-behind : new.files.content ≡ content_after b.more (content_after first old.files.content)
      content-behind =
          let start : Content = content_after first old.files.content in
          ran.files
          ∙ ap (λ xs. content_after xs old.files.content) b.is
          ∙ content_after-append first rest old.files.content
          ∙ content_after-append b.more b.prints start
          ∙ among-unwritten NoCall (Unit {0}) b.prints (content_after b.more start) print-kinds

      traffic-behind : new.wire.traffic ≡ traffic_after b.more (bound_to to old.wire.traffic)
      traffic-behind =
          ran.wire
          ∙ ap (λ xs. traffic_after xs old.wire.traffic) b.is
          ∙ traffic_after-append first rest old.wire.traffic
          ∙ ap (traffic_after rest) (among-unlinked P ⊥ first old.wire.traffic kinds.firsts)
          ∙ traffic_after-append b.more b.prints (bound_to to old.wire.traffic)
          ∙ among-unlinked NoName (Unit {0}) b.prints (traffic_after b.more (bound_to to old.wire.traffic)) print-kinds

      pub ran-behind : Ran b.more (outside-at first to old new) new
      ran-behind = record {
        files = content-behind;
        out =
            sym (ap (λ bytes. new.out.bytes ++ bytes) (among-silent Q IsUnbinding b.more more-kinds) ∙ append-nil new.out.bytes);
        wire = traffic-behind;
      }

      pub bound-behind : new.wire.traffic.bound ≡ Some to
      bound-behind =
          ap (λ (t : Traffic). t.bound) traffic-behind ∙ among-bound Q ⊥ b.more (bound_to to old.wire.traffic) more-kinds

      -- what was received was received by the run, and the link reports its end if and only if it was received

      pub received-behind : received_in b.more ≡ received_in done
      received-behind =
          sym (ap received_in b.is
          ∙ flat_map-append received_by first rest
          ∙ ap (λ xs. xs ++ received_in rest) (among-unreceived P ⊥ first kinds.firsts)
          ∙ flat_map-append received_by b.more b.prints
          ∙ ap (λ xs. received_in b.more ++ xs) (among-unreceived NoName (Unit {0}) b.prints print-kinds)
          ∙ append-nil (received_in b.more))

      pub ended-behind : new.wire.traffic.ended ≡ has_end (received_in b.more)
      ended-behind =
          ap (λ (t : Traffic). t.ended) traffic-behind ∙ among-ended Q ⊥ b.more (bound_to to old.wire.traffic) more-kinds

      -- a file that the run doesn't write is the same as when the link was bound
      pub kept-behind : (path : List ℕ) → (Q path → ⊥) →
          new.files.content path ≡ content_after first old.files.content path
      kept-behind path none =
          ap (λ (holds : Content). holds path) content-behind
          ∙ content-untouched b.more (content_after first old.files.content) path
          (λ t. none (among-touches Q IsUnbinding ⊥ b.more path more-kinds t))

      -- only the last actions print
      pub printed-behind : new.out.bytes ≡ old.out.bytes ++ shown b.prints
      printed-behind =
          ran.out
          ∙ ap (λ bytes. old.out.bytes ++ bytes)
          (ap shown b.is ∙ shown-append first rest
          ∙ ap (λ bytes. bytes ++ shown (b.more ++ b.prints)) (among-silent P NoCall first kinds.firsts)
          ∙ shown-append b.more b.prints
          ∙ ap (λ bytes. bytes ++ shown b.prints) (among-silent Q IsUnbinding b.more more-kinds))

      pub front-behind : IsFrontPrinted last old new
      front-behind =
          let n = shown-front last b.prints b.last_begun in (n.0, printed-behind ∙ ap (λ bytes. old.out.bytes ++ bytes) n.1)

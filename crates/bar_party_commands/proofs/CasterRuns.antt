-- What a broadcaster did that completed or was stopped.
use Rattle.std.proofs.Common.{◌≡◌, ◌≢◌, ℕ, List, ◌++◌, [], cond, Option, None, refl, ap, ◌∙◌, inl, inr, IsTrue, arith}
use Rattle.bar_outside.specs.Wire.{Arrival}
use Rattle.bar_outside.specs.Plan.{Action, Outside, Ran, Touches, shown}
use Rattle.bar_outside.proofs.Untouched.{content-untouched}
use Rattle.bar_seeds.specs.declared.secrets.Secrets.{Secrets}
use Rattle.bar_session.specs.SessionData.{SessionData}
use Rattle.bar_core.specs.Rules.{Rules}
use Rattle.bar_rules.specs.Members.{member_by}
use Rattle.bar_caster.specs.Code.Runs.{RulesSend}
use Rattle.bar_record.specs.Pacing.{IsFew}
use Rattle.bar_node.specs.Code.Effects.{received_in}
use Rattle.bar_node.specs.Runs.{IsGiven, has_end, inputs_of, is_ended, node_plan, taken_of}
use Rattle.bar_node.specs.Stops.{HasRun, StoppedSending}
use Rattle.bar_node.proofs.Doing.{received-run}
use Rattle.bar_party_commands.specs.CasterPlan.{CasterAccepted, CasterNames, caster_plan, rules_by}
use Rattle.bar_party_commands.specs.CasterStands.{CasterDone, CasterStands}
use Rattle.bar_party_commands.specs.Running.{AsksNoFurther, HasHeard, HasReached, place_of, spending}
use Rattle.bar_party_commands.specs.Summaries.{caster_summary}
use Rattle.bar_session_files.proofs.Accepted.{AreHeld, AreInRange, few-peers}
use Rattle.bar_party_commands.proofs.CasterBound.{IsCasterBehind, all-caster, is-bound, is-of, split-caster}
use Rattle.bar_party_commands.proofs.CasterRows.{Outcome, accepted-asked, accepted-reached, accepted-zero, caster-kinds}
use Rattle.bar_party_commands.proofs.Endings.{as-untouched, ended-at}
use Rattle.bar_party_commands.proofs.Printed.{front-at_end}
use Rattle.bar_party_commands.proofs.RunLaws.{Finds, WholeSent, found-at, others-at}
use Rattle.bar_party_commands.proofs.RunSplits.{begun-first, ended-behind, front-behind, outside-at, printed-behind, ran-behind, received-behind}

-- spending the key changes no other file
unspent : (key : List ℕ) (s : SessionData) (k : Secrets) (path : List ℕ) → path ≢ key → Touches (spending key s k) path → ⊥
unspent key s k path not_key (inl e) = not_key e
unspent key s k path not_key (inr (inl e)) = not_key e
unspent key s k path not_key (inr (inr none)) = none

-- a property of every run that was done in part
abbrev pub PartSent : Type 0
PartSent =
    (recording played : Option (List ℕ)) (found : List ℕ) (r : Rules) (given : List Arrival) (old new : Outside) →
    HasRun recording played found r given old new → StoppedSending r given old.wire new.wire

module _ (held : AreHeld) (few : IsFew) (names : CasterNames) (given : List Arrival) (old new : Outside) (heard : HasHeard given old new)
    (told : IsTrue new.files.told) (reached : HasReached (caster_plan names given old.files.content).actions given old new)
    (asked : AsksNoFurther (λ front. caster_plan names front old.files.content) given) where
  -- the outside when the link was bound
  abbrev bound : SessionData → Secrets → Outside
  bound s k = outside-at (spending names.key s k) (place_of names.begin_ms s k) old new

  module _ (s : SessionData) (k : Secrets) (stream : List ℕ) where
    abbrev r : Rules
    r = rules_by s k stream

    is-given : CasterAccepted names old.files.content s k stream → IsGiven r given
    is-given accepted = record {
      within = heard.within;
      asked = accepted-asked names given old.files.content s k stream accepted asked;
      few = few r.last (inputs_of given);
    }

    -- stopped after the binding
    module _ {done : List Action} (ran : Ran done old new) (received : received_in done ≡ given)
        (b : IsCasterBehind names s k stream given done) where
      received-more : received_in b.more ≡ given
      received-more = received-behind (caster-kinds names s k stream given) ran b ∙ received

      told-end : new.wire.traffic.ended ≡ has_end given
      told-end = ended-behind (caster-kinds names s k stream given) ran b ∙ ap has_end received-more

      part-sent : PartSent → StoppedSending r given old.wire new.wire
      part-sent sent =
          let has : HasRun None None names.found r given (bound s k) new =
          record {
            done = b.more;
            begun = b.run_begun;
            received = received-more;
            ran = ran-behind (caster-kinds names s k stream given) ran b;
          } in
          let p = sent None None names.found r given (bound s k) new has in
          record { cut = p.cut; sent = p.sent; front = p.front; is = p.is }

  -- at every status
  pub caster-stands : PartSent → (status : ℕ) → Outcome names given old new status → CasterStands names old new
  caster-stands sent status (inl stayed) = inl (as-untouched status old new stayed.0)
  caster-stands sent status (inr b) =
      let s : SessionData = b.0.session in
      let k : Secrets = b.0.secrets in
      let stream : List ℕ = b.0.stream in
      let kinds = caster-kinds names s k stream given in
      let d = accepted-reached names given s k stream old new b.0.accepted reached in
      let of = is-of held names old.files.content s k stream b.0.accepted in
      elim (split-caster names s k stream given d.begun) [
        | inl front ↦
            inr (inl (record { session = s; secrets = k; stream = stream; is_of = of; begun = begun-first kinds d.ran front }))
        | inr behind ↦
            inr (inr (record {
              session = s;
              secrets = k;
              stream = stream;
              is_of = of;
              bound = is-bound names s k stream given d.ran told behind;
              given = given;
              is_given = is-given s k stream b.0.accepted;
              taken = heard.taken;
              told_end = told-end s k stream d.ran d.received behind;
              run = part-sent s k stream d.ran d.received behind sent;
              printed = front-at_end caster_summary (rules_by s k stream) given old new (front-behind kinds d.ran behind);
            }))
      ]

  -- at 0 everything was done
  pub caster-done : AreInRange → RulesSend → WholeSent → Finds → Outcome names given old new 0 → CasterDone names old new
  caster-done ranged sends all_sent finds o =
      let b = accepted-zero names given old new o in
      let s : SessionData = b.0.session in
      let k : Secrets = b.0.secrets in
      let stream : List ℕ = b.0.stream in
      let kinds = caster-kinds names s k stream given in
      let c = b.1.carried refl in
      let all = all-caster names s k stream given in
      let whole : Ran (node_plan None None names.found (r s k stream) given) (bound s k) new = ran-behind kinds c.ran all in
      let ended : IsTrue (is_ended (r s k stream) given) = ended-at (is_ended (r s k stream) given) 0 (λ e. absurd (omega arith)) c.is in
      let few_others = few-peers ranged names.session old.files.content s b.0.accepted.in_session in
      record {
        session = s;
        secrets = k;
        stream = stream;
        is_of = is-of held names old.files.content s k stream b.0.accepted;
        bound = is-bound names s k stream given c.ran told all;
        given = given;
        is_given = is-given s k stream b.0.accepted;
        taken = heard.taken;
        told_end = ended-behind kinds c.ran all ∙ ap has_end (received-run None None names.found (r s k stream) given);
        ended = ended;
        sent =
            all_sent None None names.found (r s k stream) given (bound s k) new whole
            ∙ ap (λ xs. old.wire.traffic.sent ++ xs) (sends (member_by s k) stream (taken_of (r s k stream) given));
        found = found-at finds None None names.found (r s k stream) given (bound s k) new whole ended few_others;
        others = λ path not_key not_found.
            others-at finds None None names.found (r s k stream) given (bound s k) new whole ended few_others path
            (record { not_recording = tt; not_played = tt; not_found = not_found })
            ∙ content-untouched (spending names.key s k) old.files.content path (unspent names.key s k path not_key);
        printed =
            printed-behind kinds c.ran all
            ∙ ap (λ b. old.out.bytes ++ shown (cond b (caster_summary (r s k stream) (taken_of (r s k stream) given)) [])) ended;
      }

-- What a peer did that completed or was stopped.
use Rattle.std.proofs.Common.{◌≡◌, ◌≢◌, ◌<◌, ◌^◌, ℕ, List, [], ◌++◌, cond, Some, refl, ap, ◌∙◌, inl, inr, IsTrue, arith}
use Rattle.bar_outside.specs.Wire.{Arrival}
use Rattle.bar_outside.specs.Plan.{Action, Outside, Ran, Touches, shown}
use Rattle.bar_outside.proofs.Untouched.{content-untouched}
use Rattle.bar_seeds.specs.declared.secrets.Secrets.{Secrets}
use Rattle.bar_session.specs.SessionData.{SessionData}
use Rattle.bar_record.specs.Recording.{head_bytes}
use Rattle.bar_wire.specs.Inputs.{Input}
use Rattle.bar_core.specs.Rules.{Rules}
use Rattle.bar_rules.specs.Member.{Member}
use Rattle.bar_rules.specs.Members.{member_by}
use Rattle.bar_peer.specs.Code.Runs.{RulesPlay, RulesSend}
use Rattle.bar_record.specs.Pacing.{IsFew}
use Rattle.bar_node.specs.Code.Effects.{received_in}
use Rattle.bar_node.specs.Runs.{IsGiven, has_end, inputs_of, is_ended, node_plan, taken_of}
use Rattle.bar_node.specs.Stops.{AreApart, DonePeer, HasRun as HasRunSoFar, StoppedPeer}
use Rattle.bar_node.proofs.Doing.{received-run}
use Rattle.bar_party_commands.specs.PeerPlan.{PeerAccepted, PeerNames, before_binding, peer_actions, peer_plan, rules_by}
use Rattle.bar_party_commands.specs.PeerStands.{HasOwnNames, HasRun, HasStopped, PeerDone, PeerStands}
use Rattle.bar_party_commands.specs.Running.{AsksNoFurther, HasHeard, HasReached, place_of}
use Rattle.bar_party_commands.specs.Stands.{IsFrontPrinted}
use Rattle.bar_party_commands.specs.Summaries.{peer_summary}
use Rattle.bar_session_files.proofs.Accepted.{AreHeld, AreInRange, few-peers}
use Rattle.bar_party_commands.proofs.Endings.{as-untouched, ended-at}
use Rattle.bar_party_commands.proofs.PeerBound.{IsPeerBehind, all-peer, is-bound, is-of, played-at, recorded-at, split-peer}
use Rattle.bar_party_commands.proofs.PeerRows.{Outcome, accepted-asked, accepted-reached, accepted-zero, peer-kinds}
use Rattle.bar_party_commands.proofs.Printed.{front-at_end}
use Rattle.bar_party_commands.proofs.RunLaws.{Finds, WholeSent, found-at, others-at}
use Rattle.bar_party_commands.proofs.RunSplits.{begun-first, ended-behind, front-behind, outside-at, printed-behind, ran-behind, received-behind}

-- no other file is written before the binding
unbegun : (names : PeerNames) (s : SessionData) (k : Secrets) (path : List ℕ) → path ≢ names.key → path ≢ names.played → path ≢ names.recording →
    Touches (before_binding names s k) path → ⊥
unbegun names s k path not_key not_played not_recording (inl e) = not_key e
unbegun names s k path not_key not_played not_recording (inr (inl e)) = not_key e
unbegun names s k path not_key not_played not_recording (inr (inr (inl e))) = not_played e
unbegun names s k path not_key not_played not_recording (inr (inr (inr (inl e)))) = not_recording e
unbegun names s k path not_key not_played not_recording (inr (inr (inr (inr (inl e))))) = not_recording e
unbegun names s k path not_key not_played not_recording (inr (inr (inr (inr (inr none))))) = none

-- properties of every peer's run, done in part or in whole

abbrev pub PeerPartKept : Type 0
PeerPartKept =
    (recording played found : List ℕ) (r : Rules) (given : List Arrival) (old new : Outside) →
    HasRunSoFar (Some recording) (Some played) found r given old new →
    StoppedPeer recording played found r given old.files new.files old.wire new.wire

abbrev pub WholePeerKept : Type 0
WholePeerKept =
    (recording played found : List ℕ) (r : Rules) (given : List Arrival) (old new : Outside) →
    Ran (node_plan (Some recording) (Some played) found r given) old new → IsTrue (is_ended r given) → AreApart recording played found →
    DonePeer recording played r given old.files new.files old.wire new.wire

module _ (names : PeerNames) (s : SessionData) (k : Secrets) (given : List Arrival) (old new : Outside) (told : IsTrue new.files.told) where
  abbrev r : Rules
  r = rules_by s k

  abbrev head : List ℕ
  head = head_bytes s.shape.id k.party

  -- the outside when the link was bound
  abbrev bound : Outside
  bound = outside-at (before_binding names s k) (place_of names.begin_ms s k) old new

  -- ---- stopped after the binding

  module _ {done : List Action} (ran : Ran done old new) (received : received_in done ≡ given) (b : IsPeerBehind names s k given done) where
    -- a prefix of the summary is printed, if the run is at its end
    printed-front : IsFrontPrinted (peer_summary r (taken_of r given)) old new
    printed-front = front-at_end peer_summary r given old new (front-behind (peer-kinds names s k given) ran b)

    received-more : received_in b.more ≡ given
    received-more = received-behind (peer-kinds names s k given) ran b ∙ received

    has-run : HasRunSoFar (Some names.recording) (Some names.played) names.found r given bound new
    has-run = record {
      done = b.more;
      begun = b.run_begun;
      received = received-more;
      ran = ran-behind (peer-kinds names s k given) ran b;
    }

    told-end : new.wire.traffic.ended ≡ has_end given
    told-end = ended-behind (peer-kinds names s k given) ran b ∙ ap has_end received-more

    has-stopped : PeerPartKept → HasStopped names s k given old new
    has-stopped keeps =
        let p = keeps names.recording names.played names.found r given bound new has-run in
        record {
          cut = p.cut;
          sent = p.sent;
          bytes = p.bytes;
          entries = p.entries;
          sent_front = p.sent_front;
          bytes_front = p.bytes_front;
          entries_front = p.entries_front;
          sent_is = p.sent_is;
          played_is = λ own. p.played_is own.apart [] (played-at names own s k old.files.content);
          recorded_is = λ own. p.recorded_is own.apart head (recorded-at names own s k old.files.content);
        }

  -- ---- completed

  module _ (sends : RulesSend) (plays : RulesPlay) (keeps : WholePeerKept) (all_sent : WholeSent) (finds : Finds) (few : r.peers < 2 ^ 64)
      (ran : Ran (peer_actions names s k given) old new) (ended : IsTrue (is_ended r given)) where
    abbrev me : Member
    me = member_by s k

    abbrev inputs : List Input
    inputs = taken_of r given

    ran-all : Ran (node_plan (Some names.recording) (Some names.played) names.found r given) bound new
    ran-all = ran-behind (peer-kinds names s k given) ran (all-peer names s k given)

    done-peer : HasOwnNames names → DonePeer names.recording names.played r given bound.files new.files bound.wire new.wire
    done-peer own = keeps names.recording names.played names.found r given bound new ran-all ended own.apart

    has-done : HasRun names s k inputs old new
    has-done = record {
      sent =
          all_sent (Some names.recording) (Some names.played) names.found r given bound new ran-all
          ∙ ap (λ xs. old.wire.traffic.sent ++ xs) (sends me inputs);
      played = λ own. (done-peer own).played_is [] (played-at names own s k old.files.content) ∙ ap Some (plays me inputs);
      recorded = λ own. (done-peer own).recorded_is head (recorded-at names own s k old.files.content);
      found = found-at finds (Some names.recording) (Some names.played) names.found r given bound new ran-all ended few;
      others = λ path not_key not_played not_recording not_found.
          others-at finds (Some names.recording) (Some names.played) names.found r given bound new ran-all ended few path
          (record { not_recording = not_recording; not_played = not_played; not_found = not_found })
          ∙ content-untouched (before_binding names s k) old.files.content path (unbegun names s k path not_key not_played not_recording);
      printed =
          printed-behind (peer-kinds names s k given) ran (all-peer names s k given)
          ∙ ap (λ b. old.out.bytes ++ shown (cond b (peer_summary r inputs) [])) ended;
    }

-- ---- by how it ended

module _ (held : AreHeld) (few : IsFew) (names : PeerNames) (given : List Arrival) (old new : Outside) (heard : HasHeard given old new)
    (told : IsTrue new.files.told) (reached : HasReached (peer_plan names given old.files.content).actions given old new)
    (asked : AsksNoFurther (λ front. peer_plan names front old.files.content) given) where
  is-given : (s : SessionData) (k : Secrets) → PeerAccepted names old.files.content s k → IsGiven (rules_by s k) given
  is-given s k accepted = record {
    within = heard.within;
    asked = accepted-asked names given old.files.content s k accepted asked;
    few = few (rules_by s k).last (inputs_of given);
  }

  -- at every status
  pub peer-stands : PeerPartKept → (status : ℕ) → Outcome names given old new status → PeerStands names old new
  peer-stands keeps status (inl stayed) = inl (as-untouched status old new stayed.0)
  peer-stands keeps status (inr b) =
      let s : SessionData = b.0.session in
      let k : Secrets = b.0.secrets in
      let d = accepted-reached names given s k old new b.0.accepted reached in
      let of = is-of held names old.files.content s k b.0.accepted in
      elim (split-peer names s k given d.begun) [
        | inl front ↦
            inr (inl (record { session = s; secrets = k; is_of = of; begun = begun-first (peer-kinds names s k given) d.ran front }))
        | inr behind ↦
            inr (inr (record {
              session = s;
              secrets = k;
              is_of = of;
              bound = is-bound names s k given d.ran told behind;
              given = given;
              is_given = is-given s k b.0.accepted;
              taken = heard.taken;
              told_end = told-end names s k given old new told d.ran d.received behind;
              run = has-stopped names s k given old new told d.ran d.received behind keeps;
              printed = printed-front names s k given old new told d.ran d.received behind;
            }))
      ]

  -- at 0 everything was done
  pub peer-done : AreInRange → RulesSend → RulesPlay → WholePeerKept → WholeSent → Finds → Outcome names given old new 0 →
      PeerDone names old new
  peer-done ranged sends plays keeps all_sent finds o =
      let b = accepted-zero names given old new o in
      let s : SessionData = b.0.session in
      let k : Secrets = b.0.secrets in
      let c = b.1.carried refl in
      let ended : IsTrue (is_ended (rules_by s k) given) = ended-at (is_ended (rules_by s k) given) 0 (λ e. absurd (omega arith)) c.is in
      let few_others = few-peers ranged names.session old.files.content s b.0.accepted.in_session in
      let kinds = peer-kinds names s k given in
      record {
        session = s;
        secrets = k;
        is_of = is-of held names old.files.content s k b.0.accepted;
        bound = is-bound names s k given c.ran told (all-peer names s k given);
        given = given;
        is_given = is-given s k b.0.accepted;
        taken = heard.taken;
        told_end =
            ended-behind kinds c.ran (all-peer names s k given)
            ∙ ap has_end (received-run (Some names.recording) (Some names.played) names.found (rules_by s k) given);
        ended = ended;
        run = has-done names s k given old new told sends plays keeps all_sent finds few_others c.ran ended;
      }

-- The rows of the status table, derived from how a replay ended.
use Rattle.std.proofs.Common.{◌≡◌, ◌⊎◌, ◌==◌, ℕ, List, [], ◌∷◌, ◌++◌, false, IsTrue, Some, refl, sym, ap, ◌∙◌, subst, inl, inr, map, take, length, ◌≢◌, ◌<◌, ◌^◌, append-nil, append_assoc, arith}
use Rattle.std.proofs.Math.Seq.{take-length}
use Rattle.std.specs.List.{AllByRecursion}
use Rattle.bar_outside.specs.Disk.{Content, Failure}
use Rattle.bar_outside.specs.Plan.{Outside, Plan, Begun, Reached, IsShowNext, Names, Touches, content_after, shown, is_stop, Action}
use Rattle.bar_outside.specs.Plan.Action.{append, show}
use Rattle.bar_outside.specs.Stages.{GoesInOrder, IsUnchanged}
use Rattle.bar_outside.specs.Stages.Stages.{does}
use Rattle.bar_outside.proofs.StageRows.{IsEndWithin, IsWithin, Outcome as Came, Sorts, cause_at, outcome as sorted, refused-at, sorts-last, sorts-stage, stage-within, unlinked-within}
use Rattle.bar_outside.proofs.ActionLists.{Names-split, Reached-both, content_after-append, shown-append}
use Rattle.bar_outside.proofs.Appends.{named-appends, touched-appends}
use Rattle.bar_outside.proofs.Unlinked.{IsUnlinked}
use Rattle.bar_outside.proofs.Untouched.{Touches-split, untouched-reached}
use Rattle.bar_wire.specs.Inputs.{Input}
use Rattle.bar_seeds.specs.declared.secrets.Secrets.{Secrets}
use Rattle.bar_roster.specs.declared.fault.SessionFault.{SessionFault}
use Rattle.bar_roster.specs.declared.key_fault.KeyFileFault.{KeyFileFault}
use Rattle.bar_session.specs.SessionData.{SessionData}
use Rattle.bar_record.specs.declared.fault.RecordFault.{RecordFault}
use Rattle.bar_rules.specs.Member.{Member}
use Rattle.bar_rules.specs.Peer.Run.{played_by}
use Rattle.bar_rules.specs.Members.{member_by}
use Rattle.bar_findings.specs.Findings.{Finding, IsFindingName, IsWrittenUpTo, findings_actions}
use Rattle.bar_findings.proofs.Holding.{AreWritten, begun-others, evidence-there, named-findings, silent-findings, table-there, touched-findings, written-front, written-since}
use Rattle.bar_findings.proofs.Names.{AreDistinct, finding-names, findings-distinct}
use Rattle.bar_cli.specs.Replay.Found.{evidence_of, found_by, manifest_of}
use Rattle.bar_cli.specs.Refusals.{session_refused, key_refused, recording_refused}
use Rattle.bar_session_files.specs.Accepting.{HasBadSession, secrets_of_key, session_of}
use Rattle.bar_cli.specs.Replay.Recordings.{recording_of}
use Rattle.bar_cli.specs.Code.Turns.{Turn, shown_bytes, turns_actions}
use Rattle.bar_cli.specs.Replay.Plan.{ReplayFiles, KeyRefused, InputRefused, Accepted, Replayed, PlayedFront, PlayedUpTo, FoundUpTo, HasOwnNames, OthersAreSame, ChangesNothing, IsMade, IsReplayCall, found_in, key_stages, peer_of, playing_actions, recording_stages, replay_actions, replay_plan, replay_stages, run_end, transcript_of, turns_in, turns_of}
use Rattle.bar_cli.proofs.EndLemmas.{differ, go-on}
use Rattle.bar_session_files.proofs.Accepted.{AreHeld, AreInRange, held-here, in-range_here}
use Rattle.bar_laws.proofs.Logs.{all-map}
use Rattle.bar_cli.proofs.ReplayLemmas.{all-played, final-found, final-other, final-played, others-unplayed, shown-playing, shown-replay, unlinked-playing, unlinked-replay}
use Rattle.bar_cli.proofs.TurnLemmas.{played-turns, shown-turns_from}
use Rattle.bar_cli.proofs.UpToLemmas.{IsStopped, stopped-played, unchanged-by, front-played, front-shown}

-- ---- what was found

found-names : (names : ReplayFiles) (me : Member) (inputs : List Input) →
    AllByRecursion (λ f. IsFindingName names.found f.name) (found_by names.found me inputs)
found-names names me inputs =
    finding-names names.found (manifest_of me inputs) me.session.shape.rounds (evidence_of me inputs) me.session.shape.peers

-- no file of what was found is the played file
own-names : (names : ReplayFiles) (me : Member) (inputs : List Input) → HasOwnNames names →
    AllByRecursion (λ f. f.name ≢ names.played) (found_by names.found me inputs)
own-names names me inputs own =
    all-map (λ f. IsFindingName names.found f.name) (λ f. f.name ≢ names.played) (found_by names.found me inputs)
    (λ f named. differs f.name named) (found-names names me inputs)
  where
    differs : (name : List ℕ) → IsFindingName names.found name → name ≢ names.played
    differs name (inl e) = λ h. own.table (sym h ∙ e)
    differs name (inr p) = λ h. own.evidence p.0 (sym h ∙ p.1)

-- no two files of what was found have the same name
distinct-in : AreInRange → (names : ReplayFiles) (content : Content) (a : Accepted names content) → AreDistinct (found_in names content a)
distinct-in ranged names content a =
    let most = (in-range_here ranged a.by_key.in_session.bytes a.session a.by_key.in_session.is).shape.peers_high in
    let few : a.session.shape.peers < 2 ^ 64 = omega arith in
    findings-distinct names.found (manifest_of (peer_of names content a) a.inputs) a.session.shape.rounds
    (evidence_of (peer_of names content a) a.inputs) a.session.shape.peers few

-- a part of it was written
written-some : (names : ReplayFiles) (me : Member) (inputs : List Input) (content : Content) (done : List Action) →
    AreDistinct (found_by names.found me inputs) → Begun (findings_actions (found_by names.found me inputs)) done →
    IsWrittenUpTo (found_by names.found me inputs) content (content_after done content) × (shown done ≡ [])
written-some names me inputs content done distinct b =
    elim (written-front (found_by names.found me inputs) content done distinct b) [ inl none ↦ absurd (some none.0) | inr w ↦ w ]
  where
    some : found_by names.found me inputs ≡ [] → ⊥
    some e = cc

-- ---- the calls that it makes

named-shows : (lines : List (List ℕ)) (rest : List Action) (call : Failure) → Names (map show lines ++ rest) call → Names rest call
named-shows [] rest call h = h
named-shows (x ∷ xs) rest call h = named-shows xs rest call h

named-turns : (names : ReplayFiles) (turns : List Turn) (call : Failure) →
    Names (turns_actions names.played turns) call → IsReplayCall names call
named-turns names [] call h = absurd h
named-turns names (t ∷ ts) call h =
    elim (named-appends names.played t.contents (map show t.lines ++ turns_actions names.played ts) call
    (subst (λ plan. Names plan call)
    (append_assoc (map (append names.played) t.contents) (map show t.lines) (turns_actions names.played ts)) h)) [
      | inl e ↦ inr (inl (inr e))
      | inr k ↦ named-turns names ts call (named-shows t.lines (turns_actions names.played ts) call k)
    ]

named-run : (names : ReplayFiles) (turns : List Turn) (me : Member) (inputs : List Input) (call : Failure) →
    Names (replay_actions names turns (found_by names.found me inputs)) call → IsReplayCall names call
named-run names turns me inputs call (inl e) = inr (inl (inl e))
named-run names turns me inputs call (inr h) =
    elim (Names-split (turns_actions names.played turns) (findings_actions (found_by names.found me inputs)) call h) [
      | inl now ↦ named-turns names turns call now
      | inr later ↦
          inr (inr (named-findings (IsFindingName names.found) (found_by names.found me inputs) call (found-names names me inputs) later))
    ]

-- ---- its stages

run-within : (names : ReplayFiles) (s : SessionData) (k : Secrets) (inputs : List Input) →
    IsEndWithin (IsReplayCall names) (run_end names s k inputs)
run-within names s k inputs = record {
  unlinked = unlinked-replay names (turns_of s k inputs) (found_by names.found (member_by s k) inputs);
  calls = named-run names (turns_of s k inputs) (member_by s k) inputs;
}

pub within : (names : ReplayFiles) → IsWithin (IsReplayCall names) (replay_stages names)
within names =
    stage-within (IsReplayCall names) names.session session_of 4 session_refused (key_stages names) (inl (inl refl))
    (λ s. stage-within (IsReplayCall names) names.key (secrets_of_key s) 5 key_refused (recording_stages names s) (inl (inr (inl refl)))
    (λ k. stage-within (IsReplayCall names) names.recording (recording_of s k.party) 8 recording_refused
    (λ inputs. does (run_end names s k inputs)) (inl (inr (inr refl))) (run-within names s k)))

-- nothing is done over the link
pub unlinked-plan : (names : ReplayFiles) (content : Content) → IsUnlinked (replay_plan names content).actions
unlinked-plan names content = unlinked-within (IsReplayCall names) (replay_stages names) content (within names)

module _ (names : ReplayFiles) (content : Content) where
  abbrev pub replay_end : Accepted names content → Plan
  replay_end a = run_end names a.session a.secrets a.inputs

  -- the cause of a refusal, by the status
  abbrev pub Causes : ℕ → Type 0
  Causes status =
      cause_at (status == 4) ((fault : SessionFault) × HasBadSession names.session content fault)
      (cause_at (status == 5) ((s : SessionData) × (fault : KeyFileFault) × KeyRefused names content s fault)
      (cause_at (status == 8) ((s : SessionData) × (k : Secrets) × (fault : RecordFault) × InputRefused names content s k fault) ⊥))

  sorts : Sorts Causes replay_end content (replay_stages names)
  sorts =
      sorts-stage Causes replay_end content names.session session_of 4 session_refused (key_stages names) (λ fault bad. (fault, bad))
      (λ s has. sorts-stage Causes replay_end content names.key (secrets_of_key s) 5 key_refused (recording_stages names s)
      (λ fault bad. (s, fault, record { in_session = has; in_key = bad }))
      (λ k in_key. sorts-stage Causes replay_end content names.recording (recording_of s k.party) 8 recording_refused
      (λ inputs. does (run_end names s k inputs))
      (λ fault bad. (s, k, fault, record { by_key = record { in_session = has; in_key = in_key }; in_recording = bad }))
      (λ inputs in_recording. sorts-last Causes replay_end content (record {
        session = s;
        secrets = k;
        inputs = inputs;
        by_key = record { in_session = has; in_key = in_key };
        in_recording = in_recording;
      }))))

-- nothing was changed or printed, because of a stop or a refusal; or everything was accepted, and the turns got this far
abbrev pub Outcome : ReplayFiles → Outside → Outside → ℕ → Type 0
Outcome names old new status = Came (Causes names old.files.content) (replay_end names old.files.content) old new status

pub outcome : (names : ReplayFiles) (old new : Outside) (status : ℕ) → IsTrue new.files.told → GoesInOrder (replay_stages names) old new status →
    Outcome names old new status
outcome names old new status told order =
    sorted (Causes names old.files.content) (replay_end names old.files.content) old new status (replay_stages names) told
    (sorts names old.files.content) order.gone

-- ---- the rows

module _ (names : ReplayFiles) (old new : Outside) where
  -- at 0 all turns were done
  pub replayed : AreHeld → AreInRange → IsTrue new.files.told → Outcome names old new 0 → Replayed names old new
  replayed held ranged told (inl r) = absurd (elim r.1 [ inl stop ↦ go-on 0 refl stop | inr none ↦ none ])
  replayed held ranged told (inr p) =
      let a = p.0 in
      let ran = (p.1.carried refl).ran in
      let me : Member = peer_of names old.files.content a in
      let turns : List Turn = turns_in names old.files.content a in
      let findings : List Finding = found_in names old.files.content a in
      let whole : AreWritten findings new.files.content =
      subst (AreWritten findings) (sym ran.files)
      (final-found names turns findings old.files.content (distinct-in ranged names old.files.content a)) in
      record {
        accepted = a;
        fits = (held-here held a.session a.by_key.in_key.bytes a.secrets a.by_key.in_key.is).fits;
        played = λ own. ap (λ (holds : Content). holds names.played) ran.files
            ∙ final-played names turns findings old.files.content (own-names names me a.inputs own)
            ∙ ap Some (played-turns me 1 [] a.inputs);
        sent = ran.out
            ∙ ap (λ bytes. old.out.bytes ++ bytes) (shown-replay names turns findings ∙ shown-turns_from me 1 [] a.inputs);
        table = table-there names.found (manifest_of me a.inputs) a.session.shape.rounds (evidence_of me a.inputs) a.session.shape.peers
            new.files.content whole;
        evidence = evidence-there names.found (manifest_of me a.inputs) a.session.shape.rounds (evidence_of me a.inputs)
            a.session.shape.peers new.files.content whole;
        others = λ q differs differ. ap (λ (holds : Content). holds q) ran.files
            ∙ final-other names turns findings old.files.content q differs differ;
      }

  -- at a refusal nothing was changed or printed
  pub refused : (status : ℕ) → (status == 0) ≡ false → is_stop status ≡ false → Outcome names old new status →
      IsUnchanged status old new × Causes names old.files.content status
  refused status other go o =
      refused-at (Causes names old.files.content) (replay_end names old.files.content) old new status go (λ a e. differ status 0 other e) o

pub as-untouched : (status : ℕ) (old new : Outside) → IsUnchanged status old new → ChangesNothing old new
as-untouched status old new same = record { files = same.files; out = same.out }

pub refused-untouched : (names : ReplayFiles) (old new : Outside) (status : ℕ) → (status == 0) ≡ false → is_stop status ≡ false →
    Outcome names old new status → ChangesNothing old new
refused-untouched names old new status other go o = as-untouched status old new (refused names old new status other go o).0

-- the turns touch only the played file

touched-shows : (lines : List (List ℕ)) (rest : List Action) (path : List ℕ) → Touches (map show lines ++ rest) path → Touches rest path
touched-shows [] rest path h = h
touched-shows (x ∷ xs) rest path h = touched-shows xs rest path h

touched-turns : (played : List ℕ) (turns : List Turn) (path : List ℕ) → Touches (turns_actions played turns) path → path ≡ played
touched-turns played [] path h = absurd h
touched-turns played (t ∷ ts) path h =
    elim (touched-appends played t.contents (map show t.lines ++ turns_actions played ts) path
    (subst (λ plan. Touches plan path) (append_assoc (map (append played) t.contents) (map show t.lines) (turns_actions played ts)) h)) [
      | inl e ↦ e
      | inr k ↦ touched-turns played ts path (touched-shows t.lines (turns_actions played ts) path k)
    ]

touched-playing : (played : List ℕ) (turns : List Turn) (path : List ℕ) → Touches (playing_actions played turns) path → path ≡ played
touched-playing played turns path (inl e) = e
touched-playing played turns path (inr h) = touched-turns played turns path h

-- afterwards only the files of what was found are touched
touched-run : (names : ReplayFiles) (turns : List Turn) (me : Member) (inputs : List Input) (path : List ℕ) →
    Touches (replay_actions names turns (found_by names.found me inputs)) path → (path ≡ names.played) ⊎ IsFindingName names.found path
touched-run names turns me inputs path h =
    elim (Touches-split (playing_actions names.played turns) (findings_actions (found_by names.found me inputs)) path h) [
      | inl now ↦ inl (touched-playing names.played turns path now)
      | inr later ↦
          inr (touched-findings (IsFindingName names.found) (found_by names.found me inputs) path (found-names names me inputs) later)
    ]

-- at every status, no other file was changed
pub other-untouched : (names : ReplayFiles) (old new : Outside) (status : ℕ) (path : List ℕ) → IsTrue new.files.told →
    (path ≡ names.played → ⊥) →
    (IsFindingName names.found path → ⊥) → Outcome names old new status → new.files.content path ≡ old.files.content path
other-untouched names old new status path told differs differ (inl r) = ap (λ (holds : Content). holds path) r.0.files
other-untouched names old new status path told differs differ (inr p) =
    let a = p.0 in
    let me : Member = peer_of names old.files.content a in
    let turns : List Turn = turns_in names old.files.content a in
    untouched-reached (replay_actions names turns (found_by names.found me a.inputs)) path old new status p.1.part told
    (λ h. elim (touched-run names turns me a.inputs path h) [ inl e ↦ differs e | inr named ↦ differ named ])

-- ---- how far it got, whatever stopped it

-- nothing was changed or printed, or the played file was created, or the turns were done up to some point, or what was found was written up
-- to some point
abbrev StoppedAt : ReplayFiles → ℕ → Outside → Outside → Type 0
StoppedAt names status old new =
    IsUnchanged status old new
    ⊎ ((Accepted names old.files.content × IsMade names old new × (status ≡ 7 → ⊥))
    ⊎ (PlayedUpTo names status old new ⊎ FoundUpTo names status old new))

-- during the turns only the played file is changed
others-same : (names : ReplayFiles) (turns : List Turn) (status : ℕ) (old new : Outside) → IsTrue new.files.told →
    Reached (playing_actions names.played turns) status old new → OthersAreSame names old new
others-same names turns status old new told d = λ path differs.
    untouched-reached (playing_actions names.played turns) path old new status d told
    (λ h. differs (touched-playing names.played turns path h))

stopped-playing : (names : ReplayFiles) (old new : Outside) (status : ℕ) → IsTrue new.files.told → (a : Accepted names old.files.content)
    (d : Reached (playing_actions names.played (turns_in names old.files.content a)) status old new) →
    IsStopped names.played (turns_in names old.files.content a) old.files.content (content_after d.done old.files.content)
    (shown d.done) d.begun.rest → StoppedAt names status old new
unfolding IsStopped
stopped-playing names old new status told a d (inl quiet) =
    inl (unchanged-by (playing_actions names.played (turns_in names old.files.content a)) status old new told
    (unlinked-playing names.played (turns_in names old.files.content a)) d quiet)
stopped-playing names old new status told a d (inr (inl made)) =
    inr (inl (
      a,
      record {
        played = ap (λ (holds : Content). holds names.played) d.ran.files ∙ made.made;
        out = d.ran.out ∙ ap (λ bytes. old.out.bytes ++ bytes) made.out ∙ append-nil old.out.bytes;
        others = others-same names (turns_in names old.files.content a) status old new told d;
      },
      λ e. made.silent (d.at_output e),
    ))
stopped-playing names old new status told a d (inr (inr up)) =
    inr (inr (inl (record {
      accepted = a;
      earlier = up.earlier;
      this = up.this;
      later = up.later;
      played_count = up.played_count;
      shown_count = up.shown_count;
      turns = up.is;
      played = ap (λ (holds : Content). holds names.played) d.ran.files ∙ up.played;
      shown = d.ran.out ∙ ap (λ bytes. old.out.bytes ++ bytes) up.printed;
      order = up.order;
      at_file = λ e. up.at_file (d.at_file e);
      at_output = λ e. up.at_output (d.at_output e);
      others = others-same names (turns_in names old.files.content a) status old new told d;
    })))

-- all turns were done, and a part of what is written afterwards
found-so_far : AreInRange → (names : ReplayFiles) (old new : Outside) (status : ℕ) → IsTrue new.files.told →
    (a : Accepted names old.files.content)
    (d : Reached (replay_actions names (turns_in names old.files.content a) (found_in names old.files.content a)) status old new)
    (more : List Action) → d.done ≡ playing_actions names.played (turns_in names old.files.content a) ++ more →
    (m : Begun (findings_actions (found_in names old.files.content a)) more) → m.rest ≡ d.begun.rest → FoundUpTo names status old new
found-so_far ranged names old new status told a d more is m next =
    let me : Member = peer_of names old.files.content a in
    let turns : List Turn = turns_in names old.files.content a in
    let findings : List Finding = found_in names old.files.content a in
    let mid : Content = content_after (playing_actions names.played turns) old.files.content in
    let after : new.files.content ≡ content_after more mid =
    d.ran.files ∙ ap (λ xs. content_after xs old.files.content) is
    ∙ content_after-append (playing_actions names.played turns) more old.files.content in
    let written = written-some names me a.inputs mid more (distinct-in ranged names old.files.content a) m in
    let printed : shown d.done ≡ shown_bytes turns =
    ap shown is ∙ shown-append (playing_actions names.played turns) more
    ∙ ap (λ bytes. shown (playing_actions names.played turns) ++ bytes) written.1
    ∙ append-nil (shown (playing_actions names.played turns)) ∙ shown-playing names.played turns in
    record {
      accepted = a;
      played = λ own. ap (λ (c : Content). c names.played) after
          ∙ begun-others findings mid more names.played m (own-names names me a.inputs own)
          ∙ all-played names.played turns old.files.content ∙ ap Some (played-turns me 1 [] a.inputs);
      sent = d.ran.out ∙ ap (λ bytes. old.out.bytes ++ bytes) (printed ∙ shown-turns_from me 1 [] a.inputs);
      found = λ own.
          written-since findings old.files.content mid new.files.content
          (all-map (λ f. f.name ≢ names.played) (λ f. mid f.name ≡ old.files.content f.name) findings
          (λ f differs. others-unplayed names.played turns old.files.content f.name differs) (own-names names me a.inputs own))
          (subst (IsWrittenUpTo findings mid) (sym after) written.0);
      no_output = λ e. silent-findings findings more m (subst IsShowNext (sym next) (d.at_output e));
    }

stopped-at : AreInRange → (names : ReplayFiles) (old new : Outside) (status : ℕ) → IsTrue new.files.told → Outcome names old new status →
    StoppedAt names status old new
stopped-at ranged names old new status told (inl r) = inl r.0
stopped-at ranged names old new status told (inr p) =
    let turns : List Turn = turns_in names old.files.content p.0 in
    elim (Reached-both (playing_actions names.played turns)
    (findings_actions (found_in names old.files.content p.0)) status old new p.1.part) [
      | inl d ↦
          stopped-playing names old new status told p.0 d (stopped-played names.played turns old.files.content d.done d.begun)
      | inr m ↦ inr (inr (inr (found-so_far ranged names old new status told p.0 p.1.part m.0 m.1 m.2 m.3)))
    ]

-- how far a replay got
pub stopped-replay : AreInRange → (names : ReplayFiles) (old new : Outside) (status : ℕ) → IsTrue new.files.told →
    Outcome names old new status →
    ChangesNothing old new ⊎ (IsMade names old new ⊎ (PlayedUpTo names status old new ⊎ FoundUpTo names status old new))
stopped-replay ranged names old new status told o =
    elim (stopped-at ranged names old new status told o) [
      | inl same ↦ inl (as-untouched status old new same)
      | inr two ↦ elim two [ inl made ↦ inr (inl made.1) | inr up ↦ inr (inr up) ]
    ]

-- a write fails only after everything that its input plays
pub failed-output : AreInRange → (names : ReplayFiles) (old new : Outside) → IsTrue new.files.told → Outcome names old new 7 →
    PlayedUpTo names 7 old new
failed-output ranged names old new told o =
    elim (stopped-at ranged names old new 7 told o) [
      | inl same ↦ absurd (same.no_output refl)
      | inr two ↦ elim two [
        | inl made ↦ absurd (made.2 refl)
        | inr more ↦ elim more [ inl up ↦ up | inr up ↦ absurd (up.no_output refl) ]
      ]
    ]

front-up_to : (names : ReplayFiles) (old new : Outside) (status : ℕ) → PlayedUpTo names status old new → PlayedFront names old new
front-up_to names old new status up =
    let turns = turns_in names old.files.content up.accepted in
    let me = peer_of names old.files.content up.accepted in
    let played = front-played turns up.earlier up.this up.later up.played_count up.turns in
    let printed = front-shown turns up.earlier up.this up.later up.shown_count up.turns in
    record {
      accepted = up.accepted;
      played_count = played.0;
      shown_count = printed.0;
      played = λ own. up.played ∙ ap Some (played.1 ∙ ap (take played.0) (played-turns me 1 [] up.accepted.inputs));
      shown = up.shown
          ∙ ap (λ bytes. old.out.bytes ++ bytes) (printed.1 ∙ ap (take printed.0) (shown-turns_from me 1 [] up.accepted.inputs));
    }

-- the whole list is a prefix of itself
front-found : (names : ReplayFiles) (old new : Outside) (status : ℕ) → FoundUpTo names status old new → PlayedFront names old new
front-found names old new status up =
    let all : List ℕ = played_by (peer_of names old.files.content up.accepted) up.accepted.inputs in
    let lines : List ℕ = transcript_of names old.files.content up.accepted in
    record {
      accepted = up.accepted;
      played_count = length all;
      shown_count = length lines;
      played = λ own. up.played own ∙ ap Some (sym (take-length all));
      shown = up.sent ∙ ap (λ bytes. old.out.bytes ++ bytes) (sym (take-length lines));
    }

-- at every status, nothing is changed, or a prefix was played and a prefix shown
pub a_front : AreInRange → (names : ReplayFiles) (old new : Outside) (status : ℕ) → IsTrue new.files.told → Outcome names old new status →
    ChangesNothing old new ⊎ PlayedFront names old new
a_front ranged names old new status told o =
    elim (stopped-at ranged names old new status told o) [
      | inl same ↦ inl (as-untouched status old new same)
      | inr two ↦ elim two [
        | inl made ↦
            inr (record {
              accepted = made.0;
              played_count = 0;
              shown_count = 0;
              played = λ own. made.1.played;
              shown = made.1.out ∙ sym (append-nil old.out.bytes);
            })
        | inr more ↦ elim more [
          | inl up ↦ inr (front-up_to names old new status up)
          | inr up ↦ inr (front-found names old new status up)
        ]
      ]
    ]

-- How far a broadcaster got, derived from its status.
use Rattle.std.proofs.Common.{◌≡◌, ◌⊎◌, ◌<◌, ◌==◌, ℕ, Bool, List, true, false, nat_le, length, cond, None, Some, Result, Ok, Err, refl, sym, ap, ◌∙◌, inl, inr, IsTrue}
use Rattle.std.proofs.lemmas.Bool.{leb-false}
use Rattle.bar_outside.specs.Disk.{Content}
use Rattle.bar_outside.specs.Ends.{UnlessStopped}
use Rattle.bar_outside.specs.Wire.{Arrival}
use Rattle.bar_outside.specs.Plan.{Action, Outside, Plan, Touches, is_stop}
use Rattle.bar_outside.specs.Stages.{ComesTo, GoesInOrder, IsAccepted, Went}
use Rattle.bar_outside.specs.Stages.Stages.{does}
use Rattle.bar_outside.proofs.Stages.{stage-comes, stage-refused, status-comes}
use Rattle.bar_outside.proofs.StageRows.{Outcome as Came, Sorts, accepted-at, cause_at, outcome as sorted, refusal, refused-at, sorts-last, sorts-stage}
use Rattle.bar_outside.proofs.Untouched.{untouched-reached}
use Rattle.bar_seeds.specs.declared.secrets.Secrets.{Secrets}
use Rattle.bar_session.specs.SessionData.{SessionData}
use Rattle.bar_findings.specs.Findings.{IsFindingName}
use Rattle.bar_node.specs.Runs.{AsksToTheEnd, is_ended}
use Rattle.bar_session_files.specs.Accepting.{HasSession, fresh_key_of, session_of}
use Rattle.bar_party_commands.specs.Streams.{no_room, room_of, stream_in}
use Rattle.bar_party_commands.specs.CasterPlan.{CasterAccepted, CasterNames, caster_actions, caster_end, caster_key_stages, caster_plan, caster_run, caster_stages, caster_stream_stages, rules_by}
use Rattle.bar_party_commands.specs.CasterStands.{IsCasterFile, KeyRefused, SessionRefused, StreamRefused}
use Rattle.bar_session_files.specs.Refusals.{key_refused, session_refused}
use Rattle.bar_party_commands.specs.Running.{AsksNoFurther, HasReached, place_of, spending, status_of}
use Rattle.bar_party_commands.specs.Stands.{IsUntouched}
use Rattle.bar_party_commands.specs.Summaries.{at_end, caster_summary}
use Rattle.bar_party_commands.proofs.Endings.{as-untouched, no-refusal, not-ended}
use Rattle.bar_party_commands.proofs.Reaching.{reached-end}
use Rattle.bar_party_commands.proofs.Streams.{stream-is_long}
use Rattle.bar_party_commands.proofs.Printed.{caster-prints, end-prints}
use Rattle.bar_node.proofs.RunActions.{of-run}
use Rattle.bar_party_commands.proofs.RunSplits.{AreOfKinds, touched-binding}

-- ---- a stream fits, or is too long for the session

by-room : (s : SessionData) (bytes : List ℕ) →
    (stream_in s bytes ≡ Ok bytes) ⊎ ((stream_in s bytes ≡ Err (length bytes)) × (room_of s < length bytes))
by-room s bytes = by_test (nat_le (length bytes) (room_of s)) refl
  where
    by_test : (b : Bool) → nat_le (length bytes) (room_of s) ≡ b →
        (stream_in s bytes ≡ Ok bytes) ⊎ ((stream_in s bytes ≡ Err (length bytes)) × (room_of s < length bytes))
    by_test true e = inl (ap (λ b. cond {A = Result (List ℕ) ℕ} b (Ok bytes) (Err (length bytes))) e)
    by_test false e =
        inr (ap (λ b. cond {A = Result (List ℕ) ℕ} b (Ok bytes) (Err (length bytes))) e, leb-false (length bytes) (room_of s) e)

-- the stream that is accepted is the file's content
itself : (s : SessionData) (bytes stream : List ℕ) → stream_in s bytes ≡ Ok stream → bytes ≡ stream
itself s bytes stream e = elim (by-room s bytes) [
  | inl fits ↦ let same : ◌≡◌ {A = Result (List ℕ) ℕ} (Ok bytes) (Ok stream) = sym fits ∙ e in cc
  | inr long ↦ let same : ◌≡◌ {A = Result (List ℕ) ℕ} (Err (length bytes)) (Ok stream) = sym long.0 ∙ e in absurd cc
]

-- a stream that is refused is too long
longer : (s : SessionData) (bytes : List ℕ) (have : ℕ) → stream_in s bytes ≡ Err have → room_of s < length bytes
longer s bytes have e = elim (by-room s bytes) [
  | inl fits ↦ let same : ◌≡◌ {A = Result (List ℕ) ℕ} (Ok bytes) (Err have) = sym fits ∙ e in absurd cc
  | inr long ↦ long.1
]

-- ---- how far it got

-- all three files are accepted
pub record AreAccepted (names : CasterNames) (content : Content) : Type 0 where
  pub session : SessionData
  pub secrets : Secrets
  pub stream : List ℕ
  pub accepted : CasterAccepted names content session secrets stream

module _ (names : CasterNames) (given : List Arrival) (content : Content) where
  -- the end of a run
  abbrev pub last : AreAccepted names content → Plan
  last a = caster_end names given a.session a.secrets a.stream

  -- the cause of a refusal, by the status
  abbrev pub Causes : ℕ → Type 0
  Causes status =
      cause_at (status == 4) (SessionRefused names content)
      (cause_at (status == 5) (KeyRefused names content) (cause_at (status == 8) (StreamRefused names content) ⊥))

  all-accepted : (s : SessionData) (k : Secrets) (stream : List ℕ) → HasSession names.session content s →
      IsAccepted names.key (fresh_key_of true s) content k → IsAccepted names.stream (stream_in s) content stream →
      CasterAccepted names content s k stream
  all-accepted s k stream has key there =
      let same = itself s there.bytes stream there.is in
      record {
        in_session = has;
        bytes = key.bytes;
        read = key.read;
        is = key.is;
        stream_read = there.read ∙ ap Some same;
        fits = ap (stream_in s) (sym same) ∙ there.is;
      }

  sorts : Sorts Causes last content (caster_stages names given)
  sorts =
      sorts-stage Causes last content names.session session_of 4 session_refused (caster_key_stages names given)
      (λ fault bad. (fault, bad))
      (λ s has. sorts-stage Causes last content names.key (fresh_key_of true s) 5 key_refused (caster_stream_stages names given s)
      (λ fault bad. (s, fault, has, bad))
      (λ k key. sorts-stage Causes last content names.stream (stream_in s) 8 (no_room s)
      (λ stream. does (caster_end names given s k stream))
      (λ have bad. (s, k, bad.bytes, has, key, bad.read, longer s bad.bytes have bad.is))
      (λ stream there. sorts-last Causes last content (record {
        session = s;
        secrets = k;
        stream = stream;
        accepted = all-accepted s k stream has key there;
      }))))

-- nothing was changed, because of a stop or a refusal; or all three files were accepted, and the run got this far
abbrev pub Outcome : CasterNames → List Arrival → Outside → Outside → ℕ → Type 0
Outcome names given old new status = Came (Causes names given old.files.content) (last names given old.files.content) old new status

-- if a file is accepted, the command ends at the end of the following stages
module _ (names : CasterNames) (given : List Arrival) (content : Content) (end : Plan) where
  behind-session : (s : SessionData) → HasSession names.session content s → ComesTo (caster_key_stages names given s) content end →
      ComesTo (caster_stages names given) content end
  behind-session s = stage-comes names.session session_of 4 session_refused (caster_key_stages names given) content s end

  behind-key : (s : SessionData) (k : Secrets) → IsAccepted names.key (fresh_key_of true s) content k →
      ComesTo (caster_stream_stages names given s k) content end → ComesTo (caster_key_stages names given s) content end
  behind-key s k = stage-comes names.key (fresh_key_of true s) 5 key_refused (caster_stream_stages names given s) content k end

module _ (names : CasterNames) (given : List Arrival) (old new : Outside) (status : ℕ) where
  abbrev content : Content
  content = old.files.content

  pub outcome : IsTrue new.files.told → GoesInOrder (caster_stages names given) old new status → Outcome names given old new status
  outcome told order =
      sorted (Causes names given content) (last names given content) old new status (caster_stages names given) told
      (sorts names given content) order.gone

  -- at the status of a refusal nothing was changed
  pub refused : is_stop status ≡ false → (status ≡ 0 → ⊥) → (status ≡ 6 → ⊥) → Outcome names given old new status →
      Causes names given content status × IsUntouched old new
  refused go other behind o =
      let r = refused-at (Causes names given content) (last names given content) old new status go
      (λ a. no-refusal (is_ended (rules_by a.session a.secrets a.stream) given) status other behind) o in
      (r.1, as-untouched status old new r.0)

  -- a refusal has its status, unless something stops the command
  module _ (order : GoesInOrder (caster_stages names given) old new status) where
    pub stopped-session : SessionRefused names content → UnlessStopped 4 status
    stopped-session bad =
        order.stopped (refusal 4 (session_refused bad.0))
        (stage-refused names.session session_of 4 session_refused (caster_key_stages names given) content bad.0 bad.1)

    pub stopped-key : KeyRefused names content → UnlessStopped 5 status
    stopped-key bad =
        order.stopped (refusal 5 (key_refused bad.1))
        (behind-session names given content (refusal 5 (key_refused bad.1)) bad.0 bad.2
        (stage-refused names.key (fresh_key_of true bad.0) 5 key_refused (caster_stream_stages names given bad.0) content bad.1 bad.3))

    pub stopped-stream : StreamRefused names content → UnlessStopped 8 status
    stopped-stream bad =
        let s : SessionData = bad.0 in
        let k : Secrets = bad.1 in
        let have : ℕ = length bad.2 in
        let end : Plan = refusal 8 (no_room s have) in
        order.stopped end
        (behind-session names given content end s bad.3
        (behind-key names given content end s k bad.4
        (stage-refused names.stream (stream_in s) 8 (no_room s) (λ stream. does (caster_end names given s k stream)) content have
        (record { bytes = bad.2; read = bad.5; is = stream-is_long s bad.2 bad.6 }))))

-- at 0 all three files were accepted
pub accepted-zero : (names : CasterNames) (given : List Arrival) (old new : Outside) → Outcome names given old new 0 →
    (a : AreAccepted names old.files.content) × Went (last names given old.files.content a) old new 0
accepted-zero names given old new =
    accepted-at (Causes names given old.files.content) (last names given old.files.content) old new 0 refl (λ none. none)

-- ---- if all three files are accepted

module _ (names : CasterNames) (given : List Arrival) (content : Content) (s : SessionData) (k : Secrets) (stream : List ℕ)
    (a : CasterAccepted names content s k stream) where
  abbrev end : Plan
  end = caster_end names given s k stream

  -- the stages lead to the end of the run
  pub accepted-comes : ComesTo (caster_stages names given) content end
  accepted-comes =
      behind-session names given content end s a.in_session
      (behind-key names given content end s k (record { bytes = a.bytes; read = a.read; is = a.is })
      (stage-comes names.stream (stream_in s) 8 (no_room s) (λ stream. does (caster_end names given s k stream)) content stream end
      (record { bytes = stream; read = a.stream_read; is = a.fits }) refl))

  -- its status is that of the run
  pub accepted-status : (caster_plan names given content).status ≡ status_of (rules_by s k stream) given
  accepted-status = status-comes (caster_stages names given) content end accepted-comes

-- it got just as far in the run
pub accepted-reached : (names : CasterNames) (given : List Arrival) (s : SessionData) (k : Secrets) (stream : List ℕ) (old new : Outside) →
    CasterAccepted names old.files.content s k stream → HasReached (caster_plan names given old.files.content).actions given old new →
    HasReached (caster_actions names s k stream given) given old new
accepted-reached names given s k stream old new a =
    reached-end (caster_stages names given) old.files.content (caster_end names given s k stream) given old new
    (accepted-comes names given old.files.content s k stream a)

-- the link wasn't asked after the end of the run
pub accepted-asked : (names : CasterNames) (given : List Arrival) (content : Content) (s : SessionData) (k : Secrets) (stream : List ℕ) →
    CasterAccepted names content s k stream → AsksNoFurther (λ front. caster_plan names front content) given →
    AsksToTheEnd (rules_by s k stream) given
accepted-asked names given content s k stream a asked front next rest e =
    not-ended (is_ended (rules_by s k stream) front) (sym (accepted-status names front content s k stream a) ∙ asked front next rest e)

-- ---- the actions of a broadcaster, by kind

-- a file that is written before the binding
abbrev pub IsFirstFile : CasterNames → List ℕ → Type 0
IsFirstFile names path = path ≡ names.key

-- a file that the run writes
abbrev pub IsRunFile : CasterNames → List ℕ → Type 0
IsRunFile names path = IsFindingName names.found path

-- what is printed at the end of the run
abbrev pub caster_last : SessionData → Secrets → List ℕ → List Arrival → List Action
caster_last s k stream given = at_end caster_summary (rules_by s k stream) given

pub caster-kinds : (names : CasterNames) (s : SessionData) (k : Secrets) (stream : List ℕ) (given : List Arrival) →
    AreOfKinds (IsFirstFile names) (IsRunFile names) (spending names.key s k) (caster_run names s k stream given)
    (caster_last s k stream given)
caster-kinds names s k stream given = record {
  firsts = (refl, (refl, tt));
  runs = of-run (IsRunFile names) None None tt tt (rules_by s k stream) names.found (λ name is. is) given;
  lasts = end-prints caster_summary caster-prints (rules_by s k stream) given;
}

-- the files that it touches
touched : (names : CasterNames) (s : SessionData) (k : Secrets) (stream : List ℕ) (given : List Arrival) (path : List ℕ) →
    Touches (caster_actions names s k stream given) path → IsCasterFile names path
touched names s k stream given path t = touched-binding (caster-kinds names s k stream given) (place_of names.begin_ms s k) path t

pub others-untouched : (names : CasterNames) (given : List Arrival) (path : List ℕ) (old new : Outside) (status : ℕ) →
    IsTrue new.files.told → (IsCasterFile names path → ⊥) → Outcome names given old new status → new.files.content path ≡ old.files.content path
others-untouched names given path old new status told none (inl r) = ap (λ (holds : Content). holds path) r.0.files
others-untouched names given path old new status told none (inr b) =
    untouched-reached (caster_actions names b.0.session b.0.secrets b.0.stream given) path old new status b.1.part told
    (λ t. none (touched names b.0.session b.0.secrets b.0.stream given path t))

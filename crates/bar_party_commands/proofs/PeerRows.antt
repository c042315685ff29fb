-- How far a peer got, derived from its status.
use Rattle.std.proofs.Common.{◌≡◌, ◌⊎◌, ◌==◌, ℕ, List, false, Some, refl, sym, ap, ◌∙◌, inl, inr, IsTrue}
use Rattle.bar_outside.specs.Disk.{Content}
use Rattle.bar_outside.specs.Ends.{UnlessStopped}
use Rattle.bar_outside.specs.Wire.{Arrival}
use Rattle.bar_outside.specs.Plan.{Action, Outside, Plan, Touches, is_stop}
use Rattle.bar_outside.specs.Stages.{ComesTo, GoesInOrder, Went}
use Rattle.bar_outside.specs.Stages.Stages.{does}
use Rattle.bar_outside.proofs.Stages.{stage-comes, stage-refused, status-comes}
use Rattle.bar_outside.proofs.StageRows.{Outcome as Came, Sorts, accepted-at, cause_at, outcome as sorted, refusal, refused-at, sorts-last, sorts-stage}
use Rattle.bar_outside.proofs.Untouched.{untouched-reached}
use Rattle.bar_seeds.specs.declared.secrets.Secrets.{Secrets}
use Rattle.bar_session.specs.SessionData.{SessionData}
use Rattle.bar_findings.specs.Findings.{IsFindingName}
use Rattle.bar_node.specs.Runs.{AsksToTheEnd, is_ended}
use Rattle.bar_session_files.specs.Accepting.{fresh_key_of, session_of}
use Rattle.bar_party_commands.specs.PeerPlan.{PeerAccepted, PeerNames, before_binding, peer_actions, peer_end, peer_key_stages, peer_plan, peer_run, peer_stages, rules_by}
use Rattle.bar_party_commands.specs.PeerStands.{IsPeerFile, KeyRefused, SessionRefused}
use Rattle.bar_session_files.specs.Refusals.{key_refused, session_refused}
use Rattle.bar_party_commands.specs.Running.{AsksNoFurther, HasReached, place_of, status_of}
use Rattle.bar_party_commands.specs.Stands.{IsUntouched}
use Rattle.bar_party_commands.specs.Summaries.{at_end, peer_summary}
use Rattle.bar_party_commands.proofs.Endings.{as-untouched, no-refusal, not-ended}
use Rattle.bar_party_commands.proofs.Reaching.{reached-end}
use Rattle.bar_node.proofs.RunActions.{of-run}
use Rattle.bar_party_commands.proofs.RunSplits.{AreOfKinds, touched-binding}
use Rattle.bar_party_commands.proofs.Printed.{end-prints, peer-prints}

-- ---- how far it got

-- both files are accepted
pub record AreAccepted (names : PeerNames) (content : Content) : Type 0 where
  pub session : SessionData
  pub secrets : Secrets
  pub accepted : PeerAccepted names content session secrets

module _ (names : PeerNames) (given : List Arrival) (content : Content) where
  -- the end of a run
  abbrev pub last : AreAccepted names content → Plan
  last a = peer_end names given a.session a.secrets

  -- the cause of a refusal, by the status
  abbrev pub Causes : ℕ → Type 0
  Causes status = cause_at (status == 4) (SessionRefused names content) (cause_at (status == 5) (KeyRefused names content) ⊥)

  sorts : Sorts Causes last content (peer_stages names given)
  sorts =
      sorts-stage Causes last content names.session session_of 4 session_refused (peer_key_stages names given) (λ fault bad. (fault, bad))
      (λ s has. sorts-stage Causes last content names.key (fresh_key_of false s) 5 key_refused (λ k. does (peer_end names given s k))
      (λ fault bad. (s, fault, has, bad))
      (λ k key. sorts-last Causes last content (record {
        session = s;
        secrets = k;
        accepted = record { in_session = has; bytes = key.bytes; read = key.read; is = key.is };
      })))

-- nothing was changed, because of a stop or a refusal; or both files were accepted, and the run got this far
abbrev pub Outcome : PeerNames → List Arrival → Outside → Outside → ℕ → Type 0
Outcome names given old new status = Came (Causes names given old.files.content) (last names given old.files.content) old new status

module _ (names : PeerNames) (given : List Arrival) (old new : Outside) (status : ℕ) where
  abbrev content : Content
  content = old.files.content

  pub outcome : IsTrue new.files.told → GoesInOrder (peer_stages names given) old new status → Outcome names given old new status
  outcome told order =
      sorted (Causes names given content) (last names given content) old new status (peer_stages names given) told
      (sorts names given content) order.gone

  -- at the status of a refusal nothing was changed
  pub refused : is_stop status ≡ false → (status ≡ 0 → ⊥) → (status ≡ 6 → ⊥) → Outcome names given old new status →
      Causes names given content status × IsUntouched old new
  refused go other behind o =
      let r = refused-at (Causes names given content) (last names given content) old new status go
      (λ a. no-refusal (is_ended (rules_by a.session a.secrets) given) status other behind) o in
      (r.1, as-untouched status old new r.0)

  -- a refusal has its status, unless something stops the command
  module _ (order : GoesInOrder (peer_stages names given) old new status) where
    pub stopped-session : SessionRefused names content → UnlessStopped 4 status
    stopped-session bad =
        order.stopped (refusal 4 (session_refused bad.0))
        (stage-refused names.session session_of 4 session_refused (peer_key_stages names given) content bad.0 bad.1)

    pub stopped-key : KeyRefused names content → UnlessStopped 5 status
    stopped-key bad =
        order.stopped (refusal 5 (key_refused bad.1))
        (stage-comes names.session session_of 4 session_refused (peer_key_stages names given) content bad.0
        (refusal 5 (key_refused bad.1)) bad.2
        (stage-refused names.key (fresh_key_of false bad.0) 5 key_refused (λ k. does (peer_end names given bad.0 k)) content bad.1 bad.3))

-- at 0 both files were accepted
pub accepted-zero : (names : PeerNames) (given : List Arrival) (old new : Outside) → Outcome names given old new 0 →
    (a : AreAccepted names old.files.content) × Went (last names given old.files.content a) old new 0
accepted-zero names given old new =
    accepted-at (Causes names given old.files.content) (last names given old.files.content) old new 0 refl (λ none. none)

-- ---- if both files are accepted

module _ (names : PeerNames) (given : List Arrival) (content : Content) (s : SessionData) (k : Secrets) (a : PeerAccepted names content s k)
  where
    abbrev end : Plan
    end = peer_end names given s k

    -- the stages lead to the end of the run
    pub accepted-comes : ComesTo (peer_stages names given) content end
    accepted-comes =
        stage-comes names.session session_of 4 session_refused (peer_key_stages names given) content s end a.in_session
        (stage-comes names.key (fresh_key_of false s) 5 key_refused (λ k. does (peer_end names given s k)) content k end
        (record { bytes = a.bytes; read = a.read; is = a.is }) refl)

    -- its status is that of the run
    pub accepted-status : (peer_plan names given content).status ≡ status_of (rules_by s k) given
    accepted-status = status-comes (peer_stages names given) content end accepted-comes

-- it got just as far in the run
pub accepted-reached : (names : PeerNames) (given : List Arrival) (s : SessionData) (k : Secrets) (old new : Outside) →
    PeerAccepted names old.files.content s k → HasReached (peer_plan names given old.files.content).actions given old new →
    HasReached (peer_actions names s k given) given old new
accepted-reached names given s k old new a =
    reached-end (peer_stages names given) old.files.content (peer_end names given s k) given old new
    (accepted-comes names given old.files.content s k a)

-- the link wasn't asked after the end of the run
pub accepted-asked : (names : PeerNames) (given : List Arrival) (content : Content) (s : SessionData) (k : Secrets) →
    PeerAccepted names content s k → AsksNoFurther (λ front. peer_plan names front content) given → AsksToTheEnd (rules_by s k) given
accepted-asked names given content s k a asked front next rest e =
    not-ended (is_ended (rules_by s k) front) (sym (accepted-status names front content s k a) ∙ asked front next rest e)

-- ---- the actions of a peer, by kind

-- a file that is written before the binding
abbrev pub IsFirstFile : PeerNames → List ℕ → Type 0
IsFirstFile names path = (path ≡ names.key) ⊎ ((path ≡ names.played) ⊎ (path ≡ names.recording))

-- a file that the run writes
abbrev pub IsRunFile : PeerNames → List ℕ → Type 0
IsRunFile names path = (path ≡ names.recording) ⊎ ((path ≡ names.played) ⊎ IsFindingName names.found path)

-- what is printed at the end of the run
abbrev pub peer_last : SessionData → Secrets → List Arrival → List Action
peer_last s k given = at_end peer_summary (rules_by s k) given

pub peer-kinds : (names : PeerNames) (s : SessionData) (k : Secrets) (given : List Arrival) →
    AreOfKinds (IsFirstFile names) (IsRunFile names) (before_binding names s k) (peer_run names s k given) (peer_last s k given)
peer-kinds names s k given = record {
  firsts = (inl refl, (inl refl, (inr (inl refl), (inr (inr refl), (inr (inr refl), tt)))));
  runs =
      of-run (IsRunFile names) (Some names.recording) (Some names.played) (inl refl) (inr (inl refl)) (rules_by s k) names.found
      (λ name is. inr (inr is)) given;
  lasts = end-prints peer_summary peer-prints (rules_by s k) given;
}

-- the files that it touches
touched : (names : PeerNames) (s : SessionData) (k : Secrets) (given : List Arrival) (path : List ℕ) →
    Touches (peer_actions names s k given) path → IsPeerFile names path
touched names s k given path t =
    elim (touched-binding (peer-kinds names s k given) (place_of names.begin_ms s k) path t) [
      | inl a ↦ elim a [
        | inl key ↦ inl key
        | inr b ↦ elim b [ inl played ↦ inr (inl played) | inr recording ↦ inr (inr (inl recording)) ]
      ]
      | inr a ↦ elim a [
        | inl recording ↦ inr (inr (inl recording))
        | inr b ↦ elim b [ inl played ↦ inr (inl played) | inr found ↦ inr (inr (inr found)) ]
      ]
    ]

pub others-untouched : (names : PeerNames) (given : List Arrival) (path : List ℕ) (old new : Outside) (status : ℕ) → IsTrue new.files.told →
    (IsPeerFile names path → ⊥) → Outcome names given old new status → new.files.content path ≡ old.files.content path
others-untouched names given path old new status told none (inl r) = ap (λ (holds : Content). holds path) r.0.files
others-untouched names given path old new status told none (inr b) =
    untouched-reached (peer_actions names b.0.session b.0.secrets given) path old new status b.1.part told
    (λ t. none (touched names b.0.session b.0.secrets given path t))

-- What holds before and after a peer's link is bound.
use Rattle.std.proofs.Common.{◌≡◌, ◌⊎◌, ◌==◌, ℕ, List, [], false, Some, ◌∙◌, inl, inr, IsTrue, refl, subst}
use Rattle.std.proofs.lemmas.Bool.{cases_Bool, eqb-true}
use Rattle.bar_outside.specs.Disk.{Content, appended, created}
use Rattle.bar_outside.specs.Wire.{Arrival}
use Rattle.bar_outside.specs.Plan.{Action, Begun, Outside, Ran, content_after}
use Rattle.bar_outside.proofs.Contents.{appended-other, appended-same, put_at-other, put_at-same}
use Rattle.bar_seeds.specs.declared.secrets.Secrets.{Secrets}
use Rattle.bar_session.specs.SessionData.{SessionData}
use Rattle.bar_record.specs.Recording.{head_bytes}
use Rattle.bar_party_commands.specs.PeerPlan.{PeerAccepted, PeerNames, before_binding, peer_actions, peer_run}
use Rattle.bar_party_commands.specs.PeerStands.{HasOwnNames, IsBound, IsBoundOrUnused, IsPeerOf}
use Rattle.bar_party_commands.specs.Running.{place_of, spent_text}
use Rattle.bar_party_commands.proofs.Endings.{as-untouched, not-zero}
use Rattle.bar_session_files.proofs.Accepted.{AreHeld, fits-here}
use Rattle.bar_party_commands.proofs.PeerRows.{IsRunFile, Outcome, accepted-zero, peer-kinds, peer_last}
use Rattle.bar_party_commands.proofs.RunSplits.{IsBehind, all-behind, begun-first, bound-behind, kept-behind, split-binding}

pub is-of : AreHeld → (names : PeerNames) (content : Content) (s : SessionData) (k : Secrets) → PeerAccepted names content s k →
    IsPeerOf names content s k
is-of held names content s k a = record { accepted = a; fits = fits-here held s false a.bytes k a.is }

-- ---- what the files hold when the link is bound

module _ (names : PeerNames) (own : HasOwnNames names) (s : SessionData) (k : Secrets) (content : Content) where
  abbrev text : List ℕ
  text = spent_text s k

  abbrev head : List ℕ
  head = head_bytes s.shape.id k.party

  abbrev with-key : Content
  with-key = appended (created content names.key) names.key text

  abbrev with-played : Content
  with-played = created with-key names.played

  abbrev with-recording : Content
  with-recording = created with-played names.recording

  abbrev at-binding : Content
  at-binding = content_after (before_binding names s k) content

  key-at : at-binding names.key ≡ Some text
  key-at =
      appended-other with-recording names.recording head names.key own.not_recording
      ∙ put_at-other with-played names.recording [] names.key own.not_recording
      ∙ put_at-other with-key names.played [] names.key own.not_played
      ∙ appended-same (created content names.key) names.key text [] (put_at-same content names.key [])

  pub played-at : at-binding names.played ≡ Some []
  played-at =
      appended-other with-recording names.recording head names.played own.apart.differ
      ∙ put_at-other with-played names.recording [] names.played own.apart.differ
      ∙ put_at-same with-key names.played []

  pub recorded-at : at-binding names.recording ≡ Some head
  recorded-at = appended-same with-recording names.recording head [] (put_at-same with-played names.recording [])

-- the run doesn't write the key file
key-apart : (names : PeerNames) → HasOwnNames names → IsRunFile names names.key → ⊥
key-apart names own (inl e) = own.not_recording e
key-apart names own (inr (inl e)) = own.not_played e
key-apart names own (inr (inr (inl e))) = own.not_found.table e
key-apart names own (inr (inr (inr p))) = own.not_found.evidence p.0 p.1

-- ---- before and after the binding

-- The link was bound, and a part of the peer's following actions was done.
abbrev pub IsPeerBehind : PeerNames → SessionData → Secrets → List Arrival → List Action → Type 0
IsPeerBehind names s k given done =
    IsBehind (before_binding names s k) (place_of names.begin_ms s k) (peer_run names s k given) (peer_last s k given) done

module _ (names : PeerNames) (s : SessionData) (k : Secrets) (given : List Arrival) where
  abbrev pub all-peer : IsPeerBehind names s k given (peer_actions names s k given)
  all-peer = all-behind (before_binding names s k) (place_of names.begin_ms s k) (peer_run names s k given) (peer_last s k given)

  pub split-peer : {done : List Action} → Begun (peer_actions names s k given) done →
      Begun (before_binding names s k) done ⊎ IsPeerBehind names s k given done
  split-peer {done} b =
      split-binding (before_binding names s k) (place_of names.begin_ms s k) (peer_run names s k given) (peer_last s k given)
      done b

  pub is-bound : {done : List Action} {old new : Outside} → Ran done old new → IsTrue new.files.told → IsPeerBehind names s k given done →
      IsBound names s k old new
  is-bound {old} ran told b =
      let kinds = peer-kinds names s k given in
      record {
        bound = bound-behind kinds ran b;
        spent = λ own. kept-behind kinds ran b names.key (key-apart names own) ∙ key-at names own s k old.files.content;
      }

module _ (held : AreHeld) (names : PeerNames) (given : List Arrival) (old new : Outside) (told : IsTrue new.files.told) where
  abbrev IsSpent : Type 0
  IsSpent = (s : SessionData) × (k : Secrets) × IsPeerOf names old.files.content s k × IsBound names s k old new

  -- at 0 the link is bound and the key is spent
  bound-at_zero : Outcome names given old new 0 → IsSpent
  bound-at_zero o =
      let b = accepted-zero names given old new o in
      let s : SessionData = b.0.session in
      let k : Secrets = b.0.secrets in (
        s,
        k,
        is-of held names old.files.content s k b.0.accepted,
        is-bound names s k given (b.1.carried refl).ran told (all-peer names s k given),
      )

  bound-at_other : (status : ℕ) → (status ≡ 0 → ⊥) → Outcome names given old new status → IsBoundOrUnused names old new status
  bound-at_other status other (inl r) = inl (inl (as-untouched status old new r.0), other)
  bound-at_other status other (inr b) =
      let s : SessionData = b.0.session in
      let k : Secrets = b.0.secrets in
      let d = b.1.part in
      let of = is-of held names old.files.content s k b.0.accepted in
      elim (split-peer names s k given d.begun) [
        | inl front ↦ inl (
          inr (record { session = s; secrets = k; is_of = of; begun = begun-first (peer-kinds names s k given) d.ran front }),
          other,
        )
        | inr behind ↦ inr (s, k, of, is-bound names s k given d.ran told behind)
      ]

  -- at every status, the link wasn't used, or it is bound and the key is spent
  pub bound-or_not : (status : ℕ) → Outcome names given old new status → IsBoundOrUnused names old new status
  bound-or_not status o = elim (cases_Bool (status == 0)) [
    | inl zero ↦ inr (bound-at_zero (subst (Outcome names given old new) (eqb-true status 0 zero) o))
    | inr other ↦ bound-at_other status (not-zero status other) o
  ]

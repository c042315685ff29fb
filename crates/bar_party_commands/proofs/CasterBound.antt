-- What holds before and after a broadcaster's link is bound.
use Rattle.std.proofs.Common.{◌≡◌, ◌⊎◌, ◌==◌, ℕ, List, [], true, Some, ◌∙◌, inl, inr, IsTrue, refl, subst}
use Rattle.std.proofs.lemmas.Bool.{cases_Bool, eqb-true}
use Rattle.bar_outside.specs.Disk.{Content, created}
use Rattle.bar_outside.specs.Wire.{Arrival}
use Rattle.bar_outside.specs.Plan.{Action, Begun, Outside, Ran, content_after}
use Rattle.bar_outside.proofs.Contents.{appended-same, put_at-same}
use Rattle.bar_seeds.specs.declared.secrets.Secrets.{Secrets}
use Rattle.bar_session.specs.SessionData.{SessionData}
use Rattle.bar_node.specs.Stops.{IsApart}
use Rattle.bar_party_commands.specs.CasterPlan.{CasterAccepted, CasterNames, caster_actions, caster_run}
use Rattle.bar_party_commands.specs.CasterStands.{IsBound, IsBoundOrUnused, IsCasterOf}
use Rattle.bar_party_commands.specs.Running.{place_of, spending, spent_text}
use Rattle.bar_party_commands.proofs.Endings.{as-untouched, not-zero}
use Rattle.bar_session_files.proofs.Accepted.{AreHeld, fits-here}
use Rattle.bar_party_commands.proofs.CasterRows.{IsRunFile, Outcome, accepted-zero, caster-kinds, caster_last}
use Rattle.bar_party_commands.proofs.RunSplits.{IsBehind, all-behind, begun-first, bound-behind, kept-behind, split-binding}

pub is-of : AreHeld → (names : CasterNames) (content : Content) (s : SessionData) (k : Secrets) (stream : List ℕ) →
    CasterAccepted names content s k stream → IsCasterOf names content s k stream
is-of held names content s k stream a = record { accepted = a; fits = fits-here held s true a.bytes k a.is }

-- the key file when the link is bound
key-at : (names : CasterNames) (s : SessionData) (k : Secrets) (content : Content) →
    content_after (spending names.key s k) content names.key ≡ Some (spent_text s k)
key-at names s k content = appended-same (created content names.key) names.key (spent_text s k) [] (put_at-same content names.key [])

-- the run doesn't write the key file
key-apart : (names : CasterNames) → IsApart names.key names.found → IsRunFile names names.key → ⊥
key-apart names own (inl e) = own.table e
key-apart names own (inr p) = own.evidence p.0 p.1

-- ---- before and after the binding

-- The link was bound, and a part of the broadcaster's following actions was done.
abbrev pub IsCasterBehind : CasterNames → SessionData → Secrets → List ℕ → List Arrival → List Action → Type 0
IsCasterBehind names s k stream given done =
    IsBehind (spending names.key s k) (place_of names.begin_ms s k) (caster_run names s k stream given) (caster_last s k stream given) done

module _ (names : CasterNames) (s : SessionData) (k : Secrets) (stream : List ℕ) (given : List Arrival) where
  abbrev pub all-caster : IsCasterBehind names s k stream given (caster_actions names s k stream given)
  all-caster =
      all-behind (spending names.key s k) (place_of names.begin_ms s k) (caster_run names s k stream given) (caster_last s k stream given)

  pub split-caster : {done : List Action} → Begun (caster_actions names s k stream given) done →
      Begun (spending names.key s k) done ⊎ IsCasterBehind names s k stream given done
  split-caster {done} b =
      split-binding (spending names.key s k) (place_of names.begin_ms s k) (caster_run names s k stream given) (caster_last s k stream given)
      done b

  pub is-bound : {done : List Action} {old new : Outside} → Ran done old new → IsTrue new.files.told →
      IsCasterBehind names s k stream given done → IsBound names s k old new
  is-bound {old} ran told b =
      let kinds = caster-kinds names s k stream given in
      record {
        bound = bound-behind kinds ran b;
        spent = λ own. kept-behind kinds ran b names.key (key-apart names own) ∙ key-at names s k old.files.content;
      }

module _ (held : AreHeld) (names : CasterNames) (given : List Arrival) (old new : Outside) (told : IsTrue new.files.told) where
  abbrev IsSpent : Type 0
  IsSpent =
      (s : SessionData)
      × (k : Secrets)
      × (stream : List ℕ)
      × IsCasterOf names old.files.content s k stream
      × IsBound names s k old new

  -- at 0 the link is bound and the key is spent
  bound-at_zero : Outcome names given old new 0 → IsSpent
  bound-at_zero o =
      let b = accepted-zero names given old new o in
      let s : SessionData = b.0.session in
      let k : Secrets = b.0.secrets in
      let stream : List ℕ = b.0.stream in (
        s,
        k,
        stream,
        is-of held names old.files.content s k stream b.0.accepted,
        is-bound names s k stream given (b.1.carried refl).ran told (all-caster names s k stream given),
      )

  bound-at_other : (status : ℕ) → (status ≡ 0 → ⊥) → Outcome names given old new status → IsBoundOrUnused names old new status
  bound-at_other status other (inl r) = inl (inl (as-untouched status old new r.0), other)
  bound-at_other status other (inr b) =
      let s : SessionData = b.0.session in
      let k : Secrets = b.0.secrets in
      let stream : List ℕ = b.0.stream in
      let kinds = caster-kinds names s k stream given in
      let d = b.1.part in
      let of = is-of held names old.files.content s k stream b.0.accepted in
      elim (split-caster names s k stream given d.begun) [
        | inl front ↦ inl (
          inr (record { session = s; secrets = k; stream = stream; is_of = of; begun = begun-first kinds d.ran front }),
          other,
        )
        | inr behind ↦ inr (s, k, stream, of, is-bound names s k stream given d.ran told behind)
      ]

  -- at every status, the link wasn't used, or it is bound and the key is spent
  pub bound-or_not : (status : ℕ) → Outcome names given old new status → IsBoundOrUnused names old new status
  bound-or_not status o = elim (cases_Bool (status == 0)) [
    | inl zero ↦ inr (bound-at_zero (subst (Outcome names given old new) (eqb-true status 0 zero) o))
    | inr other ↦ bound-at_other status (not-zero status other) o
  ]

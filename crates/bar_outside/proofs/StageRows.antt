-- How a command ends, by the ends to which its stages lead.
use Rattle.std.proofs.Common.{◌≡◌, ◌⊎◌, ℕ, Bool, true, false, List, [], Option, None, Some, Result, Ok, Err, IsTrue, IsSomeAnd, refl, sym, ap, ◌∙◌, subst, inl, inr, true≢false}
use Rattle.bar_outside.specs.Disk.{Content, Failure, readable}
use Rattle.bar_outside.specs.declared.files.CallKind.TheVariants.{Read}
use Rattle.bar_outside.specs.Plan.{Action, Outside, Plan, Names, is_stop}
use Rattle.bar_outside.specs.Stages.{Stages, Went, IsUnchanged, ComesTo, EachStage, Gone, IsCallOf, IsAccepted, IsRefused, accepts, plan_by, refuses, stage}
use Rattle.bar_outside.specs.Stages.Stages.{reads, does}
use Rattle.bar_outside.proofs.Stages.{comes-accepts, comes-stage, each-call, each-stage, ends_there}
use Rattle.bar_outside.proofs.Unlinked.{IsUnlinked, unlinked-reading}

-- nothing is done, and the command ends with this status and line
abbrev pub refusal : ℕ → List ℕ → Plan
refusal status line = record { actions = []; status = status; line = line }

-- ---- the calls that a command makes

-- each call of this end satisfies C, and none is a call of the link
pub record IsEndWithin (C : Failure → Type 0) (end : Plan) : Type 0 where
  pub unlinked : IsUnlinked end.actions
  pub calls : (call : Failure) → Names end.actions call → C call

-- the same for each call of these stages
abbrev pub IsWithin : (Failure → Type 0) → Stages → Type 0
IsWithin C stages = EachStage (λ path. C (record { kind = Read; path = path })) (IsEndWithin C) stages

pub refusal-within : (C : Failure → Type 0) (status : ℕ) (line : List ℕ) → IsEndWithin C (refusal status line)
refusal-within C status line = record { unlinked = tt; calls = λ call h. absurd h }

pub stage-within : {A E : Type 0} (C : Failure → Type 0) (path : List ℕ) (meaning : List ℕ → Result A E) (status : ℕ) (line : E → List ℕ)
    (others : A → Stages) → C (record { kind = Read; path = path }) → ((meant : A) → IsWithin C (others meant)) →
    IsWithin C (stage path meaning status line others)
stage-within C path meaning status line others h more =
    each-stage (λ path. C (record { kind = Read; path = path })) (IsEndWithin C) path meaning status line others h
    (λ fault. refusal-within C status (line fault)) more

pub named-within : (C : Failure → Type 0) (stages : Stages) (o : Option Failure) → IsWithin C stages → IsSomeAnd o (IsCallOf stages) →
    IsSomeAnd o C
named-within C stages None within h = h
named-within C stages (Some call) within h =
    elim (each-call (λ path. C (record { kind = Read; path = path })) (IsEndWithin C) stages call within h) [
      | inl one ↦ subst C (sym one.2) one.1
      | inr end ↦ end.1.calls call end.2
    ]

pub unlinked-within : (C : Failure → Type 0) (stages : Stages) (content : Content) → IsWithin C stages →
    IsUnlinked (plan_by stages content).actions
unlinked-within C (does end) content h = h.unlinked
unlinked-within C (reads path others) content h =
    unlinked-reading path (λ bytes. plan_by (others bytes)) content (λ bytes. unlinked-within C (others bytes) content (h.1 bytes))

-- if what was read is accepted and the following stages lead to this end, so do these
pub accepted-comes : {A E : Type 0} (r : Result A E) (others : A → Stages) (refused : E → Stages) (content : Content) (end : Plan) (meant : A) →
    r ≡ Ok meant → ComesTo (others meant) content end → ComesTo (accepts r others refused) content end
accepted-comes r others refused content end meant is c = subst (λ r. ComesTo (accepts r others refused) content end) (sym is) c

-- ---- a file that doesn't exist

-- with this content the stages lead to no end
abbrev pub NeverComes : Stages → Content → Type 0
NeverComes stages content = (end : Plan) → ComesTo stages content end → ⊥

-- in that case something stopped the command
pub never-stops : (stages : Stages) (old new : Outside) (status : ℕ) → NeverComes stages old.files.content → Gone stages old new status →
    is_stop status ≡ true
never-stops stages old new status never (inl same) = same.1
never-stops stages old new status never (inr end) = absurd (never end.0 end.1)

none-some : (o : Option (List ℕ)) (bytes : List ℕ) → o ≡ None → o ≡ Some bytes → ⊥
none-some o bytes e f = let same : ◌≡◌ {A = Option (List ℕ)} None (Some bytes) = sym e ∙ f in cc

some-same : (o : Option (List ℕ)) (a b : List ℕ) → o ≡ Some a → o ≡ Some b → a ≡ b
some-same o a b e f = let same : ◌≡◌ {A = Option (List ℕ)} (Some a) (Some b) = sym e ∙ f in cc

module _ {A E : Type 0} (path : List ℕ) (meaning : List ℕ → Result A E) (status : ℕ) (line : E → List ℕ) (others : A → Stages)
    (content : Content) where
  pub never-unread : readable content path ≡ None → NeverComes (stage path meaning status line others) content
  never-unread none end c = none-some (readable content path) c.0 none c.1

  -- if a stage is accepted, the end is one of the following stages
  pub stage-on : (meant : A) (end : Plan) → IsAccepted path meaning content meant →
      ComesTo (stage path meaning status line others) content end → ComesTo (others meant) content end
  stage-on meant end h c =
      subst (λ r. ComesTo (accepts r others (λ fault. refuses status (line fault))) content end)
      (ap meaning (some-same (readable content path) c.0 h.bytes c.1 h.read) ∙ h.is) c.2

  pub never-behind : (meant : A) → IsAccepted path meaning content meant → NeverComes (others meant) content →
      NeverComes (stage path meaning status line others) content
  never-behind meant h never end c = never end (stage-on meant end h c)

-- ---- what was refused, and what was accepted

-- the cause of a refusal, selected by a test of its status: this one or another
abbrev pub cause_at : Bool → Type 0 → Type 0 → Type 0
cause_at true this others = this
cause_at false this others = others

-- the end is a refusal for this cause of its status; or it is the last end, with what was accepted
abbrev pub IsSorted : {A : Type 0} → (ℕ → Type 0) → (A → Plan) → Plan → Type 0
IsSorted {A} causes last end = (causes end.status × (end.actions ≡ [])) ⊎ ((a : A) × (last a ≡ end))

-- the same for each end to which the stages lead
abbrev pub Sorts : {A : Type 0} → (ℕ → Type 0) → (A → Plan) → Content → Stages → Type 0
Sorts causes last content stages = (end : Plan) → ComesTo stages content end → IsSorted causes last end

-- nothing was changed, because of a stop or a refusal; or this was accepted, and its end was carried out, or done in part up to a stop
abbrev pub Outcome : {A : Type 0} → (ℕ → Type 0) → (A → Plan) → Outside → Outside → ℕ → Type 0
Outcome {A} causes last old new status =
    (IsUnchanged status old new × ((is_stop status ≡ true) ⊎ causes status)) ⊎ ((a : A) × Went (last a) old new status)

module _ {T : Type 0} (causes : ℕ → Type 0) (last : T → Plan) (content : Content) where
  pub sorts-last : (a : T) → Sorts causes last content (does (last a))
  sorts-last a end c = inr (a, c)

  pub sorts-refusal : (status : ℕ) (line : List ℕ) → causes status → Sorts causes last content (refuses status line)
  sorts-refusal status line why end c = inl (subst (λ (end : Plan). causes end.status × (end.actions ≡ [])) c (why, refl))

  pub sorts-accepts : {A E : Type 0} (r : Result A E) (others : A → Stages) (refused : E → Stages) →
      ((fault : E) → r ≡ Err fault → Sorts causes last content (refused fault)) →
      ((meant : A) → r ≡ Ok meant → Sorts causes last content (others meant)) → Sorts causes last content (accepts r others refused)
  sorts-accepts r others refused why more end c =
      elim (comes-accepts r others refused content end c) [ inl on ↦ more on.0 on.1 end on.2 | inr bad ↦ why bad.0 bad.1 end bad.2 ]

  pub sorts-stage : {A E : Type 0} (path : List ℕ) (meaning : List ℕ → Result A E) (status : ℕ) (line : E → List ℕ) (others : A → Stages) →
      ((fault : E) → IsRefused path meaning content fault → causes status) →
      ((meant : A) → IsAccepted path meaning content meant → Sorts causes last content (others meant)) →
      Sorts causes last content (stage path meaning status line others)
  sorts-stage path meaning status line others why more end c =
      elim (comes-stage path meaning status line others content end c) [
        | inl on ↦ more on.0 on.1 end on.2
        | inr bad ↦ sorts-refusal status (line bad.0) (why bad.0 bad.1) end bad.2
      ]

module _ {T : Type 0} (causes : ℕ → Type 0) (last : T → Plan) (old new : Outside) (status : ℕ) where
  pub outcome : (stages : Stages) → IsTrue new.files.told → Sorts causes last old.files.content stages → Gone stages old new status →
      Outcome causes last old new status
  outcome stages told sorts (inl same) = inl (same.0, inl same.1)
  outcome stages told sorts (inr on) =
      let end = on.0 in
      elim (sorts end on.1) [
        | inl refusal ↦
            let w = subst (λ (actions : List Action). Went (record { actions = actions; status = end.status; line = end.line }) old new status)
            refusal.1 on.2 in
            let there = ends_there end.status end.line old new status told w in
            inl (there.0, elim there.1 [ inl same ↦ inr (subst causes (sym same) refusal.0) | inr stop ↦ inl stop ])
        | inr a ↦ inr (a.0, subst (λ (end : Plan). Went end old new status) (sym a.1) on.2)
      ]

  -- at a refusal
  pub refused-at : is_stop status ≡ false → ((a : T) → status ≡ (last a).status → ⊥) → Outcome causes last old new status →
      IsUnchanged status old new × causes status
  refused-at go other (inl same) = (same.0, elim same.1 [ inl stop ↦ absurd (true≢false (sym stop ∙ go)) | inr why ↦ why ])
  refused-at go other (inr a) = absurd (other a.0 (a.1.carried go).is)

  -- at a status that isn't that of a refusal
  pub accepted-at : is_stop status ≡ false → (causes status → ⊥) → Outcome causes last old new status →
      (a : T) × Went (last a) old new status
  accepted-at go none (inl same) = absurd (elim same.1 [ inl stop ↦ true≢false (sym stop ∙ go) | inr why ↦ none why ])
  accepted-at go none (inr a) = a

  -- if a write failed
  pub begun-at : status ≡ 7 → Outcome causes last old new status → (a : T) × Went (last a) old new status
  begun-at seven (inl same) = absurd (same.0.no_output seven)
  begun-at seven (inr a) = a

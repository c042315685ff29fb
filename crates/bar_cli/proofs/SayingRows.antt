-- The rows for a command that reads files, and then refuses them or prints lines and changes nothing.
use Rattle.std.proofs.Common.{◌≡◌, ◌⊎◌, ◌==◌, ◌++◌, ◌∙◌, ℕ, List, [], ◌∷◌, false, IsTrue, ap, subst, inl, inr}
use Rattle.bar_outside.specs.Plan.{Outside, Plan, is_stop}
use Rattle.bar_outside.specs.Plan.Action.{show}
use Rattle.bar_outside.specs.Ends.{SameFiles, NothingPrinted}
use Rattle.bar_outside.specs.Stages.{Stages, Went, Gone, HasShown, IsUnchanged}
use Rattle.bar_outside.proofs.Stages.{shows_there}
use Rattle.bar_outside.proofs.StageRows.{Outcome, Sorts, accepted-at, begun-at, outcome, refused-at}
use Rattle.bar_cli.proofs.EndLemmas.{differ}

-- lines are printed, and the command ends with this status
abbrev pub showing : List ℕ → ℕ → Plan
showing lines final = record { actions = show lines ∷ []; status = final; line = [] }

-- Properties of such a command: a refusal has a cause with its status; what is accepted determines the lines and the status, 0 or 1.
pub record SaysInOrder {A : Type 0} (causes : ℕ → Type 0) (lines : A → List ℕ) (final : A → ℕ) (old new : Outside) (status : ℕ) : Type 0
  where
    -- at 0 and 1 all lines were printed
    pub ended : (status ≡ 0) ⊎ (status ≡ 1) → (a : A) × (status ≡ final a) × (new.out.bytes ≡ old.out.bytes ++ lines a)
    -- at a refusal nothing was printed
    pub refused : is_stop status ≡ false → (status == 0) ≡ false → (status == 1) ≡ false → IsUnchanged status old new × causes status
    -- if a write failed, and in general at every status, a prefix of the lines was printed
    pub at_output : status ≡ 7 → (a : A) × HasShown (lines a) (final a) old new status
    pub front : NothingPrinted old new ⊎ ((a : A) × HasShown (lines a) (final a) old new status)
    pub files : SameFiles old new

module _ {A : Type 0} (causes : ℕ → Type 0) (lines : A → List ℕ) (final : A → ℕ) (old new : Outside) (status : ℕ) where
  abbrev last : A → Plan
  last a = showing (lines a) (final a)

  printed : (a : A) → is_stop status ≡ false → Went (last a) old new status → HasShown (lines a) (final a) old new status →
      (a : A) × (status ≡ final a) × (new.out.bytes ≡ old.out.bytes ++ lines a)
  printed a go w h = (a, (w.carried go).is, h.whole go)

  pub says-in-order : ((a : A) → (final a ≡ 0) ⊎ (final a ≡ 1)) → (causes 0 → ⊥) → (causes 1 → ⊥) → (stages : Stages) →
      IsTrue new.files.told → Sorts causes last old.files.content stages → Gone stages old new status →
      SaysInOrder causes lines final old new status
  says-in-order small zero one stages told sorts gone =
      let came : Outcome causes last old new status = outcome causes last old new status stages told sorts gone in
      let shown = λ (a : A) (w : Went (last a) old new status). shows_there (lines a) (final a) [] old new status told w in
      let so = λ (go : is_stop status ≡ false) (none : causes status → ⊥).
      (let a = accepted-at causes last old new status go none came in printed a.0 go a.1 (shown a.0 a.1)) in
      record {
        ended = λ which. elim which [
          | inl e ↦ so (ap is_stop e) (λ why. zero (subst causes e why))
          | inr e ↦ so (ap is_stop e) (λ why. one (subst causes e why))
        ];
        refused = λ go not_zero not_one.
            refused-at causes last old new status go
            (λ a e. elim (small a) [ inl f ↦ differ status 0 not_zero (e ∙ f) | inr f ↦ differ status 1 not_one (e ∙ f) ]) came;
        at_output = λ seven. let a = begun-at causes last old new status seven came in (a.0, shown a.0 a.1);
        front = elim came [ inl same ↦ inl same.0.out | inr a ↦ inr (a.0, shown a.0 a.1) ];
        files = elim came [ inl same ↦ same.0.files | inr a ↦ (shown a.0 a.1).files ];
      }

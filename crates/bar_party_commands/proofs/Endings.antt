-- What the status of a run implies, and what an unchanged outside is.
use Rattle.std.proofs.Common.{◌≡◌, ◌⊎◌, ◌==◌, ◌∙◌, ℕ, Bool, true, false, true≢false, cond, refl, sym, ap, inl, inr, arith}
use Rattle.bar_outside.specs.Plan.{Outside}
use Rattle.bar_outside.specs.Stages.{IsUnchanged}
use Rattle.bar_party_commands.specs.Stands.{IsUntouched}

pub not-zero : (status : ℕ) → (status == 0) ≡ false → status ≡ 0 → ⊥
not-zero status test zero = true≢false (sym (ap (λ (n : ℕ). n == 0) zero) ∙ test)

-- a run that was done, with a status other than the link's, was at its end
pub ended-at : (ended : Bool) (status : ℕ) → (status ≡ 6 → ⊥) → status ≡ cond ended 0 6 → ended ≡ true
ended-at true status other e = refl
ended-at false status other e = absurd (other e)

-- if a plan asks the link again, the run isn't at its end
pub not-ended : (ended : Bool) → ◌≡◌ {A = ℕ} (cond ended 0 6) 6 → ended ≡ false
not-ended true e = absurd (omega arith)
not-ended false e = refl

-- a refusal's status differs from every status of a run
pub no-refusal : (ended : Bool) (status : ℕ) → (status ≡ 0 → ⊥) → (status ≡ 6 → ⊥) → status ≡ cond ended 0 6 → ⊥
no-refusal true status done asked e = done e
no-refusal false status done asked e = asked e

-- a run whose link never refused a call has status 0, unless memory ran out
pub done-or-memory : (ended : Bool) (status : ℕ) → (status ≡ 6 → ⊥) → (status ≡ cond ended 0 6) ⊎ (status ≡ 70) → (status ≡ 0) ⊎ (status ≡ 70)
done-or-memory true status answered either = either
done-or-memory false status answered (inl e) = absurd (answered e)
done-or-memory false status answered (inr memory) = inr memory

pub as-untouched : (status : ℕ) (old new : Outside) → IsUnchanged status old new → IsUntouched old new
as-untouched status old new same = record { files = same.files; out = same.out; wire = same.wire }

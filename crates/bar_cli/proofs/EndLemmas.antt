-- Statuses that differ.
use Rattle.std.proofs.Common.{◌≡◌, ◌==◌, ℕ, true, false, sym, ap, ◌∙◌, rules, true≢false}
use Rattle.std.proofs.lemmas.Bool.Decides.{nat_tests}
use Rattle.bar_outside.specs.Plan.{is_stop}

-- two numbers that a test distinguishes are different
pub differ : (a b : ℕ) → (a == b) ≡ false → a ≡ b → ⊥
differ a b test e = absurd (true≢false (sym (same b) ∙ sym (ap (λ (n : ℕ). n == b) e) ∙ test))
  where
    same : (n : ℕ) → (n == n) ≡ true
    same n = search (rules, nat_tests)

-- a status that isn't a stop doesn't stop the command
pub go-on : (status : ℕ) → is_stop status ≡ false → is_stop status ≡ true → ⊥
go-on status go stop = true≢false (sym stop ∙ go)

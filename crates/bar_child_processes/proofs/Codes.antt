-- The statuses of children and of sessions.
use Rattle.std.proofs.Common.{◌≡◌, ◌≢◌, ◌⊎◌, ℕ, zero, suc, ℤ, pos, negsuc, Bool, true, false, true≢false, Ok, if◌then◌else◌, refl, sym, ap, ap₂, ◌∙◌, arith}
use Rattle.std.proofs.lemmas.Bool.Decides.{nat_tests}
use Rattle.bar_child_processes.specs.Family.{Whole, code_of_end, code_of_shown, is_zero}
use Rattle.bar_child_processes.specs.Outcomes.{joined}

-- ---- joined statuses

-- nothing failed later
pub joined-none : (first : ℕ) → joined first 0 ≡ first
joined-none first = grind (arith, nat_tests)

-- a joined status is one of the two
pub joined-from : (first later n : ℕ) → joined first later ≡ n → (first ≡ n) ⊎ (later ≡ n)
joined-from first later n h = grind (arith, nat_tests)

pub joined-zero : (first later : ℕ) → joined first later ≡ 0 → (first ≡ 0) × (later ≡ 0)
joined-zero first later h = grind (arith, nat_tests)

-- running out of memory takes precedence
pub joined-memory : (first later : ℕ) → joined first later ≢ 70 → (first ≢ 70) × (later ≢ 70)
joined-memory first later h = grind (arith, nat_tests)

-- ---- a child's status

pub zero-is : (status : ℤ) → is_zero status ≡ true → status ≡ pos 0
zero-is (pos zero) h = refl
zero-is (pos (suc n)) h = absurd (true≢false (sym h))
zero-is (negsuc n) h = absurd (true≢false (sym h))

other-status : (status : ℤ) → (status ≡ pos 0 → ⊥) → is_zero status ≡ false
other-status (pos zero) h = absurd (h refl)
other-status (pos (suc n)) h = refl
other-status (negsuc n) h = refl

-- a printed status of 0
pub code-zero : (first : ℕ) (status : ℤ) → status ≡ pos 0 →
    joined (joined first (code_of_shown Whole)) (code_of_end Whole (Ok status)) ≡ first
code-zero first status h =
    ap₂ joined (joined-none first) (ap (λ (b : Bool). if b then 0 else 9) (ap is_zero h)) ∙ joined-none first

-- a printed status other than 0
pub code-other : (first : ℕ) (status : ℤ) → (status ≡ pos 0 → ⊥) →
    joined (joined first (code_of_shown Whole)) (code_of_end Whole (Ok status)) ≡ joined first 9
code-other first status h = ap₂ joined (joined-none first) (ap (λ (b : Bool). if b then 0 else 9) (other-status status h))

-- The child that determines the status of a session.
use Rattle.std.proofs.Common.{◌≡◌, ◌⊎◌, ◌∷◌, ◌++◌, [], ℕ, ℤ, List, Bool, true, false, Result, Ok, Err, if◌then◌else◌, refl, ap, ◌∙◌, inl, inr, arith}
use Rattle.std.specs.List.{list_any}
use Rattle.std.proofs.lemmas.Bool.{or_left, or_right}
use Rattle.std.proofs.lemmas.List.Folds.{list_any-append}
use Rattle.bar_outside.specs.declared.spawner.ChildFault.{ChildFault}
use Rattle.bar_outside.specs.declared.spawner.ChildFault.TheVariants as fault
use Rattle.bar_child_processes.specs.Family.{Child, Shown, Whole, Refused, Wanting, Untried, code_of_end, code_of_shown, code_of_wait, is_refused, is_refused_wait, is_zero, with_child, with_children}
use Rattle.bar_child_processes.proofs.Codes.{joined-from}

pub data Why (n : ℕ) (child : Child) : Type 0 where
  by_wait : code_of_wait child.ended ≡ n → Why n child
  by_line : code_of_shown child.shown ≡ n → Why n child
  by_end : code_of_end child.shown child.ended ≡ n → Why n child

-- a child of the family that determines this status
pub record Cause (n : ℕ) (family : List Child) : Type 0 where
  pub front : List Child
  pub child : Child
  pub back : List Child
  pub is : family ≡ front ++ child ∷ back
  pub why : Why n child

why-child : (so_far n : ℕ) (child : Child) → with_child so_far child ≡ n → (so_far ≡ n) ⊎ Why n child
why-child so_far n child h =
    elim (joined-from _ (code_of_end child.shown child.ended) n h) [
      | inr end ↦ inr (by_end end)
      | inl line ↦ elim (joined-from _ (code_of_shown child.shown) n line) [
        | inr line ↦ inr (by_line line)
        | inl wait ↦ elim (joined-from so_far (code_of_wait child.ended) n wait) [ inr wait ↦ inr (by_wait wait) | inl before ↦ inl before ]
      ]
    ]

pub cause-of : (so_far n : ℕ) (family : List Child) → with_children so_far family ≡ n → (so_far ≡ n) ⊎ Cause n family
cause-of so_far n [] h = inl h
cause-of so_far n (child ∷ family) h =
    elim (cause-of (with_child so_far child) n family h) [
      | inr later ↦ inr (record {
        front = child ∷ later.front;
        child = later.child;
        back = later.back;
        is = ap (λ xs. child ∷ xs) later.is;
        why = later.why;
      })
      | inl here ↦ elim (why-child so_far n child here) [
        | inl before ↦ inl before
        | inr why ↦ inr (record { front = []; child = child; back = family; is = refl; why = why })
      ]
    ]

-- if this child of the family passes a test, some child does
pub any-there : (test : Child → Bool) (family front back : List Child) (child : Child) → family ≡ front ++ child ∷ back →
    test child ≡ true → list_any test family ≡ true
any-there test family front back child e h =
    ap (list_any test) e ∙ (list_any-append test front (child ∷ back) ∙ or_right (list_any test front) _ (or_left (test child) _ h))

pub wait-nine : (ended : Result ℤ ChildFault) → code_of_wait ended ≡ 9 → is_refused_wait ended ≡ true
wait-nine (Ok status) h = absurd (omega (arith, h))
wait-nine (Err fault.Failed) h = refl
wait-nine (Err fault.NoMemory) h = absurd (omega (arith, h))

pub wait-seven : (ended : Result ℤ ChildFault) → code_of_wait ended ≡ 7 → ⊥
wait-seven (Ok status) h = omega (arith, h)
wait-seven (Err fault.Failed) h = omega (arith, h)
wait-seven (Err fault.NoMemory) h = omega (arith, h)

pub line-nine : (shown : Shown) → code_of_shown shown ≡ 9 → ⊥
line-nine Whole h = omega (arith, h)
line-nine Refused h = omega (arith, h)
line-nine Wanting h = omega (arith, h)
line-nine Untried h = omega (arith, h)

pub line-seven : (shown : Shown) → code_of_shown shown ≡ 7 → is_refused shown ≡ true
line-seven Whole h = absurd (omega (arith, h))
line-seven Refused h = refl
line-seven Wanting h = absurd (omega (arith, h))
line-seven Untried h = absurd (omega (arith, h))

-- a printed status other than 0
abbrev pub IsPrintedFailure : Shown → Result ℤ ChildFault → Type 0
IsPrintedFailure shown ended = (status : ℤ) × (ended ≡ Ok status) × (shown ≡ Whole) × (is_zero status ≡ false)

-- the status that an end contributes, by whether it is 0
abbrev pub code_unless : Bool → ℕ
code_unless none = if none then 0 else 9

failure-of : (b : Bool) → code_unless b ≡ 9 → b ≡ false
failure-of true h = absurd (omega (arith, h))
failure-of false h = refl

pub end-nine : (shown : Shown) (ended : Result ℤ ChildFault) → code_of_end shown ended ≡ 9 → IsPrintedFailure shown ended
end-nine Whole (Ok status) h = (status, refl, refl, failure-of (is_zero status) h)
end-nine _ _ h = absurd (omega (arith, h))

no-seven : (b : Bool) → code_unless b ≡ 7 → ⊥
no-seven true h = omega (arith, h)
no-seven false h = omega (arith, h)

pub end-seven : (shown : Shown) (ended : Result ℤ ChildFault) → code_of_end shown ended ≡ 7 → ⊥
end-seven Whole (Ok status) h = no-seven (is_zero status) h
end-seven _ _ h = omega (arith, h)

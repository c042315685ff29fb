-- The lists of a store's table.
use Rattle.std.proofs.Common.{◌≡◌, ℕ, Bool, true, false, List, Option, Some, None, refl, sym, ap, subst, ◌∙◌, inl, inr}
use Rattle.std.specs.Prelude.{IsNone, IsTrue, ◌==◌, if◌then◌else◌}
use Rattle.std.specs.Bool.{OnTrue, OnFalse, then_some}
use Rattle.std.specs.Option.{option_or}
use Rattle.std.proofs.lemmas.Bool.{cases_eq, ne_eqb, false≢true}
use Rattle.bar_terms.specs.Table.{Lists, digests_of}
use Rattle.bar_terms.specs.Code.Room.{TableWithRoom}

pub same_numbers : (added : Bool) (old new : TableWithRoom) → OnFalse added (new ≡ old) → OnTrue added ((new.rounds ≡ old.rounds) × (new.per_round ≡ old.per_round))
    → (new.rounds ≡ old.rounds) × (new.per_round ≡ old.per_round)
same_numbers false old new had room = (ap (λ (t : TableWithRoom). t.rounds) had, ap (λ (t : TableWithRoom). t.per_round) had)
same_numbers true old new had room = room

by_test : (b : Bool) (o : Option (List (List ℕ))) (list : List (List ℕ)) → (b ≡ true → IsNone o) → (if b then Some list else o) ≡ option_or o (then_some b list)
by_test true None list none = refl
by_test true (Some ds) list none = absurd (false≢true (sym (none refl)))
by_test false None list none = refl
by_test false (Some ds) list none = refl

-- a list is added where there was none
added_is : (r round : ℕ) (old : Lists) (list : List (List ℕ)) → IsNone (digests_of old round)
    → (if r == round then Some list else digests_of old r) ≡ option_or (digests_of old r) (then_some (r == round) list)
added_is r round old list none = elim (cases_eq r round) [
  | inl e ↦ by_test (r == round) (digests_of old r) list (λ t. subst (λ n. IsNone (digests_of old n)) (sym e) none)
  | inr ne ↦ by_test (r == round) (digests_of old r) list (λ t. absurd (false≢true (sym (ne_eqb r round ne) ∙ t)))
]

pub has_after : (added : Bool) (round : ℕ) (old new : Lists) (list : List (List ℕ)) → (IsTrue added → IsNone (digests_of old round))
    → OnTrue added ((r : ℕ) → digests_of new r ≡ (if r == round then Some list else digests_of old r))
    → OnTrue added ((r : ℕ) → digests_of new r ≡ option_or (digests_of old r) (then_some (r == round) list))
has_after false round old new list none has = has
has_after true round old new list none has = λ r. has r ∙ added_is r round old list (none refl)

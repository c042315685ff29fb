-- What is left after exchanges are forgotten.
use Rattle.std.proofs.Common.{◌≡◌, ℕ, ◌+◌, ◌≤◌, Bool, true, false, cond, List, [], ◌∷◌, ◌++◌, Option, Some, None, refl, sym, ap, subst, ◌∙◌, inl, inr, arith, count_by}
use Rattle.std.specs.Prelude.{filter, option_and_then, if◌then◌else◌}
use Rattle.std.specs.Option.{option_to_list}
use Rattle.std.specs.List.{find, IsDistinct}
use Rattle.std.proofs.lemmas.Bool.{cases_Bool, both_ways, leb-true}
use Rattle.std.proofs.lemmas.Bool.Decides.{nat_tests}
use Rattle.std.proofs.lemmas.List.Elements.{filter-append}
use Rattle.std.proofs.lemmas.List.Sums.{sum_by-cons}
use Rattle.bar_window.specs.declared.exchange.Exchange.{Exchange}
use Rattle.bar_window.specs.Exchange.{same_exchange}
use Rattle.bar_window.proofs.Exchanges.{same_exchange-is}
use Rattle.bar_ledger.specs.declared.slot.Slot.{Slot}
use Rattle.bar_ledger.specs.Code.Kept.{Kept, kept_of, is_for, is_recent, if_recent, live_of}
use Rattle.bar_ledger.specs.Code.Slots.{entries_of, exchanges_of}
use Rattle.bar_ledger.proofs.Distinct.{distinct-filter}

-- the kept states whose exchanges pass a test
abbrev pub passing : (Exchange → Bool) → List Kept → List Kept
passing test ks = filter (λ k. test k.entry.x) ks

-- an exchange that is recent later is recent now
pub recent-before : (life now later : ℕ) (x : Exchange) → now ≤ later → is_recent life later x ≡ true → is_recent life now x ≡ true
recent-before life now later x le t = let late : later ≤ x.round + life = leb-true later (x.round + life) t in grind (arith, nat_tests, le, late)

later-one : (life now later : ℕ) (o : Option Kept) → now ≤ later
    → option_to_list (option_and_then (if_recent life later) o) ≡ passing (is_recent life later) (option_to_list (option_and_then (if_recent life now) o))
later-one life now later None le = refl
later-one life now later (Some k) le = elim (cases_Bool (is_recent life later k.entry.x)) [
  | inl t ↦ let before : is_recent life now k.entry.x ≡ true = recent-before life now later k.entry.x le t in rw (before, t) refl
  | inr f ↦ elim (cases_Bool (is_recent life now k.entry.x)) [ inl t ↦ rw (t, f) refl | inr g ↦ rw (g, f) refl ]
]

pub entries-later : (life now later : ℕ) (slots : List Slot) → now ≤ later → entries_of life later slots ≡ passing (is_recent life later) (entries_of life now slots)
unfolding entries_of
entries-later life now later [] le = refl
entries-later life now later (s ∷ ss) le =
    (λ i. later-one life now later (kept_of s) le i ++ entries-later life now later ss le i)
    ∙ sym (filter-append (λ (k : Kept). is_recent life later k.entry.x) (option_to_list (live_of life now s)) (entries_of life now ss))

-- ---- look-ups among those that pass

found-skips : (x : Exchange) (test : Exchange → Bool) (k : Kept) (ks : List Kept) → test k.entry.x ≡ false → find (is_for x) (passing test ks) ≡ cond (test x) (find (is_for x) ks) None
    → find (is_for x) (passing test ks) ≡ cond (test x) (find (is_for x) (k ∷ ks)) None
found-skips x test k ks fail rest = elim (cases_Bool (is_for x k)) [
  | inl same ↦
      let out : test x ≡ false = subst (λ z. test z ≡ false) (same_exchange-is k.entry.x x same) fail in
      rest ∙ ap (λ b. cond b (find (is_for x) ks) None) out ∙ sym (ap (λ b. cond b (find (is_for x) (k ∷ ks)) None) out)
  | inr other ↦ rw other rest
]

found-keeps : (x : Exchange) (test : Exchange → Bool) (k : Kept) (ks : List Kept) → test k.entry.x ≡ true → find (is_for x) (passing test ks) ≡ cond (test x) (find (is_for x) ks) None
    → find (is_for x) (k ∷ passing test ks) ≡ cond (test x) (find (is_for x) (k ∷ ks)) None
found-keeps x test k ks pass rest = elim (cases_Bool (is_for x k)) [
  | inl same ↦
      let out : test x ≡ true = subst (λ z. test z ≡ true) (same_exchange-is k.entry.x x same) pass in
      rw (same, out) refl
  | inr other ↦ rw other rest
]

pub found-passing : (x : Exchange) (test : Exchange → Bool) (ks : List Kept) → find (is_for x) (passing test ks) ≡ (if test x then find (is_for x) ks else None)
found-passing x test [] = elim (cases_Bool (test x)) [ inl t ↦ rw t refl | inr f ↦ rw f refl ]
found-passing x test (k ∷ ks) = elim (cases_Bool (test k.entry.x)) [
  | inl pass ↦ ap (λ b. find (is_for x) (cond b (k ∷ passing test ks) (passing test ks))) pass ∙ found-keeps x test k ks pass (found-passing x test ks)
  | inr fail ↦ ap (λ b. find (is_for x) (cond b (k ∷ passing test ks) (passing test ks))) fail ∙ found-skips x test k ks fail (found-passing x test ks)
]

pub exchanges-passing : (test : Exchange → Bool) (ks : List Kept) → exchanges_of (passing test ks) ≡ filter test (exchanges_of ks)
exchanges-passing test [] = refl
exchanges-passing test (k ∷ ks) = elim (cases_Bool (test k.entry.x)) [
  | inl pass ↦ rw pass (ap (λ xs. k.entry.x ∷ xs) (exchanges-passing test ks))
  | inr fail ↦ rw fail (exchanges-passing test ks)
]

count-cons : (p : Kept → Bool) (k : Kept) (ks : List Kept) → count_by p (k ∷ ks) ≡ cond (p k) 1 0 + count_by p ks
count-cons p k ks = sum_by-cons (λ k. cond (p k) 1 0) k ks

pub count-passing : (p : Kept → Bool) (test : Exchange → Bool) (ks : List Kept) → ((k : Kept) → p k ≡ true → test k.entry.x ≡ true) → count_by p (passing test ks) ≡ count_by p ks
count-passing p test [] all = refl
count-passing p test (k ∷ ks) all = elim (cases_Bool (test k.entry.x)) [
  | inl pass ↦ rw pass (count-cons p k (passing test ks) ∙ ap (λ n. cond (p k) 1 0 + n) (count-passing p test ks all) ∙ sym (count-cons p k ks))
  | inr fail ↦ elim (cases_Bool (p k)) [
    | inl t ↦ absurd (both_ways (test k.entry.x) fail (all k t))
    | inr f ↦
        let same : count_by p (k ∷ ks) ≡ count_by p ks = omega (arith, count-cons p k ks ∙ ap (λ b. cond b 1 0 + count_by p ks) f) in
        rw fail (count-passing p test ks all ∙ sym same)
  ]
]

pub later-distinct : (life now later : ℕ) (slots : List Slot) → now ≤ later → IsDistinct same_exchange (exchanges_of (entries_of life now slots)) → IsDistinct same_exchange (exchanges_of (entries_of life later slots))
later-distinct life now later slots le d =
    subst (IsDistinct same_exchange) (sym (ap exchanges_of (entries-later life now later slots le) ∙ exchanges-passing (is_recent life later) (entries_of life now slots)))
    (distinct-filter (is_recent life later) (exchanges_of (entries_of life now slots)) d)

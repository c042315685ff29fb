-- Children that keep running while others are started and waited for.
use Rattle.std.proofs.Common.{◌≡◌, ◌∷◌, ◌++◌, ◌==◌, [], ℕ, ℤ, List, Bool, true, false, true≢false, Option, map, refl, sym, ap, ◌∙◌, subst, arith}
use Rattle.std.specs.List.{list_any}
use Rattle.std.proofs.lemmas.Bool.{or_from, or_left, or_parts}
use Rattle.std.proofs.lemmas.Bool.Decides.{nat_tests}
use Rattle.std.proofs.lemmas.List.Folds.{list_any-append}
use Rattle.bar_outside.specs.Code.Children.{ChildCall, IsRunning, Started, Waited, is_named, is_started, starts, waits}
use Rattle.bar_outside.proofs.OpenLemmas.{new-running}
use Rattle.bar_child_processes.specs.Family.{Child, wait_of, status_in}
use Rattle.bar_child_processes.specs.Sessions.{AreRunning, key_of}

-- ---- one more call

same-reversed : (a b : ℕ) → (a == b) ≡ false → (b == a) ≡ false
same-reversed a b h = grind (arith, nat_tests)

-- another child is waited for
still-waited : (calls : List ChildCall) (child other : ℕ) (status : Option ℤ) → (child == other) ≡ false → IsRunning child calls →
    IsRunning child (calls ++ Waited other status ∷ [])
still-waited calls child other status differs running = record {
  started = list_any-append (starts child) calls (Waited other status ∷ []) ∙ or_left _ _ running.started;
  unwaited = list_any-append (waits child) calls (Waited other status ∷ [])
      ∙ or_from _ _ running.unwaited (or_from _ _ (same-reversed child other differs) refl);
}

-- another is started
still-started : (calls : List ChildCall) (child other : ℕ) (words : List (List ℕ)) → IsRunning child calls →
    IsRunning child (calls ++ Started words other ∷ [])
still-started calls child other words running = record {
  started = list_any-append (starts child) calls (Started words other ∷ []) ∙ or_left _ _ running.started;
  unwaited = list_any-append (waits child) calls (Started words other ∷ []) ∙ or_from _ _ running.unwaited refl;
}

-- ---- children that no call names

not-started : (calls : List ChildCall) (child : ℕ) → is_named child calls ≡ false → is_started child calls ≡ false
not-started [] child h = refl
not-started (Started words other ∷ calls) child h =
    let parts = or_parts (other == child) (is_named child calls) h in or_from _ _ parts.0 (not-started calls child parts.1)
not-started (Waited other status ∷ calls) child h =
    let parts = or_parts (other == child) (is_named child calls) h in not-started calls child parts.1

-- a child that was started differs from one that no call names
is-other : (calls : List ChildCall) (child other : ℕ) → is_started child calls ≡ true → is_named other calls ≡ false →
    (other == child) ≡ false
is-other calls child other started unnamed = by-same (other == child) refl
  where
    by-same : (same : Bool) → (other == child) ≡ same → same ≡ false
    by-same false e = refl
    by-same true e =
        let here : other ≡ child = grind (arith, nat_tests) in
        absurd (true≢false (sym started ∙ subst (λ (k : ℕ). is_started k calls ≡ false) here (not-started calls other unnamed)))

-- ---- all of them

others-waited : (calls : List ChildCall) (other : ℕ) (status : Option ℤ) (ns : List ℕ) → list_any (λ m. m == other) ns ≡ false →
    AreRunning calls ns → AreRunning (calls ++ Waited other status ∷ []) ns
others-waited calls other status [] differ running = tt
others-waited calls other status (n ∷ ns) differ running =
    let parts = or_parts (n == other) (list_any (λ m. m == other) ns) differ in
    (still-waited calls n other status parts.0 running.0, (running.1.0, others-waited calls other status ns parts.1 running.1.1))

-- the first child was waited for
pub running-waited : (calls : List ChildCall) (family : List Child) (party n : ℕ) (ns : List ℕ) → map key_of family ≡ (party, n) ∷ [] →
    AreRunning calls (n ∷ ns) → AreRunning (calls ++ map wait_of family) ns
running-waited calls [] party n ns are running = absurd cc
running-waited calls (child ∷ []) party n ns are running =
    let same : child.number ≡ n = ap (λ key. key.1) (cons-head are) in
    subst (λ (k : ℕ). AreRunning (calls ++ Waited k (status_in child.ended) ∷ []) ns) (sym same)
    (others-waited calls n (status_in child.ended) ns running.1.0 running.1.1)
  where
    cons-head : {x y : ℕ × ℕ} {xs ys : List (ℕ × ℕ)} → x ∷ xs ≡ y ∷ ys → x ≡ y
    cons-head e = cc
running-waited calls (child ∷ next ∷ family) party n ns are running = absurd cc

-- one more child was started
pub running-started : (calls : List ChildCall) (words : List (List ℕ)) (n : ℕ) (ns : List ℕ) → is_named n calls ≡ false →
    AreRunning calls ns → AreRunning (calls ++ Started words n ∷ []) (ns ++ n ∷ [])
running-started calls words n [] unnamed running = (
  new-running calls words n unnamed,
  (refl, tt),
)
running-started calls words n (m ∷ ns) unnamed running = (
  still-started calls m n words running.0,
  (
    list_any-append (λ k. k == m) ns (n ∷ [])
        ∙ or_from _ _ running.1.0 (or_from _ _ (is-other calls m n running.0.started unnamed) refl),
    running-started calls words n ns unnamed running.1.1,
  ),
)

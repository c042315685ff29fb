-- The pairs of a memo's places, and a place that is found and moved to the front.
use Rattle.std.proofs.Common.{◌≡◌, ℕ, ◌+◌, ◌≤◌, ◌||◌, Bool, true, false, List, [], ◌∷◌, length, Option, Some, None, nat_eq, refl, sym, ap, ◌∙◌, subst, arith, is_some, cond}
use Rattle.std.proofs.lemmas.Bool.Decides.{nat_tests}
use Rattle.std.proofs.lemmas.Bool.{and_parts}
use Rattle.std.proofs.lemmas.Slice.Eq.{bytes_eq-Decides}
use Rattle.std.proofs.lemmas.Option.{same_Some}
use Rattle.std.specs.List.{find, cons_option, IsDistinct, AllByRecursion}
use Rattle.std.specs.Map.{keys_of, lookup_entry, remove_entry}
use Rattle.std.specs.Option.{option_map_or}
use Rattle.std.specs.Str.{bytes_eq}
use Rattle.bar_seal.specs.declared.checked.Checked.{Checked}
use Rattle.bar_seal.specs.Code.Memo.{Pair, same_pair, pair_in, keeps, pairs_in, has_pair, but}
use Rattle.bar_seal.specs.Code.Places.{AreSome, IsFilledFirst, IsRoomy}

abbrev pub Place : Type 0
Place = ℕ × Checked

abbrev pub keeps_pair : Pair → Place → Bool
keeps_pair p e = keeps p e.1

-- a pair equals itself, and only itself
pub same_self : (p : Pair) → same_pair p p ≡ true
same_self p = rw ((bytes_eq-Decides p.0 p.0).1 refl, (bytes_eq-Decides p.1 p.1).1 refl) refl

pub same_only : (p q : Pair) → same_pair p q ≡ true → q ≡ p
same_only p q same =
    let parts = and_parts (bytes_eq q.0 p.0) (bytes_eq q.1 p.1) same in
    let key : q.0 ≡ p.0 = (bytes_eq-Decides q.0 p.0).0 parts.0 in
    let datagram : q.1 ≡ p.1 = (bytes_eq-Decides q.1 p.1).0 parts.1 in
    λ i. (key i, datagram i)

-- whether a pair is kept
has_test : (b : Bool) (e : Place) (has : Bool) (r : Option Place) → has ≡ is_some r → (b || has) ≡ is_some (cond b (Some e) r)
has_test true e has r same = refl
has_test false e has r same = same

has_by : (p : Pair) (o : Option Pair) (e : Place) (qs : List Pair) (r : Option Place) → has_pair p qs ≡ is_some r
    → has_pair p (cons_option o qs) ≡ is_some (cond (option_map_or (same_pair p) o false) (Some e) r)
has_by p None e qs r same = same
has_by p (Some q) e qs r same = has_test (same_pair p q) e (has_pair p qs) r same

pub has_found : (p : Pair) (es : List Place) → has_pair p (pairs_in es) ≡ is_some (find (keeps_pair p) es)
has_found p [] = refl
has_found p (e ∷ es) = has_by p (pair_in e.1) e (pairs_in es) (find (keeps_pair p) es) (has_found p es)

-- A place is the one that keeps a pair.
pub record IsFound (p : Pair) (es : List Place) (e : Place) : Type 0 where
  pub entry : lookup_entry (nat_eq e.0) es ≡ Some e
  pub pair : pair_in e.1 ≡ Some p
  pub others : pairs_in (remove_entry (nat_eq e.0) es) ≡ but p (pairs_in es)

pub nat_eq_self : (n : ℕ) → nat_eq n n ≡ true
nat_eq_self n = grind (arith, nat_tests)

nat_eq_other : (m n : ℕ) → nat_eq m n ≡ false → nat_eq n m ≡ false
nat_eq_other m n other = grind (arith, nat_tests)

-- If a number isn't among those of the places, it is different from each of them.
pub key_apart : (k : ℕ) (es : List Place) (e : Place) → AllByRecursion (λ n. nat_eq k n ≡ false) (keys_of es) → lookup_entry (nat_eq e.0) es ≡ Some e → nat_eq e.0 k ≡ false
key_apart k [] e apart found = absurd cc
key_apart k (f ∷ es) e apart found =
    (elim (nat_eq e.0 f.0) as (λ b. nat_eq e.0 f.0 ≡ b → nat_eq e.0 k ≡ false) [
      | true ↦ λ t. let same : f ≡ e = same_Some f e (rw t at found) in nat_eq_other k e.0 (subst (λ (x : Place). nat_eq k x.0 ≡ false) same apart.0)
      | false ↦ λ t. key_apart k es e apart.1 (rw t at found)
    ]) refl

pair_kept : (p : Pair) (o : Option Pair) → option_map_or (same_pair p) o false ≡ true → o ≡ Some p
pair_kept p None kept = absurd cc
pair_kept p (Some q) kept = ap Some (same_only p q kept)

but_first : (p : Pair) (o : Option Pair) (qs : List Pair) → o ≡ Some p → qs ≡ but p (cons_option o qs)
but_first p o qs is = rw is (rw (same_self p) refl)

but_later : (p : Pair) (o : Option Pair) (qs rest : List Pair) → option_map_or (same_pair p) o false ≡ false → rest ≡ but p qs → cons_option o rest ≡ but p (cons_option o qs)
but_later p None qs rest other same = same
but_later p (Some q) qs rest other same = rw other (ap (λ rs. q ∷ rs) same)

first_found : (p : Pair) (e : Place) (es : List Place) → keeps_pair p e ≡ true → IsFound p (e ∷ es) e
first_found p e es keeps = record {
  entry = rw (nat_eq_self e.0) refl;
  pair = pair_kept p (pair_in e.1) keeps;
  others = rw (nat_eq_self e.0) (but_first p (pair_in e.1) (pairs_in es) (pair_kept p (pair_in e.1) keeps));
}

later_found : (p : Pair) (f e : Place) (es : List Place) → AllByRecursion (λ n. nat_eq f.0 n ≡ false) (keys_of es) → keeps_pair p f ≡ false → IsFound p es e → IsFound p (f ∷ es) e
later_found p f e es apart other found =
    let differs : nat_eq e.0 f.0 ≡ false = key_apart f.0 es e apart found.entry in
    record {
      entry = rw differs found.entry;
      pair = found.pair;
      others = rw differs (but_later p (pair_in f.1) (pairs_in es) (pairs_in (remove_entry (nat_eq e.0) es)) other found.others);
    }

pub found : (p : Pair) (es : List Place) (e : Place) → IsDistinct nat_eq (keys_of es) → find (keeps_pair p) es ≡ Some e → IsFound p es e
unfolding IsDistinct
found p [] e apart is = absurd cc
found p (f ∷ es) e apart is =
    (elim (keeps_pair p f) as (λ b. keeps_pair p f ≡ b → IsFound p (f ∷ es) e) [
      | true ↦ λ t. subst (IsFound p (f ∷ es)) (same_Some f e (rw t at is)) (first_found p f es t)
      | false ↦ λ t. later_found p f e es apart.0 t (found p es e apart.1 (rw t at is))
    ]) refl

-- what holds for all places holds for all but one, and for the one
pub all_but : (P : Place → Type 0) (test : ℕ → Bool) (es : List Place) → AllByRecursion P es → AllByRecursion P (remove_entry test es)
all_but P test [] all = tt
all_but P test (f ∷ es) all =
    (elim (test f.0) as (λ b. test f.0 ≡ b → AllByRecursion P (remove_entry test (f ∷ es))) [
      | true ↦ λ t. rw t all.1
      | false ↦ λ t. rw t (all.0, all_but P test es all.1)
    ]) refl

pub all_found : (P : Place → Type 0) (test : ℕ → Bool) (es : List Place) (e : Place) → AllByRecursion P es → lookup_entry test es ≡ Some e → P e
all_found P test [] e all is = absurd cc
all_found P test (f ∷ es) e all is =
    (elim (test f.0) as (λ b. test f.0 ≡ b → P e) [
      | true ↦ λ t. subst P (same_Some f e (rw t at is)) all.0
      | false ↦ λ t. all_found P test es e all.1 (rw t at is)
    ]) refl

filled_but : (test : ℕ → Bool) (es : List Place) → IsFilledFirst es → IsFilledFirst (remove_entry test es)
filled_but test [] filled = tt
filled_but test (f ∷ es) filled =
    (elim (test f.0) as (λ b. test f.0 ≡ b → IsFilledFirst (remove_entry test (f ∷ es))) [
      | true ↦ λ t. rw t filled.1
      | false ↦ λ t. rw t ((λ none. all_but (λ e. pair_in e.1 ≡ None) test es (filled.0 none)), filled_but test es filled.1)
    ]) refl

keys_but : (P : ℕ → Type 0) (test : ℕ → Bool) (es : List Place) → AllByRecursion P (keys_of es) → AllByRecursion P (keys_of (remove_entry test es))
keys_but P test [] all = tt
keys_but P test (f ∷ es) all =
    (elim (test f.0) as (λ b. test f.0 ≡ b → AllByRecursion P (keys_of (remove_entry test (f ∷ es)))) [
      | true ↦ λ t. rw t all.1
      | false ↦ λ t. rw t (all.0, keys_but P test es all.1)
    ]) refl

apart_but : (test : ℕ → Bool) (es : List Place) → IsDistinct nat_eq (keys_of es) → IsDistinct nat_eq (keys_of (remove_entry test es))
unfolding IsDistinct
apart_but test [] apart = tt
apart_but test (f ∷ es) apart =
    (elim (test f.0) as (λ b. test f.0 ≡ b → IsDistinct nat_eq (keys_of (remove_entry test (f ∷ es)))) [
      | true ↦ λ t. rw t apart.1
      | false ↦ λ t. rw t (keys_but (λ n. nat_eq f.0 n ≡ false) test es apart.0, apart_but test es apart.1)
    ]) refl

nat_eq_is : (m n : ℕ) → nat_eq m n ≡ true → n ≡ m
nat_eq_is m n e = grind (arith, nat_tests)

-- the other places have other numbers
others_apart : (k : ℕ) (es : List Place) → IsDistinct nat_eq (keys_of es) → AllByRecursion (λ n. nat_eq k n ≡ false) (keys_of (remove_entry (nat_eq k) es))
unfolding IsDistinct
others_apart k [] apart = tt
others_apart k (f ∷ es) apart =
    (elim (nat_eq k f.0) as (λ b. nat_eq k f.0 ≡ b → AllByRecursion (λ n. nat_eq k n ≡ false) (keys_of (remove_entry (nat_eq k) (f ∷ es)))) [
      | true ↦ λ t. rw t (subst (λ (m : ℕ). AllByRecursion (λ n. nat_eq m n ≡ false) (keys_of es)) (nat_eq_is k f.0 t) apart.0)
      | false ↦ λ t. rw t (t, others_apart k es apart.1)
    ]) refl

pub length_but : (test : ℕ → Bool) (es : List Place) (e : Place) → lookup_entry test es ≡ Some e → length (remove_entry test es) + 1 ≡ length es
length_but test [] e is = absurd cc
length_but test (f ∷ es) e is =
    (elim (test f.0) as (λ b. test f.0 ≡ b → length (remove_entry test (f ∷ es)) + 1 ≡ length (f ∷ es)) [
      | true ↦ λ t. rw t (omega arith)
      | false ↦ λ t. rw t (omega (arith, length_but test es e (rw t at is)))
    ]) refl

-- a place that keeps a pair is moved to the front
pub fronted : (es : List Place) (e : Place) (c : Checked) (p : Pair) → AreSome es → IsRoomy c → pair_in c ≡ Some p → AreSome ((e.0, c) ∷ remove_entry (nat_eq e.0) es)
unfolding IsDistinct
fronted es e c p some roomy pair = record {
  apart = (others_apart e.0 es some.apart, apart_but (nat_eq e.0) es some.apart);
  roomy = (roomy, all_but (λ e. IsRoomy e.1) (nat_eq e.0) es some.roomy);
  filled = ((λ none. absurd (full p (sym pair ∙ none))), filled_but (nat_eq e.0) es some.filled);
}
  where
    full : (q : Pair) → Some q ≡ None → ⊥
    full q is = cc

-- there are at most as many pairs as places
pub few_pairs : (es : List Place) → length (pairs_in es) ≤ length es
few_pairs [] = omega arith
few_pairs (e ∷ es) = more (pair_in e.1) (pairs_in es) (few_pairs es)
  where
    more : (o : Option Pair) (ps : List Pair) → length ps ≤ length es → length (cons_option o ps) ≤ length (e ∷ es)
    more None ps few = omega (arith, few)
    more (Some p) ps few = omega (arith, few)

pub length_but_pair : (p : Pair) (ps : List Pair) → has_pair p ps ≡ true → length (but p ps) + 1 ≡ length ps
length_but_pair p [] has = absurd cc
length_but_pair p (q ∷ qs) has =
    (elim (same_pair p q) as (λ b. same_pair p q ≡ b → length (but p (q ∷ qs)) + 1 ≡ length (q ∷ qs)) [
      | true ↦ λ t. rw t (omega arith)
      | false ↦ λ t. rw t (omega (arith, length_but_pair p qs (rw t at has)))
    ]) refl

pub but_new : (p : Pair) (ps : List Pair) → has_pair p ps ≡ false → but p ps ≡ ps
but_new p [] new = refl
but_new p (q ∷ qs) new =
    (elim (same_pair p q) as (λ b. same_pair p q ≡ b → but p (q ∷ qs) ≡ q ∷ qs) [
      | true ↦ λ t. absurd (never (rw t at new))
      | false ↦ λ t. rw t (ap (λ (rs : List Pair). q ∷ rs) (but_new p qs (rw t at new)))
    ]) refl
  where
    never : true ≡ false → ⊥
    never is = cc

-- A pair of a memo that is found, and a new one that is kept.
use Rattle.std.proofs.Common.{◌≡◌, ℕ, zero, suc, ◌-◌, ◌≤◌, ◌<◌, true, false, List, [], ◌∷◌, length, take, Option, Some, None, nat_eq, refl, sym, ap, ◌∙◌, subst, arith, is_some, option_map}
use Rattle.std.proofs.lemmas.Option.{same_Some}
use Rattle.std.proofs.lemmas.List.{take_all}
use Rattle.std.specs.Prelude.{slice_get}
use Rattle.std.specs.List.{find, cons_option, IsDistinct, AllByRecursion}
use Rattle.std.specs.Map.{keys_of, lookup, lookup_entry, remove_entry, set_value}
use Rattle.std.specs.Prelude.{IfSome, IsSome}
use Rattle.std.specs.Option.{option_map_or}
use Rattle.lru.specs.LruCache.{LruCache, lru_cache, promoted, last_entry}
use Rattle.bar_seal.specs.declared.checked.Checked.{Checked}
use Rattle.bar_seal.specs.Code.Memo.{Pair, Memo, pair_in, pairs_in, has_pair, but, with_pair}
use Rattle.bar_seal.specs.Code.Places.{AreAll, AreSome, AreFree, IsFilledFirst, IsRoomy}
use Rattle.bar_seal.proofs.Remembered.{Place, nat_eq_self, keeps_pair, has_found, IsFound, found, key_apart, fronted, length_but, few_pairs, length_but_pair, but_new, all_found}

-- the pairs of a cache's places
abbrev pub memo_of : LruCache ℕ Checked → Memo
memo_of c = record { places = c.cap; pairs = pairs_in c.entries }

some_place : (place : ℕ) (o : Option Place) → Some place ≡ option_map (λ e. e.0) o → (e : Place) × (o ≡ Some e) × (e.0 ≡ place)
some_place place None is = absurd cc
some_place place (Some e) is = (e, refl, sym (same_Some place e.0 is))

lookup_by : (k : ℕ) (es : List Place) (e : Place) → lookup_entry (nat_eq k) es ≡ Some e → lookup (nat_eq k) es ≡ Some e.1
lookup_by k [] e is = absurd cc
lookup_by k (f ∷ es) e is =
    (elim (nat_eq k f.0) as (λ b. nat_eq k f.0 ≡ b → lookup (nat_eq k) (f ∷ es) ≡ Some e.1) [
      | true ↦ λ t. rw t (ap (λ (x : Place). Some x.1) (same_Some f e (rw t at is)))
      | false ↦ λ t. rw t (lookup_by k es e (rw t at is))
    ]) refl

-- The facts that hold once the place of a pair is found.
pub record IsRecalled (c : LruCache ℕ Checked) (p : Pair) (place : ℕ) : Type 0 where
  pub has : has_pair p (pairs_in c.entries) ≡ true
  pub there : is_some (lookup (nat_eq place) c.entries) ≡ true
  pub all : AreAll (lru_cache (promoted (nat_eq place) c.entries) c.cap)
  pub memo : memo_of (lru_cache (promoted (nat_eq place) c.entries) c.cap) ≡ with_pair p (memo_of c)

fronts : (c : LruCache ℕ Checked) (p : Pair) (e : Place) → AreAll c → find (keeps_pair p) c.entries ≡ Some e → IsRecalled c p e.0
fronts c p e all is =
    let f : IsFound p c.entries e = found p c.entries e all.some.apart is in
    let has : has_pair p (pairs_in c.entries) ≡ true = has_found p c.entries ∙ ap is_some is in
    let first : promoted (nat_eq e.0) c.entries ≡ e ∷ remove_entry (nat_eq e.0) c.entries =
    ap (λ (o : Option Place). option_map_or (λ f. f ∷ remove_entry (nat_eq e.0) c.entries) o c.entries) f.entry
    in
    let long : length (p ∷ but p (pairs_in c.entries)) ≤ c.cap = omega (arith, length_but_pair p (pairs_in c.entries) has, few_pairs c.entries, all.count) in
    record {
      has = has;
      there = ap is_some (lookup_by e.0 c.entries e f.entry);
      all = record {
        some = subst AreSome (sym first) (fronted c.entries e e.1 p all.some (all_found (λ x. IsRoomy x.1) (nat_eq e.0) c.entries e all.some.roomy f.entry) f.pair);
        count = ap length first ∙ omega (arith, length_but (nat_eq e.0) c.entries e f.entry, all.count);
        one = all.one;
      };
      memo =
          let pairs : pairs_in (promoted (nat_eq e.0) c.entries) ≡ take c.cap (p ∷ but p (pairs_in c.entries)) =
          ap pairs_in first
          ∙ ap (λ (o : Option Pair). cons_option o (pairs_in (remove_entry (nat_eq e.0) c.entries))) f.pair
          ∙ ap (λ (ps : List Pair). p ∷ ps) f.others
          ∙ sym (take_all c.cap (p ∷ but p (pairs_in c.entries)) long)
          in
          λ i. record { places = c.cap; pairs = pairs i };
    }

pub recalled : (c : LruCache ℕ Checked) (p : Pair) (place : ℕ) → AreAll c → Some place ≡ option_map (λ e. e.0) (find (keeps_pair p) c.entries) → IsRecalled c p place
recalled c p place all is =
    let e = some_place place (find (keeps_pair p) c.entries) is in
    subst (IsRecalled c p) e.2 (fronts c p e.0 all e.1)

pub not_recalled : (c : LruCache ℕ Checked) (p : Pair) → None ≡ option_map (λ e. e.0) (find (keeps_pair p) c.entries) → false ≡ has_pair p (pairs_in c.entries)
not_recalled c p is = none (find (keeps_pair p) c.entries) is ∙ sym (has_found p c.entries)
  where
    none : (o : Option Place) → None ≡ option_map (λ e. e.0) o → false ≡ is_some o
    none None is = refl
    none (Some e) is = absurd cc

-- The last place.
pub record IsLast (es : List Place) (e : Place) : Type 0 where
  pub entry : lookup_entry (nat_eq e.0) es ≡ Some e
  pub others : IsFilledFirst es → pairs_in (remove_entry (nat_eq e.0) es) ≡ take (length es - 1) (pairs_in es)

pub free_pairs : (es : List Place) → AreFree es → pairs_in es ≡ []
free_pairs [] free = refl
free_pairs (e ∷ es) free = rw free.0 (free_pairs es free.1)

one_more : (n : ℕ) (es : List Place) (o : Option Pair) → (o ≡ None → AreFree es) → cons_option o (take n (pairs_in es)) ≡ take (suc n) (cons_option o (pairs_in es))
one_more n es None free =
    let none : length (pairs_in es) ≡ 0 = ap length (free_pairs es (free refl)) in
    take_all n (pairs_in es) (omega (arith, none)) ∙ sym (take_all (suc n) (pairs_in es) (omega (arith, none)))
one_more n es (Some q) free = refl

alone : (f e : Place) → Some f ≡ Some e → IsLast (f ∷ []) e
alone f e is = subst (IsLast (f ∷ [])) (same_Some f e is) (record {
  entry = rw (nat_eq_self f.0) refl;
  others = λ filled. rw (nat_eq_self f.0) refl;
})

behind : (f g e : Place) (es : List Place) → AllByRecursion (λ n. nat_eq f.0 n ≡ false) (keys_of (g ∷ es)) → IsLast (g ∷ es) e → IsLast (f ∷ g ∷ es) e
behind f g e es apart last =
    let differs : nat_eq e.0 f.0 ≡ false = key_apart f.0 (g ∷ es) e apart last.entry in
    let n : ℕ = length (g ∷ es) - 1 in
    let long : suc n ≡ length (f ∷ g ∷ es) - 1 = omega arith in
    record {
      entry = rw differs last.entry;
      others = λ filled. rw differs (
          ap (λ (ps : List Pair). cons_option (pair_in f.1) ps) (last.others filled.1)
          ∙ one_more n (g ∷ es) (pair_in f.1) filled.0
          ∙ ap (λ (m : ℕ). take m (pairs_in (f ∷ g ∷ es))) long);
    }

pub last_found : (es : List Place) (e : Place) → IsDistinct nat_eq (keys_of es) → slice_get es (length es - 1) ≡ Some e → IsLast es e
unfolding IsDistinct
last_found [] e apart is = absurd cc
last_found (f ∷ []) e apart is = alone f e is
last_found (f ∷ g ∷ es) e apart is =
    let long : length (f ∷ g ∷ es) - 1 ≡ suc (length (g ∷ es) - 1) = omega arith in
    let rest : slice_get (g ∷ es) (length (g ∷ es) - 1) ≡ Some e =
    ap (λ (m : ℕ). slice_get (f ∷ g ∷ es) m) (sym long) ∙ is
    in
    behind f g e es apart.0 (last_found (g ∷ es) e apart.1 rest)

-- The facts that hold once a new pair is kept in the last place.
pub record IsKept (c : LruCache ℕ Checked) (p : Pair) (place : ℕ) (w : Checked) : Type 0 where
  pub all : AreAll (lru_cache (set_value (nat_eq place) (promoted (nat_eq place) c.entries) w) c.cap)
  pub memo : memo_of (lru_cache (set_value (nat_eq place) (promoted (nat_eq place) c.entries) w) c.cap) ≡ with_pair p (memo_of c)

take_first : (cap : ℕ) (p : Pair) (ps qs : List Pair) → 0 < cap → qs ≡ ps → p ∷ take (cap - 1) ps ≡ take cap (p ∷ qs)
take_first zero p ps qs some same = absurd (omega (arith, some))
take_first (suc n) p ps qs some same =
    let less : suc n - 1 ≡ n = omega arith in
    rw (less, same) refl

pub kept_last : (c : LruCache ℕ Checked) (p : Pair) (e : Place) (w : Checked) → AreAll c → has_pair p (pairs_in c.entries) ≡ false
    → last_entry c.entries ≡ Some e → IsRoomy w → pair_in w ≡ Some p → IsKept c p e.0 w
kept_last c p e w all new last roomy pair =
    let l : IsLast c.entries e = last_found c.entries e all.some.apart last in
    let first : promoted (nat_eq e.0) c.entries ≡ e ∷ remove_entry (nat_eq e.0) c.entries =
    ap (λ (o : Option Place). option_map_or (λ f. f ∷ remove_entry (nat_eq e.0) c.entries) o c.entries) l.entry
    in
    let written : set_value (nat_eq e.0) (promoted (nat_eq e.0) c.entries) w ≡ (e.0, w) ∷ remove_entry (nat_eq e.0) c.entries =
    ap (λ (es : List Place). set_value (nat_eq e.0) es w) first ∙ rw (nat_eq_self e.0) refl
    in
    record {
      all = record {
        some = subst AreSome (sym written) (fronted c.entries e w p all.some roomy pair);
        count = ap length written ∙ omega (arith, length_but (nat_eq e.0) c.entries e l.entry, all.count);
        one = all.one;
      };
      memo =
          let pairs : pairs_in (set_value (nat_eq e.0) (promoted (nat_eq e.0) c.entries) w) ≡ take c.cap (p ∷ but p (pairs_in c.entries)) =
          ap pairs_in written
          ∙ ap (λ (o : Option Pair). cons_option o (pairs_in (remove_entry (nat_eq e.0) c.entries))) pair
          ∙ ap (λ (ps : List Pair). p ∷ ps) (l.others all.some.filled ∙ ap (λ (m : ℕ). take (m - 1) (pairs_in c.entries)) all.count)
          ∙ take_first c.cap p (pairs_in c.entries) (but p (pairs_in c.entries)) all.one (but_new p (pairs_in c.entries) new)
          in
          λ i. record { places = c.cap; pairs = pairs i };
    }

-- The last place has its rooms, and a new pair can be kept there.
pub record IsOldest (c : LruCache ℕ Checked) (place : ℕ) : Type 0 where
  pub roomy : IfSome (lookup (nat_eq place) c.entries) IsRoomy
  pub there : IsSome (lookup (nat_eq place) c.entries)
  pub keeps : (p : Pair) (w : Checked) → has_pair p (pairs_in c.entries) ≡ false → IsRoomy w → pair_in w ≡ Some p → IsKept c p place w

oldest_by : (c : LruCache ℕ Checked) (e : Place) → AreAll c → last_entry c.entries ≡ Some e → IsOldest c e.0
oldest_by c e all last =
    let l : IsLast c.entries e = last_found c.entries e all.some.apart last in
    let there : lookup (nat_eq e.0) c.entries ≡ Some e.1 = lookup_by e.0 c.entries e l.entry in
    record {
      roomy = subst (λ (o : Option Checked). IfSome o IsRoomy) (sym there) (all_found (λ x. IsRoomy x.1) (nat_eq e.0) c.entries e all.some.roomy l.entry);
      there = subst (λ (o : Option Checked). IsSome o) (sym there) refl;
      keeps = λ p w new roomy pair. kept_last c p e w all new last roomy pair;
    }

pub oldest : (c : LruCache ℕ Checked) (place : ℕ) → AreAll c → Some place ≡ option_map (λ e. e.0) (last_entry c.entries) → IsOldest c place
oldest c place all is =
    let e = some_place place (last_entry c.entries) is in
    subst (IsOldest c) e.2 (oldest_by c e.0 all e.1)

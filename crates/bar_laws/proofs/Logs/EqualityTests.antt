-- A test of equality that passes gives an equation.
use Rattle.bar_rules.specs.Peer.Admission.{same_terms}
use Rattle.bar_window.specs.Terms.{Terms}
use Rattle.bar_window.specs.Terms as forms
use Rattle.std.specs.Str.{bytes_eq}
use Rattle.bar_wire.specs.Datagram.{Body, kind_number}
use Rattle.bar_wire.specs.Kinds.{code_of}
use Rattle.bar_wire.specs.declared.kind.Kind.{Kind}
use Rattle.std.proofs.Common.{◌≡◌, ℕ, true, false, List, [], ◌∷◌, refl, ap, eqb}
use Rattle.std.specs.Prelude.{Option, Some, is_some, unwrap_or}
use Rattle.std.proofs.lemmas.Bool.{and_parts, both_ways, eq-eqb, eqb-true}
use Rattle.bar_window.proofs.Sets.{same_updates-is}

pub same_bytes-is : (xs ys : List ℕ) → bytes_eq xs ys ≡ true → xs ≡ ys
same_bytes-is [] [] e = refl
same_bytes-is (x ∷ xs) (y ∷ ys) e =
    let p = and_parts _ _ e in
    let head : x ≡ y = eqb-true _ _ p.0 in
    let tail : xs ≡ ys = same_bytes-is xs ys p.1 in cc
same_bytes-is [] (y ∷ ys) e = cc
same_bytes-is (x ∷ xs) [] e = cc

pub some-equal : {A : Type 0} (a b : A) → ◌≡◌ {A = Option A} (Some a) (Some b) → a ≡ b
some-equal a b e = ap (λ o. unwrap_or o a) e

-- a look-up that finds nothing has no value
pub no-value : {A : Type 0} (o : Option A) (a : A) → is_some o ≡ false → o ≡ Some a → ⊥
no-value o a none e = both_ways (is_some o) none (ap is_some e)

-- a body of one kind doesn't have the number of another kind
pub other-kind : (b : Body) (kind : Kind) → eqb (kind_number b) (code_of kind) ≡ false → kind_number b ≡ code_of kind → ⊥
other-kind b kind other same = both_ways (eqb (kind_number b) (code_of kind)) other (eq-eqb (kind_number b) (code_of kind) same)

pub same_terms-is : (x y : Terms) → same_terms x y ≡ true → x ≡ y
same_terms-is (forms.Balanced nonce ha hb) (forms.Balanced nonce' ha' hb') e =
    let p = and_parts _ _ e in
    let q = and_parts _ _ p.0 in
    let a = same_bytes-is nonce nonce' q.0 in
    let b = same_updates-is ha ha' q.1 in
    let c = same_updates-is hb hb' p.1 in cc
same_terms-is (forms.Push young aged want give junk) (forms.Push young' aged' want' give' junk') e =
    let p = and_parts _ _ e in
    let q = and_parts _ _ p.0 in
    let r = and_parts _ _ q.0 in
    let s = and_parts _ _ r.0 in
    let a = same_updates-is young young' s.0 in
    let b = same_updates-is aged aged' s.1 in
    let c = same_updates-is want want' r.1 in
    let d = same_updates-is give give' q.1 in
    let f = eqb-true junk junk' p.1 in cc
same_terms-is (forms.Balanced nonce ha hb) (forms.Push young aged want give junk) e = cc
same_terms-is (forms.Push young aged want give junk) (forms.Balanced nonce ha hb) e = cc

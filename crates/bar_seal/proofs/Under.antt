-- Acceptance under a key's bytes, by the key that is read from them.
use Rattle.std.proofs.Common.{◌≡◌, ℕ, true, false, List, refl, sym, ap, ◌∙◌}
use Rattle.std.specs.Prelude.{Result, Ok, Err}
use Rattle.std.proofs.lemmas.Bool.{false_from_ne_true}
use Rattle.bar_lms.specs.declared.params.Params.{Params}
use Rattle.bar_lms.specs.declared.key.KeyFault.{KeyFault}
use Rattle.bar_lms.specs.Signature.{Public}
use Rattle.bar_lms.specs.Acceptance.{is_accepted, steps_taken, is_key_of, key_at, is_accepted_under, steps_taken_under}

-- the key of given types that bytes encode is the one that was read
abbrev ReadsOf : List ℕ → Result Public KeyFault → Type 0
ReadsOf bytes r = (p : Params) → is_key_of p bytes ≡ true → r ≡ Ok (key_at p bytes)

-- the bytes encode a key of these types, and it is this one
pub record IsKey (p : Params) (bytes : List ℕ) (k : Public) : Type 0 where
  pub test : is_key_of p bytes ≡ true
  pub key : k ≡ key_at p bytes

pub read_key : (p : Params) (bytes : List ℕ) (k : Public) (r : Result Public KeyFault) → r ≡ Ok k → is_key_of k.params bytes ≡ true
    → ReadsOf bytes r → k.params ≡ p → IsKey p bytes k
read_key p bytes k r is types reads same =
    let test : is_key_of p bytes ≡ true = ap (λ (q : Params). is_key_of q bytes) (sym same) ∙ types in
    let found : Ok k ≡ Ok (key_at p bytes) = sym is ∙ reads p test in
    record { test = test; key = cc }

-- If a key of other types was read, the bytes are no key of these types.
pub read_other : (p : Params) (bytes : List ℕ) (k : Public) (r : Result Public KeyFault) → r ≡ Ok k → ReadsOf bytes r → (k.params ≡ p → ⊥)
    → is_key_of p bytes ≡ true → ⊥
read_other p bytes k r is reads other test =
    let found : Ok k ≡ Ok (key_at p bytes) = sym is ∙ reads p test in
    let key : k ≡ key_at p bytes = cc in
    other (ap (λ (x : Public). x.params) key)

-- If no key was read, the bytes are no key of these types.
pub read_none : (p : Params) (bytes : List ℕ) (e : KeyFault) (r : Result Public KeyFault) → r ≡ Err e → ReadsOf bytes r
    → is_key_of p bytes ≡ true → ⊥
read_none p bytes e r is reads test = let found : Err e ≡ Ok (key_at p bytes) = sym is ∙ reads p test in cc

pub accepted_by : (p : Params) (bytes message sig : List ℕ) (k : Public) → IsKey p bytes k
    → is_accepted k message sig ≡ is_accepted_under p bytes message sig
unfolding is_accepted_under
accepted_by p bytes message sig k is = rw is.test (ap (λ (x : Public). is_accepted x message sig) is.key)

pub steps_by : (p : Params) (bytes message sig : List ℕ) (k : Public) → IsKey p bytes k
    → steps_taken k message sig ≡ steps_taken_under p bytes message sig
unfolding steps_taken_under
steps_by p bytes message sig k is = rw is.test (ap (λ (x : Public). steps_taken x message sig) is.key)

pub accepted_by_none : (p : Params) (bytes message sig : List ℕ) → (is_key_of p bytes ≡ true → ⊥)
    → false ≡ is_accepted_under p bytes message sig
unfolding is_accepted_under
accepted_by_none p bytes message sig none = let e : is_key_of p bytes ≡ false = false_from_ne_true (is_key_of p bytes) none in rw e refl

pub steps_by_none : (p : Params) (bytes message sig : List ℕ) → (is_key_of p bytes ≡ true → ⊥) → steps_taken_under p bytes message sig ≡ 0
unfolding steps_taken_under
steps_by_none p bytes message sig none = let e : is_key_of p bytes ≡ false = false_from_ne_true (is_key_of p bytes) none in rw e refl

-- Signatures in a session are accepted, have their length, and are short.
use Rattle.std.proofs.Common.{◌≡◌, ℕ, ◌<◌, ◌≤◌, true, length, List, Option, Some, None, arith, refl}
use Rattle.bar_lms.specs.declared.params.Height.{Height}
use Rattle.bar_lms.specs.declared.params.Height.TheVariants.{H5}
use Rattle.bar_lms.specs.declared.params.Ots.{Ots}
use Rattle.bar_lms.specs.declared.params.Ots.TheVariants.{W1, W2, W4, W8}
use Rattle.bar_lms.specs.declared.params.Params.{Params}
use Rattle.bar_lms.specs.Params.{chains}
use Rattle.bar_lms.specs.Schemes.{length_by, leaves_by, public_by, signed_by, accepted_by, named_by, two_levels}
use Rattle.bar_lms.proofs.Decided.{made_accepted, made_leaf, made_length}
use Rattle.bar_lms.proofs.DigitLemmas.{signature_short, level_facts}
use Rattle.bar_lms.proofs.HssLemmas.{hss_accepted, hss_leaf, hss_long}

pub signed_accepted : (top : Option Height) (p : Params) (id secret : List ℕ) (leaf : ℕ) (message : List ℕ) → leaf < leaves_by top p
    → accepted_by top p (public_by top p id secret) message (signed_by top p id secret leaf message) ≡ true
unfolding public_by signed_by accepted_by
signed_accepted None p id secret leaf message below = made_accepted (record { params = p; id = id; secret = secret }) leaf message below
signed_accepted (Some height) p id secret leaf message below = hss_accepted (two_levels height p id secret) leaf message below

pub signed_long : (top : Option Height) (p : Params) (id secret : List ℕ) (leaf : ℕ) (message : List ℕ) → leaf < leaves_by top p
    → length (signed_by top p id secret leaf message) ≡ length_by top p
unfolding signed_by
signed_long None p id secret leaf message below = made_length (record { params = p; id = id; secret = secret }) leaf message below
signed_long (Some height) p id secret leaf message below = hss_long (two_levels height p id secret) leaf message below

-- one-time signatures of 4 or 8 bits a digit have at most 67 chains
few_wide : (ots : Ots) → (ots ≡ W1 → ⊥) → (ots ≡ W2 → ⊥) → chains ots ≤ 67
few_wide W1 one two = absurd (one refl)
few_wide W2 one two = absurd (two refl)
few_wide W4 one two = omega arith
few_wide W8 one two = omega arith

pub long_short : (top : Option Height) (p : Params) → ((h : Height) → top ≡ Some h → chains p.ots ≤ 67) → length_by top p ≤ 9004
long_short None p wide = signature_short p
long_short (Some height) p wide =
    let few = wide height refl in
    let a = (level_facts height).most in
    let b = (level_facts p.height).most in
    omega (arith, few, a, b)

pub signed_names : (top : Option Height) (p : Params) (id secret : List ℕ) (leaf : ℕ) (message : List ℕ) → leaf < leaves_by top p
    → ((h : Height) → top ≡ Some h → p.height ≡ H5) → named_by top p (signed_by top p id secret leaf message) ≡ leaf
unfolding signed_by
signed_names None p id secret leaf message below five = made_leaf (record { params = p; id = id; secret = secret }) leaf message below
signed_names (Some height) p id secret leaf message below five = hss_leaf (two_levels height p id secret) leaf message below (five height refl)

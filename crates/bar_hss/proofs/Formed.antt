-- What is tested before any hash is computed.
use Rattle.std.proofs.Common.{◌≡◌, ℕ, ◌+◌, ◌==◌, ◌&&◌, Bool, true, false, if◌then◌else◌, length, drop, List, refl, sym}
use Rattle.std.proofs.lemmas.Bool.{and_parts, eqb-true, eq-eqb, false_from_ne_true}
use Rattle.bar_lms.specs.declared.params.Params.{Params}
use Rattle.bar_lms.specs.Signature.{number_at}
use Rattle.bar_lms.specs.Acceptance.{is_accepted_under, steps_taken_under}
use Rattle.bar_lms.specs.Hss.{hss_signature_len, is_hss_formed, is_hss_accepted, hss_steps_taken, key_part, lower_part, upper_part}

-- If a length is wrong, the test is false.
pub ill_long : (top low : Params) (key sig : List ℕ) → ((length key ≡ 60) × (length sig ≡ hss_signature_len top low) → ⊥)
    → is_hss_formed top low key sig ≡ false
unfolding is_hss_formed
ill_long top low key sig other =
    false_from_ne_true _ (λ t. let keys = and_parts _ _ t in let sigs = and_parts _ _ keys.1 in other (eqb-true _ _ keys.0, eqb-true _ _ sigs.0))

-- If the lengths are right, the test compares the numbers.
pub by_numbers : (top low : Params) (key sig : List ℕ) (b : Bool) → (length key ≡ 60) × (length sig ≡ hss_signature_len top low)
    → b ≡ ((number_at key 0 == 2) && (number_at sig 0 == 1)) → is_hss_formed top low key sig ≡ b
unfolding is_hss_formed
by_numbers top low key sig b long is = rw (eq-eqb _ _ long.0, eq-eqb _ _ long.1) (sym is)

-- a key and a signature that aren't well formed are refused without a hash
pub refused : (top low : Params) (key message sig : List ℕ) → is_hss_formed top low key sig ≡ false
    → false ≡ is_hss_accepted top low key message sig
unfolding is_hss_accepted
refused top low key message sig ill = rw ill refl

pub refused_steps : (top low : Params) (key message sig : List ℕ) → is_hss_formed top low key sig ≡ false
    → hss_steps_taken top low key message sig ≡ 0
unfolding hss_steps_taken
refused_steps top low key message sig ill = rw ill refl

-- a well-formed signature is accepted if and only if both keys accept
pub by_both : (top low : Params) (key message sig : List ℕ) → is_hss_formed top low key sig ≡ true
    → is_hss_accepted top low key message sig ≡ (is_accepted_under top (drop 4 key) (key_part top sig) (upper_part top sig)
    && is_accepted_under low (key_part top sig) message (lower_part top sig))
unfolding is_hss_accepted
by_both top low key message sig well = rw well refl

pub by_both_steps : (top low : Params) (key message sig : List ℕ) → is_hss_formed top low key sig ≡ true
    → hss_steps_taken top low key message sig ≡ steps_taken_under top (drop 4 key) (key_part top sig) (upper_part top sig)
    + (if is_accepted_under top (drop 4 key) (key_part top sig) (upper_part top sig) then steps_taken_under low (key_part top sig) message (lower_part top sig) else 0)
unfolding hss_steps_taken
by_both_steps top low key message sig well = rw well refl

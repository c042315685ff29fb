-- The signatures of an LMS secret key are accepted under its public key, have their length, and name their leaf.
use Rattle.std.proofs.Common.{◌≡◌, ℕ, ◌^◌, ◌<◌, true, List, length}
use Rattle.bar_lms.specs.Params.{levels, signature_len}
use Rattle.bar_lms.specs.Acceptance.{is_accepted_under}
use Rattle.bar_lms.specs.Secret.{Secret, public_key, signed}
use Rattle.bar_lms.proofs.Decided.{made_accepted, made_length, made_leaf}
use Rattle.bar_seal.specs.Leaves.{leaf_in}

pub lms_signed_is_accepted : (s : Secret) (leaf : ℕ) (message : List ℕ) → leaf < 2 ^ levels s.params.height
    → is_accepted_under s.params (public_key s) message (signed s leaf message) ≡ true
lms_signed_is_accepted s leaf message below = made_accepted s leaf message below

pub lms_signed_has_its_length : (s : Secret) (leaf : ℕ) (message : List ℕ) → leaf < 2 ^ levels s.params.height →
    length (signed s leaf message) ≡ signature_len s.params
lms_signed_has_its_length s leaf message below = made_length s leaf message below

pub lms_signed_names_its_leaf : (s : Secret) (leaf : ℕ) (message : List ℕ) → leaf < 2 ^ levels s.params.height →
    leaf_in (signed s leaf message) ≡ leaf
lms_signed_names_its_leaf s leaf message below = made_leaf s leaf message below

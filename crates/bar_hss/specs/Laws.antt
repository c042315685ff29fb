-- The signatures of a secret key of two levels are accepted under its public key, have their length, and name their leaf.
use Rattle.std.proofs.Common.{◌≡◌, ℕ, ◌<◌, true, List, length}
use Rattle.bar_lms.specs.Hss.{HssSecret, hss_leaf_in, hss_leaves, hss_public_key, hss_signature_len, hss_signed, is_hss_accepted}
use Rattle.bar_lms.proofs.HssLemmas.{hss_accepted, hss_long, hss_leaf}
use Rattle.bar_lms.specs.declared.params.Height.TheVariants.{H5}

pub signed_is_accepted : (s : HssSecret) (leaf : ℕ) (message : List ℕ) → leaf < hss_leaves s.top s.low
    → is_hss_accepted s.top s.low (hss_public_key s) message (hss_signed s leaf message) ≡ true
signed_is_accepted s leaf message below = hss_accepted s leaf message below

pub signed_has_its_length : (s : HssSecret) (leaf : ℕ) (message : List ℕ) → leaf < hss_leaves s.top s.low
    → length (hss_signed s leaf message) ≡ hss_signature_len s.top s.low
signed_has_its_length s leaf message below = hss_long s leaf message below

pub signed_names_its_leaf : (s : HssSecret) (leaf : ℕ) (message : List ℕ) → s.low.height ≡ H5 → leaf < hss_leaves s.top s.low
    → hss_leaf_in s.top (hss_signed s leaf message) ≡ leaf
signed_names_its_leaf s leaf message five below = hss_leaf s leaf message below five

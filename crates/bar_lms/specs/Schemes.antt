-- The signatures of a session: of one level (RFC 8554, 5), or of two (6) if there is an upper tree.
use Rattle.std.specs.Prelude.{ℕ, List, Bool, Option, Some, None}
use Rattle.bar_lms.specs.declared.params.Height.{Height}
use Rattle.bar_lms.specs.declared.params.Params.{Params}
use Rattle.bar_lms.specs.Params.{signature_len, most_steps}
use Rattle.bar_lms.specs.Acceptance.{is_accepted_under}
use Rattle.bar_lms.specs.Secret.{public_key, signed}
use Rattle.bar_lms.specs.Signature.{number_at}
use Rattle.bar_lms.specs.Hss.{HssSecret, leaves_of, hss_leaf_in, hss_leaves, hss_public_key, hss_signed, hss_signature_len, is_hss_accepted, hss_most_steps}

-- the types of an upper tree of this height over trees of these types, with the same one-time signatures
abbrev pub upper_types : Height → Params → Params
upper_types height low = record { height = height; ots = low.ots }

-- a secret of two levels
abbrev pub two_levels : Height → Params → List ℕ → List ℕ → HssSecret
two_levels height low id secret = record { top = upper_types height low; low = low; id = id; secret = secret }

-- how many bytes a signature has, and how many leaves a key
abbrev pub length_by : Option Height → Params → ℕ
length_by None p = signature_len p
length_by (Some height) p = hss_signature_len (upper_types height p) p

abbrev pub leaves_by : Option Height → Params → ℕ
leaves_by None p = leaves_of p
leaves_by (Some height) p = hss_leaves (upper_types height p) p

-- the most hashes of acceptance
abbrev pub most_by : Option Height → Params → ℕ
most_by None p = most_steps p
most_by (Some height) p = hss_most_steps (upper_types height p) p

-- the public key of a secret under a session's id
unfoldable pub public_by : Option Height → Params → List ℕ → List ℕ → List ℕ
public_by None p id secret = public_key (record { params = p; id = id; secret = secret })
public_by (Some height) p id secret = hss_public_key (two_levels height p id secret)

-- the signature of a message under a leaf
unfoldable pub signed_by : Option Height → Params → List ℕ → List ℕ → ℕ → List ℕ → List ℕ
signed_by None p id secret leaf message = signed (record { params = p; id = id; secret = secret }) leaf message
signed_by (Some height) p id secret leaf message = hss_signed (two_levels height p id secret) leaf message

-- whether a signature is accepted on a message under a key
unfoldable pub accepted_by : Option Height → Params → List ℕ → List ℕ → List ℕ → Bool
accepted_by None p key message sig = is_accepted_under p key message sig
accepted_by (Some height) p key message sig = is_hss_accepted (upper_types height p) p key message sig

-- the leaf that a signature names
abbrev pub named_by : Option Height → Params → List ℕ → ℕ
named_by None p sig = number_at sig 0
named_by (Some height) p sig = hss_leaf_in (upper_types height p) sig

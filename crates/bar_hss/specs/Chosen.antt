-- The scheme of a session, of one level or of two.
use Rattle.std.proofs.Common.{◌≡◌, ℕ, ◌<◌, ◌^◌, Bool, true, List, length}
use Rattle.bar_lms.specs.Params.{levels, signature_len, most_steps}
use Rattle.bar_lms.specs.Acceptance.{is_accepted_under, steps_taken_under}
use Rattle.bar_lms.specs.Secret as lms
use Rattle.bar_seal.specs.Leaves.{leaf_in}
use Rattle.bar_lms.specs.Hss.{hss_leaf_in, hss_leaves, hss_public_key, hss_signed, hss_signature_len, is_hss_accepted, hss_steps_taken, hss_most_steps}
use Rattle.bar_seal.specs.LmsLaws.{lms_signed_is_accepted, lms_signed_has_its_length, lms_signed_names_its_leaf}
use Rattle.bar_hss.specs.Laws as two
use Rattle.bar_hss.specs.declared.chosen.SessionVerifier.{SessionVerifier}
use Rattle.bar_hss.specs.declared.chosen.SessionVerifier.TheVariants as verifier
use Rattle.bar_hss.specs.declared.chosen.SessionScheme.{SessionScheme}
use Rattle.bar_hss.specs.declared.chosen.SessionScheme.TheVariants as scheme

abbrev pub accepted_with : SessionVerifier → List ℕ → List ℕ → List ℕ → Bool
accepted_with (verifier.Single v) key message sig = is_accepted_under v.params key message sig
accepted_with (verifier.Double v) key message sig = is_hss_accepted v.top v.low key message sig

abbrev pub length_with : SessionVerifier → ℕ
length_with (verifier.Single v) = signature_len v.params
length_with (verifier.Double v) = hss_signature_len v.top v.low

abbrev pub steps_with : SessionVerifier → List ℕ → List ℕ → List ℕ → ℕ
steps_with (verifier.Single v) key message sig = steps_taken_under v.params key message sig
steps_with (verifier.Double v) key message sig = hss_steps_taken v.top v.low key message sig

abbrev pub most_with : SessionVerifier → ℕ
most_with (verifier.Single v) = most_steps v.params
most_with (verifier.Double v) = hss_most_steps v.top v.low

abbrev pub leaf_with : SessionVerifier → List ℕ → ℕ
leaf_with (verifier.Single v) sig = leaf_in sig
leaf_with (verifier.Double v) sig = hss_leaf_in v.top sig

abbrev pub accepted_by : SessionScheme → List ℕ → List ℕ → List ℕ → Bool
accepted_by (scheme.Single s) key message sig = is_accepted_under s.signer.params key message sig
accepted_by (scheme.Double s) key message sig = is_hss_accepted s.key.top s.key.low key message sig

abbrev pub length_of : SessionScheme → ℕ
length_of (scheme.Single s) = signature_len s.signer.params
length_of (scheme.Double s) = hss_signature_len s.key.top s.key.low

abbrev pub steps_of : SessionScheme → List ℕ → List ℕ → List ℕ → ℕ
steps_of (scheme.Single s) key message sig = steps_taken_under s.signer.params key message sig
steps_of (scheme.Double s) key message sig = hss_steps_taken s.key.top s.key.low key message sig

abbrev pub most_of : SessionScheme → ℕ
most_of (scheme.Single s) = most_steps s.signer.params
most_of (scheme.Double s) = hss_most_steps s.key.top s.key.low

abbrev pub leaf_by : SessionScheme → List ℕ → ℕ
leaf_by (scheme.Single s) sig = leaf_in sig
leaf_by (scheme.Double s) sig = hss_leaf_in s.key.top sig

abbrev pub key_of : SessionScheme → List ℕ
key_of (scheme.Single s) = lms.public_key s.signer
key_of (scheme.Double s) = hss_public_key s.key

abbrev pub leaves_of : SessionScheme → ℕ
leaves_of (scheme.Single s) = 2 ^ levels s.signer.params.height
leaves_of (scheme.Double s) = hss_leaves s.key.top s.key.low

abbrev pub signed_by : SessionScheme → ℕ → List ℕ → List ℕ
signed_by (scheme.Single s) leaf message = lms.signed s.signer leaf message
signed_by (scheme.Double s) leaf message = hss_signed s.key leaf message

pub accepts_own : (s : SessionScheme) (leaf : ℕ) (message : List ℕ) → leaf < leaves_of s → accepted_by s (key_of s) message (signed_by s leaf message) ≡ true
accepts_own (scheme.Single s) leaf message below = lms_signed_is_accepted s.signer leaf message below
accepts_own (scheme.Double s) leaf message below = two.signed_is_accepted s.key leaf message below

pub own_long : (s : SessionScheme) (leaf : ℕ) (message : List ℕ) → leaf < leaves_of s → length (signed_by s leaf message) ≡ length_of s
own_long (scheme.Single s) leaf message below = lms_signed_has_its_length s.signer leaf message below
own_long (scheme.Double s) leaf message below = two.signed_has_its_length s.key leaf message below

pub names_own : (s : SessionScheme) (leaf : ℕ) (message : List ℕ) → leaf < leaves_of s → leaf_by s (signed_by s leaf message) ≡ leaf
names_own (scheme.Single s) leaf message below = lms_signed_names_its_leaf s.signer leaf message below
names_own (scheme.Double s) leaf message below = two.signed_names_its_leaf s.key leaf message s.five below

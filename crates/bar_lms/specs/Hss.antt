-- HSS of two levels (RFC 8554, 6): the leaves of one tree sign the public keys of trees below it, whose leaves sign messages.
use Rattle.std.specs.Prelude.{◌≡◌, ℕ, ◌+◌, ◌*◌, ◌/◌, ◌%◌, ◌^◌, ◌<◌, ◌==◌, ◌&&◌, Bool, true, if◌then◌else◌, List, ◌++◌, length, take, drop, codes}
use Rattle.std.specs.Int.{w32, to_be_bytes}
use Rattle.bar_bytes.specs.Tag.{tagged}
use Rattle.bar_lms.specs.declared.params.Params.{Params}
use Rattle.bar_lms.specs.declared.private.Private.{Private}
use Rattle.bar_lms.specs.Params.{levels, signature_len, most_steps}
use Rattle.bar_lms.specs.Tree.{private_by}
use Rattle.bar_lms.specs.Signature.{key_bytes, public_of, signature, number_at}
use Rattle.bar_lms.specs.Acceptance.{is_accepted_under, steps_taken_under}
use Rattle.bar_lms.specs.Secret.{Secret, private_of, randomizer_of}

-- the types of the upper tree and of the trees below it, a session's id and a party's secret
pub record HssSecret : Type 0 where
  pub top : Params
  pub low : Params
  pub id : List ℕ
  pub secret : List ℕ

-- the leaves of a tree of these types
abbrev pub leaves_of : Params → ℕ
leaves_of p = 2 ^ levels p.height

-- ---- keys

-- a hash of a number and the secret
abbrev pub numbered : List ℕ → HssSecret → ℕ → List ℕ
numbered tag s n = tagged tag s.id (to_be_bytes w32 n ++ s.secret)

-- the secret of the upper tree
abbrev pub upper_secret : HssSecret → Secret
upper_secret s = record { params = s.top; id = s.id; secret = s.secret }

-- the upper tree
abbrev pub upper_of : HssSecret → Private
upper_of s = private_of (upper_secret s)

-- the tree below upper leaf j
unfoldable pub lower_of : HssSecret → ℕ → Private
lower_of s j = private_by s.low (numbered (codes "SED2") s j) (take 16 (numbered (codes "IDN2") s j))

-- its public key, which upper leaf j signs
abbrev pub lower_key : HssSecret → ℕ → List ℕ
lower_key s j = key_bytes (public_of (lower_of s j))

-- the public key as bytes (RFC 8554, 6.1): the levels, and the public key of the upper tree
unfoldable pub hss_public_key : HssSecret → List ℕ
hss_public_key s = to_be_bytes w32 2 ++ key_bytes (public_of (upper_of s))

-- how many leaves sign messages
abbrev pub hss_leaves : Params → Params → ℕ
hss_leaves top low = leaves_of top * leaves_of low

-- ---- signatures

-- the signature of a lower tree's public key
unfoldable pub upper_signature : HssSecret → ℕ → List ℕ
upper_signature s j = signature (upper_of s) j (numbered (codes "RND2") s j) (lower_key s j)

-- the signature of a message under a leaf of a lower tree
unfoldable pub lower_signature : HssSecret → ℕ → List ℕ → List ℕ
lower_signature s leaf message =
    signature (lower_of s (leaf / leaves_of s.low)) (leaf % leaves_of s.low) (randomizer_of (upper_secret s) leaf) message

-- the signature of a message under a leaf (RFC 8554, 6.2): the number of signed public keys, the signed public key, the message's signature
unfoldable pub hss_signed : HssSecret → ℕ → List ℕ → List ℕ
hss_signed s leaf message =
    to_be_bytes w32 1 ++ upper_signature s (leaf / leaves_of s.low) ++ lower_key s (leaf / leaves_of s.low) ++ lower_signature s leaf message

-- its length
abbrev pub hss_signature_len : Params → Params → ℕ
hss_signature_len top low = 60 + signature_len top + signature_len low

-- ---- the parts of a signature

abbrev pub upper_part : Params → List ℕ → List ℕ
upper_part top sig = take (signature_len top) (drop 4 sig)

abbrev pub key_part : Params → List ℕ → List ℕ
key_part top sig = take 56 (drop (4 + signature_len top) sig)

abbrev pub lower_part : Params → List ℕ → List ℕ
lower_part top sig = drop (60 + signature_len top) sig

-- the leaf that a signature names, by the leaves of both parts
abbrev pub hss_leaf_in : Params → List ℕ → ℕ
hss_leaf_in top sig = 32 * (number_at sig 4 % 2 ^ 15) + number_at sig (60 + signature_len top) % 32

-- ---- acceptance (RFC 8554, 6.3)

-- The public key is one of two levels, and the signature has one signed public key. The upper key accepts the lower one, which is of its
-- types and accepts the message.
pub record HssAccepts (top low : Params) (key message sig : List ℕ) : Type 0 where
  pub key_length : length key ≡ 60
  pub length : length sig ≡ hss_signature_len top low
  pub levels : number_at key 0 ≡ 2
  pub signed_keys : number_at sig 0 ≡ 1
  pub upper : is_accepted_under top (drop 4 key) (key_part top sig) (upper_part top sig) ≡ true
  pub lower : is_accepted_under low (key_part top sig) message (lower_part top sig) ≡ true

-- Both parts of a signature name a leaf of their trees; a lower tree has 32 leaves. Together they give the leaf that the signature names.
pub record NamesItsLeaves (top : Params) (sig : List ℕ) : Type 0 where
  pub upper : number_at sig 4 < leaves_of top
  pub lower : number_at sig (60 + signature_len top) < 32
  pub both : hss_leaf_in top sig ≡ 32 * number_at sig 4 + number_at sig (60 + signature_len top)

-- what is tested before any hash is computed
unfoldable pub is_hss_formed : Params → Params → List ℕ → List ℕ → Bool
is_hss_formed top low key sig =
    (length key == 60) && ((length sig == hss_signature_len top low) && ((number_at key 0 == 2) && (number_at sig 0 == 1)))

-- acceptance as a test
unfoldable pub is_hss_accepted : Params → Params → List ℕ → List ℕ → List ℕ → Bool
is_hss_accepted top low key message sig =
    is_hss_formed top low key sig && (is_accepted_under top (drop 4 key) (key_part top sig) (upper_part top sig)
    && is_accepted_under low (key_part top sig) message (lower_part top sig))

-- how many hashes it takes: none if the parts don't fit, and none for the message if the upper key doesn't accept the lower one
unfoldable pub hss_steps_taken : Params → Params → List ℕ → List ℕ → List ℕ → ℕ
hss_steps_taken top low key message sig =
    (if is_hss_formed top low key sig then steps_taken_under top (drop 4 key) (key_part top sig) (upper_part top sig)
    + (if is_accepted_under top (drop 4 key) (key_part top sig) (upper_part top sig)
    then steps_taken_under low (key_part top sig) message (lower_part top sig) else 0) else 0)

-- the most hashes that it takes
abbrev pub hss_most_steps : Params → Params → ℕ
hss_most_steps top low = most_steps top + most_steps low

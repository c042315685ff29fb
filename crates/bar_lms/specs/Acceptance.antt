-- Acceptance of a signature (RFC 8554, 5.4), as facts and as a test.
use Rattle.std.specs.Prelude.{◌≡◌, ℕ, ◌+◌, ◌*◌, ◌^◌, ◌<◌, ◌==◌, ◌&&◌, Bool, nat_lt, if◌then◌else◌, List, length, take, drop}
use Rattle.std.specs.Str.{bytes_eq}
use Rattle.bar_lms.specs.declared.params.Params.{Params}
use Rattle.bar_lms.specs.Params.{chains, levels, lms_type, ots_type, signature_len}
use Rattle.bar_lms.specs.Signature.{Public, IsPublic, type_bytes, key_bytes, number_at, candidate, candidate_steps}

-- the signature is accepted on the message under the key
pub record Accepts (k : Public) (message sig : List ℕ) : Type 0 where
  pub length : length sig ≡ signature_len k.params
  pub ots_type : number_at sig 4 ≡ ots_type k.params.ots
  pub lms_type : number_at sig (40 + 32 * chains k.params.ots) ≡ lms_type k.params.height
  pub leaf : number_at sig 0 < 2 ^ levels k.params.height
  pub root : candidate k (number_at sig 0) message sig ≡ k.root

-- what is tested before any hash is computed: the length, the types and the leaf
unfoldable pub is_well_formed : Public → List ℕ → Bool
is_well_formed k sig =
    (length sig == signature_len k.params) && ((number_at sig 4 == ots_type k.params.ots)
    && ((number_at sig (40 + 32 * chains k.params.ots) == lms_type k.params.height)
    && nat_lt (number_at sig 0) (2 ^ levels k.params.height)))

-- acceptance as a test
unfoldable pub is_accepted : Public → List ℕ → List ℕ → Bool
is_accepted k message sig = is_well_formed k sig && bytes_eq (candidate k (number_at sig 0) message sig) k.root

-- how many hashes acceptance takes: none if the signature isn't well formed
unfoldable pub steps_taken : Public → List ℕ → List ℕ → ℕ
steps_taken k message sig = (if is_well_formed k sig then candidate_steps k (number_at sig 0) message sig else 0)

-- these bytes are a public key of these types
pub record IsKeyOf (p : Params) (bytes : List ℕ) : Type 0 where
  pub key : Public
  pub parts : IsPublic key
  pub params : key.params ≡ p
  pub spelled : bytes ≡ key_bytes key

-- the same as a test
unfoldable pub is_key_of : Params → List ℕ → Bool
is_key_of p bytes = (length bytes == 56) && bytes_eq (take 8 bytes) (type_bytes p)

-- the public key of these types that the bytes encode
abbrev pub key_at : Params → List ℕ → Public
key_at p bytes = record { params = p; ident = take 16 (drop 8 bytes); root = drop 24 bytes }

-- the bytes are a public key of these types, under which the signature is accepted on the message
pub record AcceptsUnder (p : Params) (bytes message sig : List ℕ) : Type 0 where
  pub key : Public
  pub parts : IsPublic key
  pub params : key.params ≡ p
  pub spelled : bytes ≡ key_bytes key
  pub accepted : Accepts key message sig

-- the same as a test
unfoldable pub is_accepted_under : Params → List ℕ → List ℕ → List ℕ → Bool
is_accepted_under p bytes message sig = is_key_of p bytes && is_accepted (key_at p bytes) message sig

-- how many hashes acceptance takes: none if the bytes are no public key of these types
unfoldable pub steps_taken_under : Params → List ℕ → List ℕ → List ℕ → ℕ
steps_taken_under p bytes message sig = (if is_key_of p bytes then steps_taken (key_at p bytes) message sig else 0)

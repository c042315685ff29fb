-- Secrets, from which secret keys are derived, and their public keys and signatures.
use Rattle.std.specs.Prelude.{ℕ, List, ◌++◌, take, codes}
use Rattle.std.specs.Int.{w32, to_be_bytes}
use Rattle.bar_bytes.specs.Tag.{tagged}
use Rattle.bar_lms.specs.declared.params.Params.{Params}
use Rattle.bar_lms.specs.declared.private.Private.{Private}
use Rattle.bar_lms.specs.Signature.{public_of, key_bytes, signature}

-- a session's id and a party's secret
pub record Secret : Type 0 where
  pub params : Params
  pub id : List ℕ
  pub secret : List ℕ

unfoldable pub private_of : Secret → Private
private_of s = record {
  params = s.params;
  ident = take 16 (tagged (codes "IDN1") s.id s.secret);
  seed = tagged (codes "SED1") s.id s.secret;
}

-- the randomizer of a leaf
abbrev pub randomizer_of : Secret → ℕ → List ℕ
randomizer_of s leaf = tagged (codes "RND1") s.id (to_be_bytes w32 leaf ++ s.secret)

-- the public key of a secret, as bytes
unfoldable pub public_key : Secret → List ℕ
public_key s = key_bytes (public_of (private_of s))

-- the signature of a message under a leaf
unfoldable pub signed : Secret → ℕ → List ℕ → List ℕ
signed s leaf message = signature (private_of s) leaf (randomizer_of s leaf) message

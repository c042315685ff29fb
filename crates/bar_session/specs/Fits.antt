-- What is derived from a party's secret in a session, and when a session holds the party's public key and anchor.
use Rattle.std.specs.Prelude.{◌≡◌, ℕ, ◌-◌, ◌≤◌, List, Some, slice_get}
use Rattle.bar_lms.specs.Schemes.{public_by}
use Rattle.bar_lms.specs.Secret.{Secret}
use Rattle.bar_seeds.specs.declared.secrets.Secrets.{Secrets}
use Rattle.bar_seeds.specs.Seeds.{anchor_of}
use Rattle.bar_session.specs.SessionData.{SessionData}

-- a party's secret in a session: the source of its seeds and of its signing key
abbrev pub secrets_in : SessionData → ℕ → List ℕ → Secrets
secrets_in s party secret = record { id = s.shape.id; party = party; secret = secret }

abbrev pub signing_secret : SessionData → List ℕ → Secret
signing_secret s secret = record { params = s.params; id = s.shape.id; secret = secret }

-- the public key derived from a secret
abbrev pub key_in : SessionData → List ℕ → List ℕ
key_in s secret = public_by s.top s.params s.shape.id secret

-- The session's public key for this party, and its anchor if the party is a peer, are those derived from the secret.
pub record Fits (s : SessionData) (party : ℕ) (secret : List ℕ) : Type 0 where
  pub key : slice_get s.keys party ≡ Some (key_in s secret)
  pub anchor : 1 ≤ party → slice_get s.anchors (party - 1) ≡ Some (anchor_of (secrets_in s party secret) s.shape.rounds)

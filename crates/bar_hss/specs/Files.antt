-- The key files of a session, and the scheme of a key file.
use Rattle.std.specs.Prelude.{◌≡◌, ℕ, Bool, List, Some}
use Rattle.bar_lms.specs.declared.params.Height.{Height}
use Rattle.bar_lms.specs.Schemes as session
use Rattle.bar_session.specs.SessionData.{SessionData}
use Rattle.bar_roster.specs.KeyFile.{IsHeldBy}
use Rattle.bar_session.specs.Fits.{key_in, secrets_in}
use Rattle.bar_hss.specs.declared.chosen.SessionVerifier.{SessionVerifier}
use Rattle.bar_hss.specs.declared.chosen.SessionScheme.{SessionScheme}
use Rattle.bar_hss.specs.declared.key_file.HssKeyFile.{HssKeyFile}
use Rattle.bar_hss.specs.declared.party_key.PartyKey.{PartyKey}
use Rattle.bar_hss.specs.Chosen.{accepted_with, length_with, most_with, leaf_with, accepted_by, length_of, most_of, leaf_by, key_of, leaves_of, signed_by}

-- ---- keys that are computed from a party's secret

-- The secrets, the signing key and the chain are those of a party's secret in a session whose signatures have two levels.
pub record IsHssMadeFor (s : SessionData) (party : ℕ) (secret : List ℕ) (k : HssKeyFile) : Type 0 where
  pub secrets : k.secrets ≡ secrets_in s party secret
  pub signer : (height : Height) → s.top ≡ Some height → k.signer ≡ session.two_levels height s.params s.shape.id secret
  pub chain : k.chain ≡ record { secrets = secrets_in s party secret; rounds = s.shape.rounds }

-- The key file is of the broadcaster or of a peer of the session, as asked for, and the session holds its public key and its anchor.
pub record IsHssKeyFileOf (s : SessionData) (caster : Bool) (k : HssKeyFile) : Type 0 where
  pub held : IsHeldBy s caster k.secrets
  pub made : IsHssMadeFor s k.secrets.party k.secrets.secret k

-- ---- the scheme of a session

-- It agrees with the session's scheme: it accepts the same signatures, names the same leaves, and has the same length and bound on hashes.
pub record VerifiesFor (s : SessionData) (v : SessionVerifier) : Type 0 where
  pub accepts : (key message sig : List ℕ) → accepted_with v key message sig ≡ session.accepted_by s.top s.params key message sig
  pub names : (sig : List ℕ) → leaf_with v sig ≡ session.named_by s.top s.params sig
  pub length : length_with v ≡ session.length_by s.top s.params
  pub most : most_with v ≡ session.most_by s.top s.params

-- It signs as a secret does in the session, has as many leaves, and verifies as the session's scheme does.
pub record SignsFor (s : SessionData) (secret : List ℕ) (k : SessionScheme) : Type 0 where
  pub key : key_of k ≡ key_in s secret
  pub signs : (leaf : ℕ) (message : List ℕ) → signed_by k leaf message ≡ session.signed_by s.top s.params s.shape.id secret leaf message
  pub leaves : leaves_of k ≡ session.leaves_by s.top s.params
  pub accepts : (key message sig : List ℕ) → accepted_by k key message sig ≡ session.accepted_by s.top s.params key message sig
  pub names : (sig : List ℕ) → leaf_by k sig ≡ session.named_by s.top s.params sig
  pub length : length_of k ≡ session.length_by s.top s.params
  pub most : most_of k ≡ session.most_by s.top s.params

-- The keys are of the broadcaster or of a peer of the session, as asked for, and the session holds the public values of the secret.
pub record IsPartyKeyOf (s : SessionData) (caster : Bool) (k : PartyKey) : Type 0 where
  pub held : IsHeldBy s caster k.secrets
  pub chain : k.chain ≡ record { secrets = k.secrets; rounds = s.shape.rounds }
  pub signs : SignsFor s k.secrets.secret k.scheme

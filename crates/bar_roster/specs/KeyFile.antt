-- Keys that belong to a session, and the first fault of one that doesn't.
use Rattle.std.specs.Prelude.{◌≡◌, ℕ, ◌-◌, ◌≤◌, ◌==◌, ◌&&◌, ◌||◌, not, nat_eq, nat_le, Bool, false, List, is_some, option_map, Result, Ok, Err, slice_get, if◌then◌else◌}
use Rattle.std.specs.Bool.{MatchBool}
use Rattle.std.specs.Option.{option_eq, option_map_or}
use Rattle.std.specs.Str.{bytes_eq}
use Rattle.bar_lms.specs.Params.{lms_type, ots_type}
use Rattle.bar_seeds.specs.declared.secrets.Secrets.{Secrets}
use Rattle.bar_seeds.specs.Seeds.{anchor_of}
use Rattle.bar_roster.specs.declared.key_file.KeyFile.{KeyFile}
use Rattle.bar_roster.specs.declared.key_fault.KeyFileFault.{KeyFileFault}
use Rattle.bar_roster.specs.declared.key_fault.KeyFileFault.TheVariants.{NotInRoster, Spent}
use Rattle.bar_roster.specs.declared.key_fields.KeyData.{KeyData}
use Rattle.bar_session.specs.SessionData.{SessionData}
use Rattle.bar_session.specs.Fits.{Fits, key_in, secrets_in, signing_secret}
use Rattle.bar_roster.specs.KeyText.{key_read}

-- whether a row is at this place
abbrev pub is_at : List (List ℕ) → ℕ → List ℕ → Bool
is_at rows place row = option_map_or (λ held. bytes_eq held row) (slice_get rows place) false

-- whether the session holds a public key for a party, and for a peer an anchor
abbrev pub holds : SessionData → ℕ → List ℕ → List ℕ → Bool
holds s party key anchor = is_at s.keys party key && ((party == 0) || is_at s.anchors (party - 1) anchor)

-- whether the session holds what is derived from a secret: `Fits` as a test
abbrev pub fits : SessionData → ℕ → List ℕ → Bool
fits s party secret = holds s party (key_in s secret) (anchor_of (secrets_in s party secret) s.shape.rounds)

-- whether the numbers are the session's, and the party is the broadcaster or a peer, as asked for
abbrev pub is_of_session : SessionData → Bool → KeyData → Bool
is_of_session s caster k =
    (bytes_eq k.id s.shape.id &&
    ((k.rounds == s.shape.rounds) && ((k.lms == lms_type s.params.height) && ((k.ots == ots_type s.params.ots)
    && option_eq nat_eq k.top (option_map lms_type s.top)))))
    && ((if caster then k.party == 0 else nat_le 1 k.party) && nat_le k.party s.shape.peers)

-- ---- the first fault, or whose secret it is

-- what the text says is checked
abbrev pub named_key : SessionData → Bool → Result KeyData KeyFileFault → Result KeyData KeyFileFault
named_key s caster (Err e) = Err e
named_key s caster (Ok k) = if is_of_session s caster k then Ok k else Err NotInRoster

-- what some bytes say of a key of the session, if the broadcaster's or a peer's is asked for
abbrev pub session_key_of : SessionData → Bool → List ℕ → Result KeyData KeyFileFault
session_key_of s caster bytes = named_key s caster (key_read (is_some s.top) bytes)

-- what is derived from the secret is checked, and the key's use
abbrev pub checked_key : SessionData → Bool → Result KeyData KeyFileFault → Result Secrets KeyFileFault
checked_key s fresh (Err e) = Err e
checked_key s fresh (Ok k) =
    if not (fits s k.party k.secret) then Err NotInRoster
    else if k.spent && fresh then Err Spent
    else Ok (secrets_in s k.party k.secret)

-- what some bytes are read as, for a session, if the broadcaster's key or a peer's is asked for, and maybe a fresh one
abbrev pub key_file_of : SessionData → Bool → Bool → List ℕ → Result Secrets KeyFileFault
key_file_of s caster fresh bytes = checked_key s fresh (session_key_of s caster bytes)

-- The secret is of the broadcaster or of a peer of the session, as asked for, and the session holds the public key and the anchor derived
-- from it.
pub record IsHeldBy (s : SessionData) (caster : Bool) (k : Secrets) : Type 0 where
  pub id : k.id ≡ s.shape.id
  pub party : k.party ≤ s.shape.peers
  pub role : MatchBool caster (k.party ≡ 0) (1 ≤ k.party)
  pub fits : Fits s k.party k.secret

-- ---- what is derived from it

-- The secrets, the signing key and the chain are derived from a party's secret.
pub record IsMadeFor (s : SessionData) (party : ℕ) (secret : List ℕ) (k : KeyFile) : Type 0 where
  pub secrets : k.secrets ≡ secrets_in s party secret
  pub signer : k.signer ≡ signing_secret s secret
  pub chain : k.chain ≡ record { secrets = secrets_in s party secret; rounds = s.shape.rounds }

-- The key file is of the broadcaster or of a peer of the session, as asked for, and the session holds its public key and its anchor.
pub record IsKeyFileOf (s : SessionData) (caster : Bool) (k : KeyFile) : Type 0 where
  pub party : k.secrets.party ≤ s.shape.peers
  pub role : MatchBool caster (k.secrets.party ≡ 0) (1 ≤ k.secrets.party)
  pub made : IsMadeFor s k.secrets.party k.secrets.secret k
  pub fits : Fits s k.secrets.party k.secrets.secret

-- The plan of the command `keygen`.
use Rattle.std.specs.Prelude.{◌≡◌, ◌≢◌, ◌⊎◌, ◌==◌, ℕ, false, List, [], ◌∷◌, ◌++◌, Option, Some, option_map, Ok, Err, Result, take, length, codes, if◌then◌else◌}
use Rattle.hex.specs.Hex.{encode_lower}
use Rattle.bar_lms.specs.declared.params.Height.{Height}
use Rattle.bar_lms.specs.declared.params.Params.{Params}
use Rattle.bar_lms.specs.Params.{lms_type, ots_type}
use Rattle.bar_lms.specs.Schemes.{leaves_by, public_by}
use Rattle.bar_seeds.specs.Seeds.{anchor_of}
use Rattle.bar_roster.specs.declared.key_fields.KeyData.{KeyData}
use Rattle.bar_roster.specs.declared.fault.SessionFault.{SessionFault}
use Rattle.bar_roster.specs.KeyText.{any_key_data, key_text_of}
use Rattle.bar_roster.specs.SessionText.{enough_leaves}
use Rattle.bar_outside.specs.Disk.{Content, Failure}
use Rattle.bar_outside.specs.declared.files.CallKind.TheVariants.{Read, Create, Append}
use Rattle.bar_outside.specs.Plan.{Outside, Action, Plan}
use Rattle.bar_outside.specs.Plan.Action.{create, append, show}
use Rattle.bar_outside.specs.Stages.{Stages, IsAccepted, IsRefused, accepts, plan_by, refuses, stage}
use Rattle.bar_outside.specs.Stages.Stages.{does}
use Rattle.bar_cli.specs.Refusals.{session_refused, secret_refused}

-- the requested key: of a party in a session with this id, for this many rounds, with signatures of these types, and with two levels if
-- there is a height of the upper tree; also the file that contains the secret, and the key file
pub record Keygen : Type 0 where
  pub party : ℕ
  pub id : List ℕ
  pub rounds : ℕ
  pub top : Option Height
  pub params : Params
  pub secret : List ℕ
  pub key : List ℕ

-- the secret in a file's bytes, or their number if it isn't 32
abbrev pub secret_of : List ℕ → Result (List ℕ) ℕ
secret_of bytes = if length bytes == 32 then Ok bytes else Err (length bytes)

-- the data of the fresh key file for a secret
abbrev pub key_made : Keygen → List ℕ → KeyData
key_made asked secret =
    any_key_data asked.party asked.id asked.rounds (lms_type asked.params.height) (ots_type asked.params.ots) (option_map lms_type asked.top)
    secret false

-- the public key of a secret, and the end of its chain of seeds
unfoldable pub public_of : Keygen → List ℕ → List ℕ
public_of asked secret = public_by asked.top asked.params asked.id secret

unfoldable pub anchor_for : Keygen → List ℕ → List ℕ
anchor_for asked secret = anchor_of (record { id = asked.id; party = asked.party; secret = secret }) asked.rounds

abbrev pub key_line : List ℕ → List ℕ
key_line key = codes "key = \"" ++ (encode_lower key ++ codes "\"\n")

abbrev pub anchor_line : List ℕ → List ℕ
anchor_line anchor = codes "anchor = \"" ++ (encode_lower anchor ++ codes "\"\n")

-- the lines on a party in a session's text: its key and, for a peer, its anchor
abbrev pub lines_of : Keygen → List ℕ → List ℕ
lines_of asked secret = key_line (public_of asked secret) ++ (if asked.party == 0 then [] else anchor_line (anchor_for asked secret))

-- the key file is created and written, and the lines are printed
abbrev pub keygen_actions : Keygen → List ℕ → List Action
keygen_actions asked secret = create asked.key ∷ append asked.key (key_text_of (key_made asked secret)) ∷ show (lines_of asked secret) ∷ []

-- ---- its stages

-- accepts the number of leaves if there are enough
abbrev pub leaves_for : Keygen → Result (Unit {0}) SessionFault
leaves_for asked = enough_leaves asked.rounds (leaves_by asked.top asked.params)

-- the key of this secret is made
abbrev pub making_end : Keygen → List ℕ → Plan
making_end asked secret = record { actions = keygen_actions asked secret; status = 0; line = [] }

-- the secret is read, and accepted or refused
abbrev pub secret_stages : Keygen → Stages
secret_stages asked = stage asked.secret secret_of 8 secret_refused (λ secret. does (making_end asked secret))

-- too few leaves are refused before anything is read
abbrev pub keygen_stages : Keygen → Stages
keygen_stages asked = accepts (leaves_for asked) (λ _. secret_stages asked) (λ fault. refuses 4 (session_refused fault))

abbrev pub keygen_plan : Keygen → Content → Plan
keygen_plan asked = plan_by (keygen_stages asked)

-- ---- what was accepted, and what was refused

-- there are too few leaves, or enough
abbrev pub HasFewLeaves : Keygen → Type 0
HasFewLeaves asked = (fault : SessionFault) × (leaves_for asked ≡ Err fault)

abbrev pub HasEnoughLeaves : Keygen → Type 0
HasEnoughLeaves asked = leaves_for asked ≡ Ok tt

-- there is a leaf for each message, and the secret exists and has 32 bytes
pub record KeygenAccepted (asked : Keygen) (content : Content) : Type 0 where
  pub secret : List ℕ
  pub leaves : HasEnoughLeaves asked
  pub in_secret : IsAccepted asked.secret secret_of content secret

-- there are enough leaves, and the secret exists and has this many bytes, which isn't 32
pub record SecretRefused (asked : Keygen) (content : Content) (len : ℕ) : Type 0 where
  pub leaves : HasEnoughLeaves asked
  pub in_secret : IsRefused asked.secret secret_of content len

-- ---- what then holds

-- both were accepted, the key file contains exactly the text of the fresh key, and its lines were printed
pub record KeyMade (asked : Keygen) (old new : Outside) : Type 0 where
  pub accepted : KeygenAccepted asked old.files.content
  pub written : new.files.content asked.key ≡ Some (key_text_of (key_made asked accepted.secret))
  pub printed : new.out.bytes ≡ old.out.bytes ++ lines_of asked accepted.secret
  pub others : (path : List ℕ) → path ≢ asked.key → new.files.content path ≡ old.files.content path

-- both were accepted, the key file contains exactly the text of the fresh key, and a prefix of its lines was printed
pub record KeyWritten (asked : Keygen) (old new : Outside) : Type 0 where
  pub accepted : KeygenAccepted asked old.files.content
  pub printed_count : ℕ
  pub written : new.files.content asked.key ≡ Some (key_text_of (key_made asked accepted.secret))
  pub printed : new.out.bytes ≡ old.out.bytes ++ take printed_count (lines_of asked accepted.secret)

-- both were accepted, the key file contains a prefix of the text, and once it was complete a prefix of the lines was printed
pub record KeyBegun (asked : Keygen) (old new : Outside) : Type 0 where
  pub accepted : KeygenAccepted asked old.files.content
  pub written_count : ℕ
  pub printed_count : ℕ
  pub written : new.files.content asked.key ≡ Some (take written_count (key_text_of (key_made asked accepted.secret)))
  pub printed : new.out.bytes ≡ old.out.bytes ++ take printed_count (lines_of asked accepted.secret)
  pub order : (printed_count ≡ 0) ⊎ (new.files.content asked.key ≡ Some (key_text_of (key_made asked accepted.secret)))

-- a call that `keygen` makes: the read of the secret, or a create or an append of the key file
abbrev pub IsKeygenCall : Keygen → Failure → Type 0
IsKeygenCall asked call =
    (call ≡ record { kind = Read; path = asked.secret })
    ⊎ ((call ≡ record { kind = Create; path = asked.key }) ⊎ (call ≡ record { kind = Append; path = asked.key }))

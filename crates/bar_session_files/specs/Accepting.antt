-- The meaning of a session's text and of a key text, and the stages that read them.
use Rattle.std.specs.Prelude.{ℕ, Bool, List, Result, true, false}
use Rattle.bar_outside.specs.Disk.{Content}
use Rattle.bar_outside.specs.Stages.{Stages, IsAccepted, IsRefused, stage}
use Rattle.bar_seeds.specs.declared.secrets.Secrets.{Secrets}
use Rattle.bar_roster.specs.declared.fault.SessionFault.{SessionFault}
use Rattle.bar_roster.specs.declared.key_fault.KeyFileFault.{KeyFileFault}
use Rattle.bar_session.specs.SessionData.{SessionData}
use Rattle.bar_roster.specs.SessionText as text
use Rattle.bar_roster.specs.KeyFile.{key_file_of}
use Rattle.bar_session_files.specs.Refusals.{key_refused, session_refused}

-- the session that a text encodes, or its first fault
unfoldable pub session_of : List ℕ → Result SessionData SessionFault
session_of bytes = text.session_of bytes

-- the secrets in a fresh key text of the broadcaster or of a peer, or its first fault
unfoldable pub fresh_key_of : Bool → SessionData → List ℕ → Result Secrets KeyFileFault
fresh_key_of caster s bytes = key_file_of s caster true bytes

-- the secrets in a key text of a peer of the session, spent or not, or its first fault
unfoldable pub secrets_of_key : SessionData → List ℕ → Result Secrets KeyFileFault
secrets_of_key s bytes = key_file_of s false false bytes

-- the session's text exists and is accepted
abbrev pub HasSession : List ℕ → Content → SessionData → Type 0
HasSession session content s = IsAccepted session session_of content s

-- the session's text exists and is refused with this fault
abbrev pub HasBadSession : List ℕ → Content → SessionFault → Type 0
HasBadSession session content fault = IsRefused session session_of content fault

-- ---- the stages with which most commands begin

-- the session's text is read, and accepted or refused
abbrev pub session_stage : List ℕ → (SessionData → Stages) → Stages
session_stage session others = stage session session_of 4 session_refused others

-- the key file of the broadcaster, or of a peer, is read, and accepted if it is fresh
abbrev pub fresh_key_stage : Bool → List ℕ → SessionData → (Secrets → Stages) → Stages
fresh_key_stage caster key s others = stage key (fresh_key_of caster s) 5 key_refused others

-- the key file of a peer is read, and accepted, spent or not
abbrev pub key_stage : List ℕ → SessionData → (Secrets → Stages) → Stages
key_stage key s others = stage key (secrets_of_key s) 5 key_refused others

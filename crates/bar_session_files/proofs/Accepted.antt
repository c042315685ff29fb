-- Properties of the session and the secrets of accepted texts.
use Rattle.std.proofs.Common.{◌≡◌, ℕ, ◌<◌, ◌^◌, List, Bool, true, false, Ok, arith}
use Rattle.bar_seeds.specs.declared.secrets.Secrets.{Secrets}
use Rattle.bar_session.specs.Fits.{Fits}
use Rattle.bar_roster.specs.KeyFile.{IsHeldBy, key_file_of}
use Rattle.bar_session.specs.Sessions.{IsSession}
use Rattle.bar_session.specs.SessionData.{SessionData}
use Rattle.bar_roster.specs.SessionText as text
use Rattle.bar_outside.specs.Disk.{Content}
use Rattle.bar_session_files.specs.Accepting.{HasSession, fresh_key_of, secrets_of_key, session_of}

-- if a key text is accepted, the session contains its key
abbrev pub AreHeld : Type 0
AreHeld =
    (s : SessionData) (caster fresh : Bool) (bytes : List ℕ) (k : Secrets) → key_file_of s caster fresh bytes ≡ Ok k → IsHeldBy s caster k

-- if a session text is accepted, its numbers are in their ranges
abbrev pub AreInRange : Type 0
AreInRange = (bytes : List ℕ) (s : SessionData) → text.session_of bytes ≡ Ok s → IsSession s

-- the same for the key of a replay
pub held-here : AreHeld → (s : SessionData) (bytes : List ℕ) (k : Secrets) → secrets_of_key s bytes ≡ Ok k → IsHeldBy s false k
unfolding secrets_of_key
held-here held s bytes k is = held s false false bytes k is

-- the same for a fresh key
held-fresh : AreHeld → (s : SessionData) (caster : Bool) (bytes : List ℕ) (k : Secrets) → fresh_key_of caster s bytes ≡ Ok k →
    IsHeldBy s caster k
unfolding fresh_key_of
held-fresh held s caster bytes k is = held s caster true bytes k is

pub fits-here : AreHeld → (s : SessionData) (caster : Bool) (bytes : List ℕ) (k : Secrets) → fresh_key_of caster s bytes ≡ Ok k →
    Fits s k.party k.secret
fits-here held s caster bytes k is = (held-fresh held s caster bytes k is).fits

pub in-range_here : AreInRange → (bytes : List ℕ) (s : SessionData) → session_of bytes ≡ Ok s → IsSession s
unfolding session_of
in-range_here ranged bytes s is = ranged bytes s is

-- a session has fewer than 2^64 peers
pub few-peers : AreInRange → (session : List ℕ) (content : Content) (s : SessionData) → HasSession session content s →
    s.shape.peers < 2 ^ 64
few-peers ranged session content s h = let most = (in-range_here ranged h.bytes s h.is).shape.peers_high in omega arith

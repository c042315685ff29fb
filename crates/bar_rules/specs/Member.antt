-- A session, and one party of it with its secret.
use Rattle.std.specs.Prelude.{ℕ, ◌+◌, Bool, List, [], nat_lt, unwrap_or, slice_get}
use Rattle.bar_session.specs.SessionData.{SessionData}
use Rattle.bar_session.specs.Sessions.{IsSession}
use Rattle.bar_session.specs.Fits.{Fits}
use Rattle.bar_wire.specs.Grammar.{IsPeer}

abbrev pub Session : Type 0
Session = SessionData

pub record Member : Type 0 where
  pub session : Session
  pub party : ℕ
  pub secret : List ℕ

-- The member is a peer of its session, which holds the key and the anchor derived from its secret.
pub record IsMember (me : Member) : Type 0 where
  pub session : IsSession me.session
  pub peer : IsPeer me.session.shape me.party
  pub fits : Fits me.session me.party me.secret

-- the public key of a party, the broadcaster's at 0
abbrev pub key_of_party : Session → ℕ → List ℕ
key_of_party s party = unwrap_or (slice_get s.keys party) []

-- an update of this round is alive in that round
abbrev pub is_alive : Session → ℕ → ℕ → Bool
is_alive s round now = nat_lt now (round + s.shape.life)

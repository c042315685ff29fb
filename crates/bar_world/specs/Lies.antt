-- The liar, and what is required of the datagrams that it lies about.
use Rattle.std.specs.Prelude.{◌≡◌, ℕ, ◌^◌, ◌<◌, ◌≤◌, List, length, true, Some, None}
use Rattle.bar_lms.specs.Params.{levels}
use Rattle.bar_lms.specs.Signature.{number_at}
use Rattle.bar_wire.specs.Datagram.{Datagram, Body, Key, is_signed}
use Rattle.bar_session.specs.Fits.{signing_secret}
use Rattle.bar_rules.specs.Member.{Session, Member}
use Rattle.bar_rules.specs.Values.{datagram_of, is_signed_by}
use Rattle.bar_world.specs.declared.lies.Liar.{Liar}

-- The liar is this member, whose signatures have one level.
pub record IsLiar (me : Member) (liar : Liar) : Type 0 where
  pub party_is : me.party ≡ liar.party
  pub shape_is : me.session.shape ≡ liar.shape
  pub single_is : me.session.top ≡ None
  pub signer_is : signing_secret me.session me.secret ≡ liar.signer

-- if the bytes encode a signed datagram, its signature is accepted under its sender's key
abbrev pub IsAcceptedIn : Session → List ℕ → Type 0
IsAcceptedIn s bytes =
    (d : Datagram) → datagram_of s bytes ≡ Some d → is_signed d.message.body ≡ true → is_signed_by s d ≡ true

-- the body is a KEY whose key has 32 bytes
abbrev pub IsKeyBody : Body → Type 0
IsKeyBody (Key k) = length k.key ≡ 32
IsKeyBody _ = ⊥

-- The signature names a leaf of the session's keys.
pub record HasLeaf (s : Session) (d : Datagram) : Type 0 where
  pub long : 4 ≤ length d.signature
  pub leaf : number_at d.signature 0 < 2 ^ levels s.params.height

-- this holds if the datagram is signed
abbrev pub HasLeafIfSigned : Session → Datagram → Type 0
HasLeafIfSigned s d = is_signed d.message.body ≡ true → HasLeaf s d

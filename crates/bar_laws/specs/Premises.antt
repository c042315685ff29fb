-- The premises of the laws can be met: there are sessions, setups, members, and worlds in which nothing is forged.
use Rattle.std.specs.Prelude.{◌≡◌, ℕ, ◌+◌, ◌≤◌, Bool, true, List, length, None}
use Rattle.std.specs.List.{AllByRecursion}
use Rattle.bar_session.specs.Sessions.{IsSession}
use Rattle.bar_rules.specs.Member.{Session, IsMember}
use Rattle.bar_rules.specs.Values.{datagram_of}
use Rattle.bar_rules.specs.World.World.{Move, TickOf, Deliver, Hostile, member, Setup, IsSetup}
use Rattle.bar_laws.specs.Parties.{ForgesNothing}

-- A session of so many peers and rounds.
pub record SessionOf (peers rounds : ℕ) : Type 0 where
  pub session : Session
  pub is : IsSession session
  pub peers_are : session.shape.peers ≡ peers
  pub rounds_are : session.shape.rounds ≡ rounds

-- for each number of peers that a session may have
abbrev pub SessionsExist : Type 0
SessionsExist = (peers : ℕ) → 2 ≤ peers → peers ≤ 200 → SessionOf peers 10

-- A setup of these secrets and this stream, whose session is the given one except for its keys and anchors.
pub record SetupOf (s : Session) (secrets : List (List ℕ)) (stream : List ℕ) : Type 0 where
  pub setup : Setup
  pub is : IsSetup setup
  pub session_is : setup.session ≡ record s { keys = setup.session.keys; anchors = setup.session.anchors }
  pub secrets_are : setup.secrets ≡ secrets
  pub stream_is : setup.stream ≡ stream

-- for any session's numbers, any secrets of its parties and any stream
abbrev pub SetupsExist : Type 0
SetupsExist =
    (s : Session) (secrets : List (List ℕ)) (stream : List ℕ) → IsSession s → length secrets ≡ s.shape.peers + 1
    → SetupOf s secrets stream

-- each peer of a setup
abbrev pub PeersAreMembers : Type 0
PeersAreMembers =
    (setup : Setup) (peer : ℕ) → IsSetup setup → 1 ≤ peer → peer ≤ setup.session.shape.peers → IsMember (member setup peer)

-- a tick, a delivery, or bytes that encode no datagram
abbrev pub IsPlainMove : Session → Move → Type 0
IsPlainMove s (TickOf party) = Unit {0}
IsPlainMove s (Deliver number) = Unit {0}
IsPlainMove s (Hostile to bytes) = datagram_of s bytes ≡ None

-- such moves forge nothing, whoever is trusted beside the broadcaster
abbrev pub PlainMovesForgeNothing : Type 0
PlainMovesForgeNothing =
    (setup : Setup) (trusted : ℕ → Bool) (moves : List Move) → IsSetup setup → trusted 0 ≡ true
    → AllByRecursion (IsPlainMove setup.session) moves → ForgesNothing setup trusted moves

-- How many bytes are in the datagrams that a peer admits, and in the evidence that it keeps.
use Rattle.std.specs.Prelude.{◌≡◌, ◌+◌, ◌≤◌, ℕ, List, Some, true, length, Contains}
use Rattle.bar_wire.specs.Datagram.{Datagram, is_signed, kind_of}
use Rattle.bar_wire.specs.Evidence.{evidence_bytes}
use Rattle.bar_wire.specs.Grammar.{AreDatagramsInRange, SpellsDatagram}
use Rattle.bar_wire.specs.Limits.{header_len, largest_datagram}
use Rattle.bar_session.specs.Sessions.{IsSession}
use Rattle.bar_rules.specs.Member.{Member, Session}
use Rattle.bar_rules.specs.Peer.Log.{Log, Heard, kept}
use Rattle.bar_rules.specs.Peer.Rules.{IsObedient}
use Rattle.bar_rules.specs.Peer.Sizes.{largest, most_evidence}
use Rattle.bar_rules.specs.Values.{datagram_bytes}
use Rattle.bar_seal.specs.Code.Memo.{most_datagram}
use Rattle.bar_laws.specs.Always.{InEachLog}

-- each datagram that was admitted has no more bytes than the largest of its kind
abbrev pub FitRooms : Member → Log → Type 0
FitRooms me log =
    (d : Datagram) → Contains log (Heard d) → length (datagram_bytes me.session d) ≤ largest me.session.shape (kind_of d.message.body)

-- for every list of inputs
abbrev pub RunFitsRooms : Type 0
RunFitsRooms = InEachLog FitRooms

-- the same for each log that obeys the rules, whether or not a run leaves it
abbrev pub LogFitsRooms : Type 0
LogFitsRooms = (me : Member) (log : Log) → IsObedient me log → FitRooms me log

-- Evidence that is kept is one or two datagrams, each of a length that a datagram may have. It has no more bytes than its room, and fits a
-- datagram after a header.
pub record FitsItsRoom (me : Member) (evidence : List (List ℕ)) : Type 0 where
  pub range : AreDatagramsInRange evidence
  pub short : length (evidence_bytes evidence) ≤ most_evidence me.session.shape
  pub sendable : header_len + length (evidence_bytes evidence) ≤ largest_datagram

-- for each log that obeys the rules
abbrev pub LogKeepsShortEvidence : Type 0
LogKeepsShortEvidence =
    (me : Member) (log : Log) (party : ℕ) (evidence : List (List ℕ)) → IsSession me.session → IsObedient me log
    → kept log party ≡ Some evidence → FitsItsRoom me evidence

-- no signed datagram of a session has more bytes than a room for a checked one
abbrev pub SignedAreShort : Type 0
SignedAreShort =
    (s : Session) (d : Datagram) (bytes : List ℕ) → IsSession s → SpellsDatagram s.shape d bytes → is_signed d.message.body ≡ true
    → length bytes ≤ most_datagram

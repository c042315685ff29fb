-- From evidence that a trusted peer keeps to the end of all trade: the report, the notice of a later round, its delivery, and the silence
-- after it.
use Rattle.std.specs.Prelude.{◌≡◌, ℕ, Bool, true, List, [], ◌∷◌, ◌++◌, Some, slice_get}
use Rattle.std.specs.List.{AllByRecursion}
use Rattle.bar_wire.specs.Datagram.{Datagram}
use Rattle.bar_wire.specs.Grammar.{IsPeer}
use Rattle.bar_wire.specs.Inputs as event
use Rattle.bar_wire.specs.Inputs.{Input}
use Rattle.bar_rules.specs.Member.{Member}
use Rattle.bar_rules.specs.Peer.Log.{Log}
use Rattle.bar_rules.specs.Peer.Run.{step}
use Rattle.bar_rules.specs.Runs.{begun}
use Rattle.bar_rules.specs.Values.{datagram_of}
use Rattle.bar_rules.specs.World.World.{Deliver, Move, Setup, TickOf, member}
use Rattle.bar_laws.specs.Parties.{ForgesNothing, IsCastersLog, after}
use Rattle.bar_progress.specs.Evictions.{AwaitsNotice, IsReported, IsSpared}
use Rattle.bar_progress.specs.Rounds.{IsRoundDue}

-- Whatever is delivered in the party's name leaves the peer as it was, and the peer sends the party nothing at any input.
pub record LeavesAlone (me : Member) (log : Log) (party : ℕ) : Type 0 where
  pub takes_nothing :
      (bytes : List ℕ) (d : Datagram) → datagram_of me.session bytes ≡ Some d → d.message.from ≡ party
      → step me log (event.Datagram bytes) ≡ begun log
  pub sends_nothing : (input : Input) → AllByRecursion (IsSpared party) (step me log input).sends

-- the moves up to the broadcaster's tick: those before the report, the one that brings it, and those after it
abbrev pub until_tick : List Move → Move → List Move → List Move
until_tick moves report waiting = moves ++ report ∷ waiting

-- A report reaches the broadcaster in time. After more moves that forge nothing its next tick begins a round of the session.
pub record IsDenounced (setup : Setup) (trusted : ℕ → Bool) (moves : List Move) (report : Move) (waiting : List Move)
    (party round : ℕ) : Type 0 where
  pub reported : IsReported setup trusted moves report party
  pub unforged : ForgesNothing setup trusted (until_tick moves report waiting)
  pub caster : Log
  pub caster_is : IsCastersLog (after setup (until_tick moves report waiting)) caster
  pub due : IsRoundDue (member setup 0) caster round

-- After these moves a packet with the notice is on its way to the peer. Once it is delivered in time, the peer leaves the party alone,
-- whatever moves follow.
pub record IsOnItsWay (setup : Setup) (trusted : ℕ → Bool) (moves : List Move) (peer party round : ℕ) : Type 0 where
  pub number : ℕ
  pub bytes : List ℕ
  pub packet : slice_get (after setup moves).packets number ≡ Some (peer, bytes)
  pub ends :
      (waiting later : List Move) (end : Log) → AwaitsNotice setup trusted (moves ++ waiting) peer round
      → slice_get (after setup ((moves ++ waiting) ++ Deliver number ∷ later)).logs peer ≡ Some end
      → LeavesAlone (member setup peer) end party

-- the tick does so for each trusted peer
abbrev pub EvidenceEndsTrade : Type 0
EvidenceEndsTrade =
    (setup : Setup) (trusted : ℕ → Bool) (moves waiting : List Move) (report : Move) (party round peer : ℕ)
    → IsDenounced setup trusted moves report waiting party round → IsPeer setup.session.shape peer → trusted peer ≡ true
    → IsOnItsWay setup trusted (until_tick moves report waiting ++ TickOf 0 ∷ []) peer party round

-- A party of a world behaves as in its own run: its log, and what it played and sent, follow from the inputs that the moves gave it.
use Rattle.std.specs.Prelude.{◌≡◌, ℕ, ◌≤◌, ◌==◌, Bool, false, List, [], ◌∷◌, ◌++◌, map, filter, Option, Some, None, if◌then◌else◌, slice_get, Contains}
use Rattle.std.specs.Option.{option_map_or}
use Rattle.bar_rules.specs.Broadcaster.Sending.{caster_step}
use Rattle.bar_wire.specs.Datagram.{Datagram}
use Rattle.bar_wire.specs.Inputs.{Input}
use Rattle.bar_wire.specs.Inputs as event
use Rattle.bar_rules.specs.Peer.Log.{Log}
use Rattle.bar_rules.specs.Member.{Session}
use Rattle.bar_rules.specs.Peer.Run.{step}
use Rattle.bar_rules.specs.Runs.{Outcome, state_after, played_from, sends_from}
use Rattle.bar_rules.specs.Values.{datagram_bytes, datagram_of}
use Rattle.bar_rules.specs.World.World.{World, Move, TickOf, Deliver, Hostile, member, happens, Setup, IsSetup, IsGenuine, initial}
use Rattle.bar_laws.specs.Parties.{ForgesNothing, after}

-- ---- the inputs of a party

-- an input for this receiver, if the receiver is the party
abbrev pub given_to : ℕ → ℕ → Input → List Input
given_to party receiver input = if receiver == party then input ∷ [] else []

abbrev pub brought_to : ℕ → Option (ℕ × List ℕ) → List Input
brought_to party None = []
brought_to party (Some packet) = given_to party packet.0 (event.Datagram packet.1)

-- what a move gives the party
abbrev pub input_at : World → ℕ → Move → List Input
input_at w party (TickOf receiver) = given_to party receiver event.Tick
input_at w party (Deliver number) = brought_to party (slice_get w.packets number)
input_at w party (Hostile receiver bytes) = given_to party receiver (event.Datagram bytes)

abbrev pub inputs_from : Setup → World → ℕ → List Move → List Input
inputs_from setup w party [] = []
inputs_from setup w party (m ∷ ms) = input_at w party m ++ inputs_from setup (happens setup w m) party ms

-- its ticks, what is delivered to it out of the pool, and what hostile parties hand it, in order
abbrev pub inputs_of : Setup → List Move → ℕ → List Input
inputs_of setup moves party = inputs_from setup (initial setup) party moves

-- If nothing is forged, each signed datagram of a trusted party among these inputs, admitted or not, is recorded in that party's log as
-- signed, with this signature.
abbrev pub GivenIsGenuine : Type 0
GivenIsGenuine =
    (setup : Setup) (trusted : ℕ → Bool) (moves : List Move) → ForgesNothing setup trusted moves
    → (receiver : ℕ) (bytes : List ℕ) → Contains (inputs_of setup moves receiver) (event.Datagram bytes)
    → IsGenuine setup trusted (after setup moves) bytes

-- ---- its packets

-- the packet encodes a datagram of this party
abbrev pub is_from : Session → ℕ → ℕ × List ℕ → Bool
is_from s party packet = option_map_or (λ d. d.message.from == party) (datagram_of s packet.1) false

-- the packets of what a run sends
abbrev pub packets_of : Session → List (ℕ × ℕ × Datagram) → List (ℕ × List ℕ)
packets_of s sends = map (λ sent. (sent.1, datagram_bytes s sent.2)) sends

-- ---- its run

-- After the moves, a party has the log that its own steps leave over its inputs, from the empty log on, and has played what they play. Of
-- all packets that were ever sent, those that encode a datagram of the party are the ones that its steps send, in order.
pub record IsOwnRun (setup : Setup) (moves : List Move) (party : ℕ) (steps : Log → Input → Outcome Log) : Type 0 where
  pub log : slice_get (after setup moves).logs party ≡ Some (state_after steps [] (inputs_of setup moves party))
  pub played : slice_get (after setup moves).played party ≡ Some (played_from steps [] (inputs_of setup moves party))
  pub sent :
      filter (is_from setup.session party) (after setup moves).packets
      ≡ packets_of setup.session (sends_from steps [] 1 (inputs_of setup moves party))

-- for each peer
abbrev pub PeersRun : Type 0
PeersRun =
    (setup : Setup) (moves : List Move) → IsSetup setup → (peer : ℕ) → 1 ≤ peer → peer ≤ setup.session.shape.peers
    → IsOwnRun setup moves peer (step (member setup peer))

-- for the broadcaster
abbrev pub BroadcasterRuns : Type 0
BroadcasterRuns =
    (setup : Setup) (moves : List Move) → IsSetup setup → IsOwnRun setup moves 0 (caster_step (member setup 0) setup.stream)

-- How the code represents a world.
use Rattle.std.specs.Prelude.{◌≡◌, ℕ, ◌+◌, List, length, Some, slice_get}
use Rattle.bar_core.specs.Code.Face.{IsIdle}
use Rattle.bar_wire.specs.Limits.{largest_datagram}
use Rattle.bar_rules.specs.World.World.{Setup, IsSetup, Move, member}
use Rattle.bar_laws.specs.Parties.{after}
use Rattle.bar_laws.specs.OwnRuns.{inputs_of}
use Rattle.bar_caster.specs.declared.memory.Memory.{Memory as CasterMemory}
use Rattle.bar_caster.specs.Code.Core.{caster_rules, face_of as caster_face}
use Rattle.bar_caster.specs.Code.Orders.{Orders as CasterOrders}
use Rattle.bar_caster.specs.Code.StandsFor.{StandsFor as CasterTook}
use Rattle.bar_peer.specs.declared.memory.Memory.{Memory as PeerMemory}
use Rattle.bar_peer.specs.declared.playing.Playing.{Playing}
use Rattle.bar_peer.specs.Core.{peer_rules, face_of as peer_face}
use Rattle.bar_peer.specs.Code.Orders.{Orders as PeerOrders}
use Rattle.bar_peer.specs.Code.StandsFor.{StandsFor as PeerTook}
use Rattle.bar_world.specs.declared.world.World.{World as KeptWorld}
use Rattle.bar_world.specs.Code.Cores.{IsCoreOf}
use Rattle.bar_world.specs.Code.Packets.{packets_of}
use Rattle.bar_world.specs.Code.Texts.{texts}

-- the broadcaster of a setup took the inputs that moves gave it
abbrev pub CasterRan : Setup → List Move → CasterMemory → CasterOrders → Type 0
CasterRan setup moves memory orders =
    IsCoreOf (caster_rules (member setup 0) setup.stream) (inputs_of setup moves 0) (CasterTook memory) (caster_face memory orders)

-- a peer took the inputs that moves gave it
abbrev pub PeerRan : Setup → List Move → ℕ → PeerMemory → PeerOrders → Playing → Type 0
PeerRan setup moves party memory orders playing =
    IsCoreOf (peer_rules (member setup party)) (inputs_of setup moves party) (PeerTook memory) (peer_face memory orders playing)

-- No core has output left to give out, there is a list of played bytes for each party, and the buffer has room for any datagram.
pub record IsReady (kept : KeptWorld) : Type 0 where
  pub caster : IsIdle (caster_face kept.caster.memory kept.caster.orders)
  pub peers :
      (i : ℕ) (peer : _) → slice_get kept.peers.items i ≡ Some peer → IsIdle (peer_face peer.memory peer.orders peer.playing)
  pub texts : length kept.played.items ≡ length kept.peers.items + 1
  pub room : length kept.buf.items ≡ largest_datagram

-- The kept world stands for a list of moves. Its datagrams and what each party played are those of the world after the moves, and each core
-- took the inputs that the moves gave its party.
pub record StandsFor (setup : Setup) (moves : List Move) (kept : KeptWorld) : Type 0 where
  pub setup_is : IsSetup setup
  pub count : length kept.peers.items ≡ setup.session.shape.peers
  pub caster : CasterRan setup moves kept.caster.memory kept.caster.orders
  pub peers :
      (i : ℕ) (peer : _) → slice_get kept.peers.items i ≡ Some peer
      → PeerRan setup moves (i + 1) peer.memory peer.orders peer.playing
  pub played : texts kept.played.items ≡ (after setup moves).played
  pub packets : packets_of kept.pool.items ≡ (after setup moves).packets

-- A network that loses, repeats and delays datagrams by drawn numbers, and one party that lies in the keys that it gives.
use Rattle.std.specs.Prelude.{ℕ, zero, suc, ◌+◌, ◌%◌, ◌==◌, Bool, true, List, [], ◌∷◌, ◌++◌, length, drop, Option, Some, None, slice_index}
use Rattle.std.specs.Prelude.{slice_set, bit_xor, if◌then◌else◌}
use Rattle.std.specs.List.{range_with_len}
use Rattle.bar_lms.specs.Signature.{number_at}
use Rattle.bar_wire.specs.Datagram.{Message, Datagram, Body, Key, KeyGiven}
use Rattle.bar_rules.specs.Member.{Member}
use Rattle.bar_rules.specs.Values.{datagram_of, datagram_bytes, message_bytes}
use Rattle.bar_rules.specs.Secrets.{signature_of}
use Rattle.bar_rules.specs.World.World.{Setup, World, Move, TickOf, Deliver, Hostile, member, initial, happens}

-- what is given: the parties with their secrets, the liar, and the drawn numbers in order
pub record Game : Type 0 where
  pub setup : Setup
  pub liar : ℕ
  pub drawn : ℕ → ℕ

-- The world so far with the moves that led to it, the queue of deliveries, how many numbers were drawn, and the counts of deliveries.
pub record Play : Type 0 where
  pub world : World
  pub moves : List Move
  pub queue : List Move
  pub draws : ℕ
  pub delivered : ℕ
  pub lost : ℕ
  pub repeated : ℕ

-- ---- lies

-- a key with the lowest bit of its first byte changed
abbrev pub other_key : List ℕ → List ℕ
other_key key = slice_set key 0 (bit_xor (slice_index key 0) 1)

abbrev pub lying : Message → KeyGiven → Message
lying m k = record { from = m.from; to = m.to; body = Key (record k { key = other_key k.key }) }

-- A datagram with that key, signed by this member with the leaf of the true one. The leaf determines the randomizer.
abbrev pub lie_of : Member → Datagram → KeyGiven → Datagram
lie_of me d k = record {
  message = lying d.message k;
  signature = signature_of me (number_at d.signature 0) (message_bytes me.session (lying d.message k));
}

-- what is delivered in place of a KEY of this member; nothing for other bodies
abbrev pub lie_by : Bool → Member → Datagram → Body → Option (List ℕ)
lie_by true me d (Key k) = Some (datagram_bytes me.session (lie_of me d k))
lie_by _ me d _ = None

abbrev pub lie_in : Member → Option Datagram → Option (List ℕ)
lie_in me None = None
lie_in me (Some d) = lie_by (d.message.from == me.party) me d d.message.body

-- ---- the queue

abbrev pub delivery_by : ℕ → ℕ → Option (List ℕ) → Move
delivery_by number to None = Deliver number
delivery_by number to (Some bytes) = Hostile to bytes

-- How the packet with this number is delivered. A KEY names its sender, so the KEYs that name the liar are those that its core sends.
abbrev pub delivery : Game → ℕ → ℕ × List ℕ → Move
delivery game number packet =
    delivery_by number packet.0 (lie_in (member game.setup game.liar) (datagram_of game.setup.session packet.1))

-- how packets are delivered that have consecutive numbers starting with `number`
abbrev pub deliveries : Game → ℕ → List (ℕ × List ℕ) → List Move
deliveries game number [] = []
deliveries game number (packet ∷ packets) = delivery game number packet ∷ deliveries game (number + 1) packets

-- a move happens, and the deliveries of what it sends are appended to the queue
unfoldable pub moved : Game → Play → Move → Play
moved game play m =
    let next : World = happens game.setup play.world m in
    let sent : List (ℕ × List ℕ) = drop (length play.world.packets) next.packets in
    record play {
      world = next;
      moves = play.moves ++ m ∷ [];
      queue = play.queue ++ deliveries game (length play.world.packets) sent;
    }

-- ---- the first entry of the queue is decided by the drawn number

abbrev pub lost_one : Play → Play
lost_one play = record play { lost = play.lost + 1 }

abbrev pub delivered_once : Game → Play → Move → Play
delivered_once game play m = moved game (record play { delivered = play.delivered + 1 }) m

abbrev pub delivered_twice : Game → Play → Move → Play
delivered_twice game play m =
    moved game (moved game (record play { delivered = play.delivered + 1; repeated = play.repeated + 1 }) m) m

abbrev pub decided : Game → Play → Move → ℕ → Play
decided game play m number =
    if number % 10 == 0 then lost_one play
    else if number % 10 == 1 then delivered_twice game play m
    else delivered_once game play m

-- the queue is this one, and one more number was drawn
abbrev pub drew : Play → List Move → Play
drew play queue = record play { queue = queue; draws = play.draws + 1 }

-- if the queue isn't empty, its first entry is removed and a number is drawn
abbrev pub served_by : Game → Play → List Move → Play
served_by game play [] = play
served_by game play (m ∷ queue) = decided game (drew play queue) m (game.drawn play.draws)

abbrev pub served : Game → Play → Play
served game play = served_by game play play.queue

-- at most `n` entries are served
unfoldable pub drained : Game → ℕ → Play → Play
drained game zero play = play
drained game (suc n) play = drained game n (served game play)

-- ---- ticks

-- each of these parties takes a tick, in order
unfoldable pub ticked : Game → List ℕ → Play → Play
ticked game [] play = play
ticked game (party ∷ parties) play = ticked game parties (moved game play (TickOf party))

-- one tick of all parties, and then at most `most` entries are served
abbrev pub tick_played : Game → ℕ → Play → Play
tick_played game most play = drained game most (ticked game (range_with_len 0 (game.setup.session.shape.peers + 1)) play)

-- `n` ticks of all parties
unfoldable pub played_on : Game → ℕ → ℕ → Play → Play
played_on game most zero play = play
played_on game most (suc n) play = played_on game most n (tick_played game most play)

-- nothing has happened yet
abbrev pub begun : Game → Play
begun game = record { world = initial game.setup; moves = []; queue = []; draws = 0; delivered = 0; lost = 0; repeated = 0 }

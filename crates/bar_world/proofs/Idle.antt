-- A kept world after a move that gives no input.
use Rattle.bar_wire.specs.Inputs.{Input}
use Rattle.bar_wire.specs.Inputs as event
use Rattle.bar_rules.specs.World.World.{Setup, World, Move, Deliver, happens, delivered}
use Rattle.bar_laws.specs.Parties.{after}
use Rattle.bar_laws.specs.OwnRuns.{brought_to, input_at}
use Rattle.bar_world.specs.declared.packet.Packet.{Packet}
use Rattle.bar_world.specs.declared.world.World.{World as KeptWorld}
use Rattle.bar_world.specs.Code.Given.{Gives}
use Rattle.bar_world.specs.Code.Kept.{StandsFor}
use Rattle.bar_world.specs.Code.Packets.{packet_of}
use Rattle.bar_world.proofs.Worlds.{after-more, nobody-takes, others-took}
use Rattle.std.proofs.Common.{◌≡◌, ◌≤◌, ◌<◌, ◌∙◌, ℕ, ◌+◌, List, [], ◌∷◌, ◌++◌, cond, length, sym, ap, arith}
use Rattle.std.specs.Prelude.{Some, None, option_map, slice_get}
use Rattle.std.proofs.lemmas.Bool.{ne_eqb}
use Rattle.std.proofs.lemmas.Option.{slice_get-map, slice_get_past, slice_get_within}

idle-stands : (setup : Setup) (moves : List Move) (m : Move) (kept : KeptWorld) → happens setup (after setup moves) m ≡ after setup moves
    → ((q : ℕ) → q ≤ setup.session.shape.peers → input_at (after setup moves) q m ≡ []) → StandsFor setup moves kept
    → StandsFor setup (moves ++ m ∷ []) kept
idle-stands setup moves m kept same none s =
    let next : after setup (moves ++ m ∷ []) ≡ after setup moves = after-more setup moves m ∙ same in
    record {
      setup_is = s.setup_is;
      count = s.count;
      caster = others-took setup moves m 0 _ _ _ (none 0 (omega arith)) s.caster;
      peers = λ i peer there.
          let low : i < length kept.peers.items = slice_get_within kept.peers.items i peer there in
          let n : length kept.peers.items ≡ setup.session.shape.peers = s.count in
          others-took setup moves m (i + 1) _ _ _ (none (i + 1) (omega arith)) (s.peers i peer there);
      played = s.played ∙ ap (λ (w : World). w.played) (sym next);
      packets = s.packets ∙ ap (λ (w : World). w.packets) (sym next);
    }

-- an input of a party that doesn't exist
pub nobody-took : (setup : Setup) (moves : List Move) (m : Move) (p : ℕ) (input : Input) (kept : KeptWorld) → length kept.peers.items < p
    → Gives setup (after setup moves) m p input → StandsFor setup moves kept → StandsFor setup (moves ++ m ∷ []) kept
nobody-took setup moves m p input kept far gives s =
    let n : length kept.peers.items ≡ setup.session.shape.peers = s.count in
    let all : length setup.secrets ≡ setup.session.shape.peers + 1 = s.setup_is.parties in
    idle-stands setup moves m kept (nobody-takes setup moves m p input gives (omega arith))
    (λ q low. gives.inputs q ∙ ap (λ b. cond b (input ∷ []) []) (ne_eqb p q (λ e. omega arith)))
    s

-- a `Deliver` past the end of the pool
pub past-pool : (setup : Setup) (moves : List Move) (k : ℕ) (kept : KeptWorld) → length kept.pool.items ≤ k → StandsFor setup moves kept
    → StandsFor setup (moves ++ Deliver k ∷ []) kept
past-pool setup moves k kept past s =
    let none : slice_get (after setup moves).packets k ≡ None =
    ap (λ packets. slice_get packets k) (sym s.packets) ∙ slice_get-map packet_of kept.pool.items k
    ∙ ap (λ o. option_map packet_of o) (slice_get_past kept.pool.items k past)
    in
    idle-stands setup moves (Deliver k) kept (ap (λ o. delivered setup (after setup moves) o) none)
    (λ q low. ap (λ o. brought_to q o) none)
    s

-- the input that a `Deliver` gives
pub delivered-gives : (setup : Setup) (moves : List Move) (k : ℕ) (kept : KeptWorld) (packet : Packet)
    → slice_get kept.pool.items k ≡ Some packet → StandsFor setup moves kept
    → Gives setup (after setup moves) (Deliver k) packet.to (event.Datagram packet.bytes.items)
delivered-gives setup moves k kept packet here s =
    let some : slice_get (after setup moves).packets k ≡ Some (packet.to, packet.bytes.items) =
    ap (λ packets. slice_get packets k) (sym s.packets) ∙ slice_get-map packet_of kept.pool.items k ∙ ap (λ o. option_map packet_of o) here
    in
    record {
      next = ap (λ o. delivered setup (after setup moves) o) some;
      inputs = λ q. ap (λ o. brought_to q o) some;
    }

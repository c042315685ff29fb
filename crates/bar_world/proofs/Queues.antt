-- The deliveries of what was sent are appended to the queue.
use Rattle.bar_rules.specs.Member.{Session}
use Rattle.bar_rules.specs.World.World as plain
use Rattle.bar_world.specs.declared.moves.Move.{Move}
use Rattle.bar_world.specs.declared.packet.Packet.{Packet}
use Rattle.bar_world.specs.Lies.{IsAcceptedIn}
use Rattle.bar_world.specs.Code.Moves.{plain_move}
use Rattle.bar_world.specs.Network.{Game, delivery, deliveries}
use Rattle.bar_world.specs.Code.Packets.{packet_of, packets_of}
use Rattle.bar_world.specs.Code.Playing.{queue_of, AreAcceptedIn}
use Rattle.std.proofs.Common.{◌≡◌, ℕ, zero, suc, List, [], ◌∷◌, ◌++◌, ◌+◌, ◌<◌, length, map, drop, get_or, sym, ap, ◌∙◌, subst, append_assoc, arith}
use Rattle.std.proofs.lemmas.List.{map-append}

drop-at : {X Y : Type 0} (f : X → Y) (xs : List X) (i : ℕ) (x : X) → i < length xs → x ≡ get_or xs i x
    → drop i (map f xs) ≡ f x ∷ drop (i + 1) (map f xs)
drop-at f [] i x h e = absurd (omega (arith, h))
drop-at f (y ∷ xs) zero x h e = ap (λ z. f z ∷ map f xs) (sym e)
drop-at f (y ∷ xs) (suc i) x h e =
    let s : suc i + 1 ≡ suc (i + 1) = omega arith in
    rw s (drop-at f xs i x (omega (arith, h)) e)

accepted-at : (s : Session) (pool : List Packet) (i : ℕ) (x : Packet) → i < length pool → x ≡ get_or pool i x
    → AreAcceptedIn s (packets_of pool) → IsAcceptedIn s x.bytes.items
accepted-at s [] i x h e all = absurd (omega (arith, h))
accepted-at s (y ∷ pool) zero x h e all = subst (λ (z : Packet). IsAcceptedIn s z.bytes.items) (sym e) all.0
accepted-at s (y ∷ pool) (suc i) x h e all = accepted-at s pool i x (omega (arith, h)) e all.1

pub enqueued-one : (game : Game) (pool : List Packet) (i : ℕ) (x : Packet) (old new : List Move) (entry : Move) (whole : List plain.Move)
    → i < length pool → x ≡ get_or pool i x → new ≡ old ++ entry ∷ []
    → (IsAcceptedIn game.setup.session x.bytes.items → plain_move entry ≡ delivery game i (packet_of x))
    → AreAcceptedIn game.setup.session (packets_of pool)
    → queue_of old ++ deliveries game i (drop i (packets_of pool)) ≡ whole
    → queue_of new ++ deliveries game (i + 1) (drop (i + 1) (packets_of pool)) ≡ whole
enqueued-one game pool i x old new entry whole h e grown is all so =
    ap (λ q. queue_of q ++ rest) grown
    ∙ ap (λ q. q ++ rest) (map-append plain_move old (entry ∷ []))
    ∙ append_assoc (queue_of old) (plain_move entry ∷ []) rest
    ∙ ap (λ m. queue_of old ++ (m ∷ rest)) (is (accepted-at game.setup.session pool i x h e all))
    ∙ ap (λ d. queue_of old ++ deliveries game i d) (sym (drop-at packet_of pool i x h e))
    ∙ so
  where
    rest : List plain.Move
    rest = deliveries game (i + 1) (drop (i + 1) (packets_of pool))

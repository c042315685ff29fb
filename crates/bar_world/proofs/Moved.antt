-- A network after one move of its play.
use Rattle.std.specs.declared.alloc.AllocError.{AllocError}
use Rattle.rand_chacha.specs.ChaCha.{ChaCha, word_at}
use Rattle.bar_wire.specs.Datagram.{Datagram, is_signed}
use Rattle.bar_rules.specs.Values.{is_signed_by}
use Rattle.bar_rules.specs.World.World.{Setup, World, member, happens}
use Rattle.bar_rules.specs.World.World as plain
use Rattle.bar_laws.specs.Parties.{IsOfParty, SentIsAccepted, after}
use Rattle.bar_world.specs.declared.network.Network.{Network}
use Rattle.bar_world.specs.declared.packet.Packet.{Packet}
use Rattle.bar_world.specs.Code.Kept.{StandsFor}
use Rattle.bar_world.specs.Lies.{IsAcceptedIn, IsLiar}
use Rattle.bar_world.specs.Network.{Game, Play, deliveries, moved}
use Rattle.bar_world.specs.Code.Packets.{packet_of, packets_of}
use Rattle.bar_world.specs.Code.Playing.{AreAcceptedIn, IsPlaying, Plays, queue_of}
use Rattle.bar_world.proofs.Worlds.{after-more}
use Rattle.std.proofs.Common.{◌≡◌, ℕ, List, [], ◌∷◌, ◌++◌, ◌+◌, length, drop, sym, ap, ◌∙◌, subst}
use Rattle.std.specs.Prelude.{Result, Ok, Err, OnOk, true}
use Rattle.std.specs.List.{AllByRecursion}
use Rattle.std.proofs.lemmas.List.{length-map}
use Rattle.std.proofs.lemmas.Option.{same_Some}

-- a signed datagram that a party sent is accepted
of-party : (setup : Setup) (packet : ℕ × List ℕ) → IsOfParty setup packet → IsAcceptedIn setup.session packet.1
of-party setup packet of d reads =
    subst (λ (d : Datagram). is_signed d.message.body ≡ true → is_signed_by setup.session d ≡ true)
    (same_Some of.datagram d (sym of.accepted.reads ∙ reads)) of.accepted.accepted

all-accepted : (setup : Setup) (packets : List (ℕ × List ℕ)) → AllByRecursion (IsOfParty setup) packets
    → AreAcceptedIn setup.session packets
all-accepted setup [] all = tt
all-accepted setup (packet ∷ packets) all = (of-party setup packet all.0, all-accepted setup packets all.1)

-- after a move, the deliveries of what it sent are in the queue
abbrev Queued : Network → Network → ℕ → List Packet → Type 0
Queued old new from pool =
    (g : Game) → IsLiar (member g.setup g.liar) old.liar → AreAcceptedIn g.setup.session (packets_of pool)
    → queue_of new.queue.items ≡ queue_of old.queue.items ++ deliveries g from (drop from (packets_of pool))

-- Nothing else changes.
pub record IsOnlyMoved (old new : Network) : Type 0 where
  pub liar : new.liar ≡ old.liar
  pub words : new.words ≡ old.words
  pub delivered : new.delivered ≡ old.delivered
  pub lost : new.lost ≡ old.lost
  pub repeated : new.repeated ≡ old.repeated

moved-playing : SentIsAccepted → (game : Game) (play : Play) (m : plain.Move) (old new : Network) (from : ℕ) → IsPlaying game play old
    → StandsFor game.setup (play.moves ++ m ∷ []) new.world → from ≡ length old.world.pool.items → Queued old new from new.world.pool.items
    → IsOnlyMoved old new → IsPlaying game (moved game play m) new
unfolding moved
moved-playing law game play m old new from is world at queued only = record {
  liar_is = subst (λ z. IsLiar (member game.setup game.liar) z) (sym only.liar) is.liar_is;
  world = world;
  run_is = run_is;
  queue =
      queued game is.liar_is accepted
      ∙ ap (λ q. q ++ deliveries game from (drop from (packets_of new.world.pool.items))) is.queue
      ∙ ap (λ n. play.queue ++ deliveries game n (drop n (packets_of new.world.pool.items))) start
      ∙ ap (λ packets. play.queue ++ deliveries game (length play.world.packets) (drop (length play.world.packets) packets))
      (world.packets ∙ ap (λ (w : World). w.packets) (sym run_is));
  drawn = λ k. is.drawn k ∙ ap (λ (w : ChaCha). word_at 10 w.key w.stream (w.word_pos + k)) (sym only.words);
  delivered = only.delivered ∙ is.delivered;
  lost = only.lost ∙ is.lost;
  repeated = only.repeated ∙ is.repeated;
}
  where
    run_is : happens game.setup play.world m ≡ after game.setup (play.moves ++ m ∷ [])
    run_is = ap (λ w. happens game.setup w m) is.run_is ∙ sym (after-more game.setup play.moves m)

    accepted : AreAcceptedIn game.setup.session (packets_of new.world.pool.items)
    accepted =
        subst (λ packets. AreAcceptedIn game.setup.session packets) (sym world.packets)
        (all-accepted game.setup _ (law game.setup (play.moves ++ m ∷ []) world.setup_is))

    start : from ≡ length play.world.packets
    start =
        at
        ∙ sym (length-map old.world.pool.items packet_of)
        ∙ ap length (is.world.packets ∙ ap (λ (w : World). w.packets) (sym is.run_is))

-- the outcome if the call succeeds
pub moved-ok : SentIsAccepted → (m : plain.Move) (old new : Network) (from : ℕ) (pool : List Packet) (r : Result (Unit {0}) AllocError)
    → ((setup : Setup) (moves : List plain.Move) → StandsFor setup moves old.world → StandsFor setup (moves ++ m ∷ []) new.world)
    → from ≡ length old.world.pool.items → pool ≡ new.world.pool.items → OnOk r (Queued old new from pool) → IsOnlyMoved old new
    → OnOk r (Plays (λ game play. moved game play m) old new)
moved-ok law m old new from pool (Ok u) world at same queued only = λ game play is.
    moved-playing law game play m old new from is (world game.setup play.moves is.world) at
    (subst (λ p. Queued old new from p) same queued)
    only
moved-ok law m old new from pool (Err e) world at same queued only = tt

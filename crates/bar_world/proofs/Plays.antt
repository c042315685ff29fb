-- A play is a run of its world in which every hostile move is a lie of one party.
use Rattle.bar_wire.specs.Bodies.{evidence_in}
use Rattle.bar_wire.specs.Datagram.{Datagram, Body, Key}
use Rattle.bar_rules.specs.Member.{Session, Member}
use Rattle.bar_rules.specs.Values.{datagram_of}
use Rattle.bar_rules.specs.World.World.{Setup, World, Move, TickOf, Deliver, Hostile, member, initial, happens, run}
use Rattle.bar_rules.specs.World.World.{AllGenuine, AreUnforged}
use Rattle.bar_world.specs.Network.{Game, Play, lie_of, other_key, lie_by, lie_in, delivery_by, delivery, deliveries, moved, begun}
use Rattle.bar_world.specs.Network.{decided, lost_one, delivered_once, delivered_twice, drew, served_by, served, drained}
use Rattle.bar_world.specs.Network.{ticked, tick_played, played_on}
use Rattle.bar_world.proofs.KeyReads.{key-reads}
use Rattle.bar_laws.proofs.Worlds.{run-on}
use Rattle.std.proofs.Common.{◌≡◌, ℕ, zero, suc, Bool, true, false, List, [], ◌∷◌, ◌++◌, ◌+◌, ◌%◌, ◌^◌, ◌<◌, eqb, cond}
use Rattle.std.proofs.Common.{refl, sym, ap, ◌∙◌, subst}
use Rattle.std.proofs.lemmas.Bool.{eqb-true, both_ways}
use Rattle.std.specs.List.{AllByRecursion}
use Rattle.std.specs.Prelude.{Option, Some, None}

-- If the bytes of a hostile move decode, the datagram names the liar as its sender and contains no evidence.
abbrev pub IsLie : Session → ℕ → Move → Type 0
IsLie s liar (Hostile to bytes) =
    (d : Datagram) → datagram_of s bytes ≡ Some d → (d.message.from ≡ liar) × (evidence_in d.message.body ≡ [])
IsLie s liar (TickOf party) = Unit {0}
IsLie s liar (Deliver number) = Unit {0}

abbrev pub AreLies : Session → ℕ → List Move → Type 0
AreLies s liar moves = AllByRecursion (IsLie s liar) moves

lies-append : (s : Session) (liar : ℕ) (xs ys : List Move) → AreLies s liar xs → AreLies s liar ys → AreLies s liar (xs ++ ys)
lies-append s liar [] ys a b = b
lies-append s liar (x ∷ xs) ys a b = (a.0, lies-append s liar xs ys a.1 b)

-- ---- each queued delivery is true or a lie

lie-is : (me : Member) (b : Bool) (number to : ℕ) (d : Datagram) (body : Body) → me.party < 2 ^ 16 → eqb d.message.from me.party ≡ b
    → IsLie me.session me.party (delivery_by number to (lie_by b me d body))
lie-is me true number to d (Key k) small e = λ r reads.
    let from : d.message.from ≡ me.party = eqb-true _ _ e in
    let low : d.message.from < 2 ^ 16 = subst (λ z. z < 2 ^ 16) (sym from) small in
    let lie = lie_of me d k in
    let h = key-reads me.session.shape d.message.from d.message.to (record k { key = other_key k.key }) lie.signature r low reads in
    (h.0 ∙ from, h.1)
lie-is me true number to d _ small e = tt
lie-is me false number to d body small e = tt

delivery-is : (game : Game) (number : ℕ) (packet : ℕ × List ℕ) → game.liar < 2 ^ 16
    → IsLie game.setup.session game.liar (delivery game number packet)
delivery-is game number packet small = go (datagram_of game.setup.session packet.1)
  where
    go : (o : Option Datagram) → IsLie game.setup.session game.liar (delivery_by number packet.0 (lie_in (member game.setup game.liar) o))
    go None = tt
    go (Some d) = lie-is (member game.setup game.liar) _ number packet.0 d d.message.body small refl

deliveries-are : (game : Game) (number : ℕ) (packets : List (ℕ × List ℕ)) → game.liar < 2 ^ 16
    → AreLies game.setup.session game.liar (deliveries game number packets)
deliveries-are game number [] small = tt
deliveries-are game number (packet ∷ packets) small =
    (delivery-is game number packet small, deliveries-are game (number + 1) packets small)

-- ---- the play

pub record IsRun (game : Game) (play : Play) : Type 0 where
  pub world : play.world ≡ run game.setup (initial game.setup) play.moves
  pub moves : AreLies game.setup.session game.liar play.moves
  pub queue : AreLies game.setup.session game.liar play.queue

module _ (game : Game) (small : game.liar < 2 ^ 16) where
  moved-runs : (play : Play) (m : Move) → IsLie game.setup.session game.liar m → IsRun game play → IsRun game (moved game play m)
  unfolding moved
  moved-runs play m lie is = record {
    world = ap (λ w. happens game.setup w m) is.world ∙ sym (run-on game.setup (initial game.setup) play.moves (m ∷ []));
    moves = lies-append game.setup.session game.liar play.moves (m ∷ []) is.moves (lie, tt);
    queue = lies-append game.setup.session game.liar play.queue _ is.queue (deliveries-are game _ _ small);
  }

  decided-runs : (play : Play) (m : Move) (number : ℕ) → IsLie game.setup.session game.liar m → IsRun game play
      → IsRun game (decided game play m number)
  decided-runs play m number lie is = go (eqb (number % 10) 0) (eqb (number % 10) 1)
    where
      go : (b c : Bool) → IsRun game (cond b (lost_one play) (cond c (delivered_twice game play m) (delivered_once game play m)))
      go true c = record { world = is.world; moves = is.moves; queue = is.queue }
      go false true = moved-runs _ m lie (moved-runs _ m lie (record { world = is.world; moves = is.moves; queue = is.queue }))
      go false false = moved-runs _ m lie (record { world = is.world; moves = is.moves; queue = is.queue })

  served-runs : (play : Play) (queue : List Move) → AreLies game.setup.session game.liar queue → IsRun game play
      → IsRun game (served_by game play queue)
  served-runs play [] lies is = is
  served-runs play (m ∷ queue) lies is =
      let queued : IsRun game (drew play queue) = record { world = is.world; moves = is.moves; queue = lies.1 } in
      decided-runs (drew play queue) m (game.drawn play.draws) lies.0 queued

  drained-runs : (n : ℕ) (play : Play) → IsRun game play → IsRun game (drained game n play)
  unfolding drained
  drained-runs zero play is = is
  drained-runs (suc n) play is = drained-runs n (served game play) (served-runs play play.queue is.queue is)

  ticked-runs : (parties : List ℕ) (play : Play) → IsRun game play → IsRun game (ticked game parties play)
  unfolding ticked
  ticked-runs [] play is = is
  ticked-runs (p ∷ ps) play is = ticked-runs ps (moved game play (TickOf p)) (moved-runs play (TickOf p) tt is)

  pub played-runs : (most n : ℕ) (play : Play) → IsRun game play → IsRun game (played_on game most n play)
  unfolding played_on
  played-runs most zero play is = is
  played-runs most (suc n) play is =
      played-runs most n (tick_played game most play) (drained-runs most _ (ticked-runs _ play is))

  pub begun-runs : IsRun game (begun game)
  begun-runs = record { world = refl; moves = tt; queue = tt }

-- ---- so nothing of other parties is forged

pub lies-unforged : (setup : Setup) (trusted : ℕ → Bool) (liar : ℕ) (w : World) (moves : List Move) → trusted liar ≡ false
    → AreLies setup.session liar moves → AreUnforged setup trusted w moves
lies-unforged setup trusted liar w [] not a = tt
lies-unforged setup trusted liar w (TickOf p ∷ ms) not a = lies-unforged setup trusted liar (happens setup w (TickOf p)) ms not a.1
lies-unforged setup trusted liar w (Deliver k ∷ ms) not a = lies-unforged setup trusted liar (happens setup w (Deliver k)) ms not a.1
lies-unforged setup trusted liar w (Hostile to b ∷ ms) not a = (
  (
    λ d log reads sign trust. absurd (both_ways _ (ap trusted (a.0 d reads).0 ∙ not) trust),
    λ d reads. subst (λ z. AllGenuine setup trusted w z) (sym (a.0 d reads).1) tt,
  ),
  lies-unforged setup trusted liar (happens setup w (Hostile to b)) ms not a.1,
)

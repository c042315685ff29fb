-- How a network represents a play.
use Rattle.std.specs.Prelude.{◌≡◌, ℕ, ◌+◌, ◌<◌, ◌^◌, List, map}
use Rattle.std.specs.List.{AllByRecursion}
use Rattle.rand_chacha.specs.ChaCha.{word_at}
use Rattle.bar_rules.specs.Member.{Session}
use Rattle.bar_rules.specs.World.World.{member}
use Rattle.bar_rules.specs.World.World as plain
use Rattle.bar_laws.specs.Parties.{after}
use Rattle.bar_world.specs.declared.moves.Move.{Move}
use Rattle.bar_world.specs.declared.network.Network.{Network}
use Rattle.bar_world.specs.Code.Kept.{StandsFor}
use Rattle.bar_world.specs.Lies.{IsLiar, IsAcceptedIn}
use Rattle.bar_world.specs.Code.Moves.{plain_move}
use Rattle.bar_world.specs.Network.{Game, Play}

abbrev pub queue_of : List Move → List plain.Move
queue_of queue = map plain_move queue

abbrev pub AreAcceptedIn : Session → List (ℕ × List ℕ) → Type 0
AreAcceptedIn s packets = AllByRecursion (λ (packet : ℕ × List ℕ). IsAcceptedIn s packet.1) packets

-- The network represents the play: its world stands for the play's moves, and its next words are the numbers that the game draws next.
pub record IsPlaying (game : Game) (play : Play) (net : Network) : Type 0 where
  pub liar_is : IsLiar (member game.setup game.liar) net.liar
  pub world : StandsFor game.setup play.moves net.world
  pub run_is : play.world ≡ after game.setup play.moves
  pub queue : queue_of net.queue.items ≡ play.queue
  pub drawn : (k : ℕ) → game.drawn (play.draws + k) ≡ word_at 10 net.words.key net.words.stream (net.words.word_pos + k)
  pub delivered : net.delivered ≡ play.delivered
  pub lost : net.lost ≡ play.lost
  pub repeated : net.repeated ≡ play.repeated

-- if the old network represents a play, the new one represents the next play
abbrev pub Plays : (Game → Play → Play) → Network → Network → Type 0
Plays next old new = (game : Game) (play : Play) → IsPlaying game play old → IsPlaying game (next game play) new

-- `n` more numbers may be drawn
abbrev pub HasWords : ℕ → Network → Type 0
HasWords n net = net.words.word_pos + n < 2 ^ 68

-- `n` more deliveries may be counted.
pub record HasCounts (n : ℕ) (net : Network) : Type 0 where
  pub delivered : net.delivered + n < 2 ^ 64
  pub lost : net.lost + n < 2 ^ 64
  pub repeated : net.repeated + n < 2 ^ 64

-- Nothing was drawn or counted.
pub record SameCounts (old new : Network) : Type 0 where
  pub words : new.words ≡ old.words
  pub delivered : new.delivered ≡ old.delivered
  pub lost : new.lost ≡ old.lost
  pub repeated : new.repeated ≡ old.repeated

use Rattle.std.proofs.Common.{ℕ, ◌+◌, ◌*◌}
use Rattle.bar_world.specs.Network.{Game, Play, played_on}
use Rattle.bar_world.specs.Code.Kept.{IsReady}
use Rattle.bar_world.specs.Code.Playing.{IsPlaying, HasWords, HasCounts}
use Rattle.bar_world.proofs.network.Network.play.Given as goal

-- `tick` ticks are over
abbrev pub invariant-loop-tick : goal.invariant-loop-tick
invariant-loop-tick l = record {
  ready : IsReady l.self.world;
  plays :
      (game : Game) (play : Play) → IsPlaying game play l.fn.self
      → IsPlaying game (played_on game 4096 l.tick play) l.self;
  words : (n : ℕ) → HasWords (n + 4096 * l.tick) l.fn.self → HasWords n l.self;
  room : (n : ℕ) → HasCounts (n + 4096 * l.tick) l.fn.self → HasCounts n l.self;
}

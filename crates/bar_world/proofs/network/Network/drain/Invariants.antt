use Rattle.std.proofs.Common.{ℕ, ◌+◌}
use Rattle.bar_world.specs.Network.{Game, Play, drained}
use Rattle.bar_world.specs.Code.Kept.{IsReady}
use Rattle.bar_world.specs.Code.Playing.{IsPlaying, HasWords, HasCounts}
use Rattle.bar_world.proofs.network.Network.drain.Given as goal

-- `turn` entries are served
abbrev pub invariant-loop-turn : goal.invariant-loop-turn
invariant-loop-turn l = record {
  ready : IsReady l.self.world;
  plays :
      (game : Game) (play : Play) → IsPlaying game play l.fn.self
      → IsPlaying game (drained game l.turn play) l.self;
  words : (n : ℕ) → HasWords (n + l.turn) l.fn.self → HasWords n l.self;
  room : (n : ℕ) → HasCounts (n + l.turn) l.fn.self → HasCounts n l.self;
}

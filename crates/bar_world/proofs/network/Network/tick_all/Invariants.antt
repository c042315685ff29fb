use Rattle.std.specs.List.{range_with_len}
use Rattle.bar_world.specs.Network.{Game, Play, ticked}
use Rattle.bar_world.specs.Code.Kept.{IsReady}
use Rattle.bar_world.specs.Code.Playing.{IsPlaying, SameCounts}
use Rattle.bar_world.proofs.network.Network.tick_all.Given as goal

-- the parties before the current one have ticked
abbrev pub invariant-loop-party : goal.invariant-loop-party
invariant-loop-party l = record {
  ready : IsReady l.self.world;
  plays :
      (game : Game) (play : Play) → IsPlaying game play l.fn.self
      → IsPlaying game (ticked game (range_with_len 0 l.party) play) l.self;
  counts : SameCounts l.fn.self l.self;
}

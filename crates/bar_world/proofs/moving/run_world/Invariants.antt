use Rattle.std.proofs.Common.{◌++◌, List, map, take}
use Rattle.bar_rules.specs.World.World.{Setup, Move}
use Rattle.bar_world.specs.Code.Kept.{IsReady, StandsFor}
use Rattle.bar_world.specs.Code.Moves.{plain_move}
use Rattle.bar_world.proofs.moving.run_world.Given as goal

-- the moves before the current one happened
abbrev pub invariant-loop-step : goal.invariant-loop-step
invariant-loop-step l = record {
  ready : IsReady l.world;
  stands :
      (setup : Setup) (before : List Move) → StandsFor setup before l.fn.world
      → StandsFor setup (before ++ map plain_move (take l.step-index l.moves)) l.world;
}

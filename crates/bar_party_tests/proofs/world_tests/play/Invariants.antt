use Rattle.bar_world.specs.Code.Kept.{IsReady}
use Rattle.bar_party_tests.proofs.world_tests.play.Given as goal

abbrev pub invariant-loop : goal.invariant-loop
invariant-loop l = IsReady l.world

use Rattle.bar_session.specs.Points.{AreSeeds}
use Rattle.bar_base_tests.proofs.seeds_tests.check_seeds.Given as goal

abbrev pub invariant-loop-round : goal.invariant-loop-round
invariant-loop-round g l = AreSeeds l.session l.points

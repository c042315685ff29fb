use Rattle.std.proofs.Common.{ap}
use Rattle.bar_world.specs.Keys.{held_in}
use Rattle.bar_world.proofs.Begins.{are-parties, session-by-is}
use Rattle.bar_world.proofs.sim_session.sim_session.Goals as goal

pub session-requires-clause-parties : goal.session-requires-clause-parties
session-requires-clause-parties c =
    are-parties c.args.seed _ (held_in c.args.keys.now)
    (session-by-is c.args.seed c.shape.result (held_in c.args.keys.now) c.shape.ensures (ap held_in c.requires)) (ap held_in c.requires)

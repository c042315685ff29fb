use Rattle.std.proofs.Common.{◌≡◌, ◌+◌, rules}
use Rattle.bar_seeds.specs.Code.Checkpoints.{parties_in}
use Rattle.bar_roster.proofs.PointLemmas.{no_seeds}
use Rattle.bar_roster.proofs.session.Session.checkpoints.Goals as goal

pub returns-clause-seeds : goal.returns-clause-seeds
returns-clause-seeds c =
    let room : parties_in c.in_ok-points.points ≡ c.args.self.now.shape.peers + 1 = search rules in
    no_seeds c.args.self.now c.in_ok-points.points room c.in_ok-points.ensures.empty

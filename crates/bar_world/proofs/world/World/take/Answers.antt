use Rattle.std.proofs.Common.{◌<◌, length, arith}
use Rattle.bar_world.proofs.Idle.{nobody-took}
use Rattle.bar_world.proofs.world.World.take.Goals as goal

pub returns-in_default-2-clause-stands : goal.returns-in_default-2-clause-stands
returns-in_default-2-clause-stands c = λ setup moves m gives s.
    let far : length c.args.self.now.peers.items < c.args.party = omega arith in
    nobody-took setup moves m c.args.party _ _ far gives s

use Rattle.std.proofs.Common.{subst}
use Rattle.std.specs.Prelude.{Contains}
use Rattle.bar_world.specs.Network.{begun}
use Rattle.bar_world.specs.Code.Playing.{IsPlaying}
use Rattle.bar_world.specs.Code.Shown.{IsEnd}
use Rattle.bar_world.specs.Sim.{game}
use Rattle.bar_world.proofs.SimEnds.{sim-is}
use Rattle.bar_world.proofs.simulation.simulate.Goals as goal

pub returns-clause-end : goal.returns-clause-end
returns-clause-end c =
    c.end.ensures c.args.seed
    (subst (λ z. IsPlaying (game c.args.seed) z c.play.new.self) (sim-is c.args.seed)
    (c.in_ok-play.ensures.plays (game c.args.seed) (begun (game c.args.seed)) c.in_ok-network.ensures.plays))

pub returns-clause-honest : goal.returns-clause-honest
returns-clause-honest c = λ peer low high there.
    let end : IsEnd c.args.seed c.end.result = returns-clause-end c in
    c.honest_peers_stay.ensures c.args.seed peer low high (subst (λ parties. Contains parties peer) end.evicted.all there)

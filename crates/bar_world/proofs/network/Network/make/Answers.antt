use Rattle.std.proofs.Common.{◌≡◌, length, refl, arith}
use Rattle.bar_world.specs.Code.Moves.{plain_move}
use Rattle.bar_world.proofs.Moved.{moved-ok}
use Rattle.bar_world.proofs.network.Network.make.Goals as goal

pub returns-clause-plays : goal.returns-clause-plays
returns-clause-plays c =
    let at : c.len-from.result ≡ length c.args.self.now.world.pool.items = omega arith in
    moved-ok c.sent_is_accepted.ensures.packets (plain_move c.args.step.now) c.args.self.now _ c.len-from.result c.deref.result.now _
    c.in_ok-happen.ensures.stands at c.deref.ensures.value c.enqueue.ensures
    (record { liar = refl; words = refl; delivered = refl; lost = refl; repeated = refl })

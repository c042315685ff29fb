use Rattle.std.proofs.Common.{◌≡◌, ◌<◌, ◌++◌, ◌∷◌, [], length, arith, rules}
use Rattle.bar_rules.specs.World.World.{member}
use Rattle.bar_world.proofs.Queues.{enqueued-one}
use Rattle.bar_world.proofs.network.enqueue.Goals as goal

pub loop-number-preserved : goal.loop-number-preserved
loop-number-preserved c = λ game is all.
    let low : c.loop-number.number < length c.args.pool.now = omega arith in
    let grown : c.push_back.new.self.items ≡ c.loop-number.queue.items ++ c.in_ok-entry.entry ∷ [] = search rules in
    enqueued-one game c.args.pool.now c.loop-number.number c.index-pool-number.result c.loop-number.queue.items
    c.push_back.new.self.items c.in_ok-entry.entry _ low c.index-pool-number.is grown
    (c.in_ok-entry.ensures (member game.setup game.liar) is) all (c.loop-number.invariant game is all)

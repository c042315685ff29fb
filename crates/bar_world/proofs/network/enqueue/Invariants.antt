use Rattle.std.proofs.Common.{◌≡◌, ◌++◌, drop}
use Rattle.bar_rules.specs.World.World.{member}
use Rattle.bar_world.specs.Lies.{IsLiar}
use Rattle.bar_world.specs.Network.{Game, deliveries}
use Rattle.bar_world.specs.Code.Packets.{packets_of}
use Rattle.bar_world.specs.Code.Playing.{AreAcceptedIn, queue_of}
use Rattle.bar_world.proofs.network.enqueue.Given as goal

-- the queue so far, followed by the deliveries that are left, is the old queue followed by all deliveries
abbrev pub invariant-loop-number : goal.invariant-loop-number
invariant-loop-number l =
    (game : Game) → IsLiar (member game.setup game.liar) l.liar → AreAcceptedIn game.setup.session (packets_of l.pool)
    → queue_of l.queue.items ++ deliveries game l.number (drop l.number (packets_of l.pool))
    ≡ queue_of l.fn.queue.items ++ deliveries game l.fn.from (drop l.fn.from (packets_of l.pool))

use Rattle.std.proofs.Common.{length, ap, arith}
use Rattle.bar_system.specs.History.{calls_of}
use Rattle.bar_outside.proofs.OpenLemmas.{below-call, started-below}
use Rattle.bar_system.proofs.spawner.RealSpawnerSpawner.wait.Goals as goal

pub invariant_of-self : goal.invariant_of-self
invariant_of-self g c =
    let old = c.args.self.now in
    let running = c.requires in
    let below = started-below (length old.children.items) (calls_of old.log.events) c.args.child old.below running.started in
    let calls = ap calls_of c.then-self.ensures in
    record {
      below = rw calls (rw c.wait.ensures (below-call (length old.children.items) (length old.children.items) (calls_of old.log.events)
          _ (omega arith) below old.below));
    }

pub invariant_of-self-in-Err : goal.invariant_of-self-in-Err
invariant_of-self-in-Err g c =
    let old = c.args.self.now in
    let running = c.requires in
    let below = started-below (length old.children.items) (calls_of old.log.events) c.args.child old.below running.started in
    let calls = ap calls_of c.then-self-in-Err.ensures in
    record {
      below = rw calls (rw c.wait.ensures (below-call (length old.children.items) (length old.children.items) (calls_of old.log.events)
          _ (omega arith) below old.below));
    }

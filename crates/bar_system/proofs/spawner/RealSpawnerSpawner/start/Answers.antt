use Rattle.std.proofs.Common.{rules, ◌≡◌, ◌+◌, ◌++◌, ◌∷◌, [], length, map, string_bytes, ap, arith}
use Rattle.bar_outside.specs.Code.Children.{Started}
use Rattle.bar_system.specs.History.{calls_of}
use Rattle.bar_outside.proofs.OpenLemmas.{below-call, below-more, next-new}
use Rattle.bar_system.proofs.spawner.RealSpawnerSpawner.start.Goals as goal

pub invariant_of-self-in-Ok : goal.invariant_of-self-in-Ok
invariant_of-self-in-Ok g c =
    let old = c.args.self.now in
    let calls : calls_of c.then-self.result.events ≡ calls_of old.log.events ++ Started (map string_bytes c.args.words.now) c.len-number.result ∷ [] =
    ap calls_of c.then-self.ensures in
    let number : c.len-number.result ≡ length old.children.items = search rules in
    let longer : length c.put.new.children.items ≡ length old.children.items + 1 = search rules in
    record {
      below = rw calls (rw longer (below-call (length old.children.items) (length old.children.items + 1) (calls_of old.log.events)
          (Started (map string_bytes c.args.words.now) c.len-number.result) (omega arith) (omega (arith, number)) old.below));
    }

pub invariant_of-self-in-Err-start : goal.invariant_of-self-in-Err-start
invariant_of-self-in-Err-start g c =
    let old = c.args.self.now in
    let longer : length c.push.new.self.items ≡ length old.children.items + 1 = search rules in
    record { below = rw longer (below-more (length old.children.items) (length old.children.items + 1) (calls_of old.log.events) (omega arith) old.below) }

pub returns-in-Ok : goal.returns-in-Ok
returns-in-Ok g c =
    let old = c.args.self.now in
    let number : c.len-number.result ≡ length old.children.items = search rules in
    record {
      call = search rules;
      added = ap calls_of c.then-self.ensures;
      new_child = rw number (next-new (length old.children.items) (calls_of old.log.events) old.below);
      left = tt;
    }

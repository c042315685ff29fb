use Rattle.std.proofs.Common.{rules, ◌≡◌, ◌≤◌, ◌∙◌, vec_len, vec_capacity, ◌++◌, ◌∷◌, [], map, ap, arith, None}
use Rattle.std.proofs.lemmas.List.{map-append}
use Rattle.bar_outside.specs.Code.Children.{Waited}
use Rattle.bar_outside.specs.Code.MemCalls.{call_in}
use Rattle.bar_outside.specs.declared.mem_call.MemCall.TheVariants as raw
use Rattle.bar_outside.proofs.OpenLemmas.{below-call, open-waited, started-below}
use Rattle.bar_outside.proofs.mem_spawner.MemSpawnerSpawner.wait.Goals as goal

-- there is room for the call

pub returns-then-is_err-clause-waits : goal.returns-then-is_err-clause-waits
returns-then-is_err-clause-waits c =
    let old = c.args.self.now in
    let running = c.requires in
    let below = started-below old.started (map call_in old.calls.items) c.args.child old.below running.started in
    let one = open-waited old.started (map call_in old.calls.items) c.args.child None below running.unwaited in
    let full : vec_capacity old.calls ≤ vec_len old.calls = search rules in
    absurd (omega (arith, one, old.room, full))

pub returns-then-is_err-clause-listed : goal.returns-then-is_err-clause-listed
returns-then-is_err-clause-listed c =
    let old = c.args.self.now in
    let running = c.requires in
    let below = started-below old.started (map call_in old.calls.items) c.args.child old.below running.started in
    let one = open-waited old.started (map call_in old.calls.items) c.args.child None below running.unwaited in
    let full : vec_capacity old.calls ≤ vec_len old.calls = search rules in
    absurd (omega (arith, one, old.room, full))

pub invariant_of-self-then-fails-2 : goal.invariant_of-self-then-fails-2
invariant_of-self-then-fails-2 c =
    let old = c.args.self.now in
    let running = c.requires in
    let below = started-below old.started (map call_in old.calls.items) c.args.child old.below running.started in
    let grown : c.push.new.self.items ≡ old.calls.items ++ raw.Waited c.args.child c.if-fails.status ∷ [] = search rules in
    let calls = ap (map call_in) grown ∙ map-append call_in old.calls.items (raw.Waited c.args.child c.if-fails.status ∷ []) in
    let one = open-waited old.started (map call_in old.calls.items) c.args.child c.if-fails.status below running.unwaited in
    record {
      below = rw calls (below-call old.started old.started (map call_in old.calls.items) (Waited c.args.child c.if-fails.status)
          (omega arith) below old.below);
      room = rw calls (omega (arith, one, old.room));
      few = omega (arith, old.few);
    }

pub invariant_of-self-else-fails-2 : goal.invariant_of-self-else-fails-2
invariant_of-self-else-fails-2 c =
    let old = c.args.self.now in
    let running = c.requires in
    let below = started-below old.started (map call_in old.calls.items) c.args.child old.below running.started in
    let grown : c.push.new.self.items ≡ old.calls.items ++ raw.Waited c.args.child c.if-fails.status ∷ [] = search rules in
    let calls = ap (map call_in) grown ∙ map-append call_in old.calls.items (raw.Waited c.args.child c.if-fails.status ∷ []) in
    let one = open-waited old.started (map call_in old.calls.items) c.args.child c.if-fails.status below running.unwaited in
    record {
      below = rw calls (below-call old.started old.started (map call_in old.calls.items) (Waited c.args.child c.if-fails.status)
          (omega arith) below old.below);
      room = rw calls (omega (arith, one, old.room));
      few = omega (arith, old.few);
    }

use Rattle.std.proofs.Common.{rules, ◌≡◌, ◌≤◌, ◌∙◌, ◌+◌, vec_len, vec_capacity, ◌++◌, ◌∷◌, [], map, string_bytes, ap, arith}
use Rattle.std.proofs.lemmas.List.{map-append}
use Rattle.bar_outside.specs.Code.Children.{Started}
use Rattle.bar_outside.specs.Code.MemCalls.{call_in}
use Rattle.bar_outside.specs.declared.mem_call.MemCall.TheVariants as raw
use Rattle.bar_outside.proofs.OpenLemmas.{below-call, next-new, open-few}
use Rattle.bar_outside.proofs.mem_spawner.MemSpawnerSpawner.start.Goals as goal

pub invariant_of-self-2 : goal.invariant_of-self-2
invariant_of-self-2 c =
    let old = c.args.self.now in
    let grown : c.push.new.self.items ≡ old.calls.items ++ raw.Started c.in-Ok.words old.started ∷ [] = search rules in
    let calls : map call_in c.push.new.self.items ≡ map call_in old.calls.items ++ Started (map string_bytes c.in-Ok.words.items) old.started ∷ [] =
    ap (map call_in) grown ∙ map-append call_in old.calls.items (raw.Started c.in-Ok.words old.started ∷ []) in
    record {
      below = rw calls (below-call old.started (old.started + 1) (map call_in old.calls.items)
          (Started (map string_bytes c.in-Ok.words.items) old.started) (omega arith) (omega arith) old.below);
      room = let few = open-few (old.started + 1) (map call_in c.push.new.self.items) in
          let spare : vec_len c.reserve.new.self + (old.started + 2) ≤ vec_capacity c.reserve.new.self = search rules in
          let longer : vec_len c.push.new.self ≡ vec_len c.reserve.new.self + 1 = search rules in
          omega (arith, few, spare, longer, c.push.ensures.capacity);
      few = let longer : vec_len c.push.new.self ≡ vec_len c.reserve.new.self + 1 = search rules in
          omega (arith, old.few, longer, c.reserve.ensures.len);
    }

pub returns-clause-starts : goal.returns-clause-starts
returns-clause-starts c =
    let old = c.args.self.now in
    let grown : c.push.new.self.items ≡ old.calls.items ++ raw.Started c.in-Ok.words old.started ∷ [] = search rules in
    record {
      call = search rules;
      added = ap (map call_in) grown ∙ (map-append call_in old.calls.items (raw.Started c.in-Ok.words old.started ∷ [])
          ∙ ap (λ words. map call_in old.calls.items ++ Started words old.started ∷ []) c.in-Ok.ensures);
      new_child = next-new old.started (map call_in old.calls.items) old.below;
      left = tt;
    }

use Rattle.std.proofs.Common.{rules, ◌≡◌, ◌∙◌, ◌+◌, ◌∷◌, ◌++◌, [], map, length, length-append, sym, ap, arith}
use Rattle.std.proofs.lemmas.List.{length-map, map-append}
use Rattle.bar_child_processes.specs.declared.child.Child.{Child}
use Rattle.bar_child_processes.specs.Code.Views.{key_in, names_view}
use Rattle.bar_child_processes.specs.Words.{party_at}
use Rattle.bar_child_processes.proofs.Starting.{starting-more}
use Rattle.bar_child_processes.proofs.family.start_all.Goals as goal

pub loop-place-preserved : goal.loop-place-preserved
loop-place-preserved g c =
    let before = c.loop-place.children.items in
    let child : Child = record { party = c.party_at-party.result; number = c.in-Ok.number } in
    let grown : c.push.new.self.items ≡ before ++ child ∷ [] = search rules in
    let place : c.party_at-party.result ≡ party_at c.args.peers (length (map key_in before)) =
    c.party_at-party.ensures ∙ ap (party_at c.args.peers) (sym c.loop-place.invariant.counted ∙ sym (length-map before key_in)) in
    record {
      started = rw (grown, map-append key_in before (child ∷ []))
          (starting-more (names_view c.args.names.now) c.args.peers (map key_in before) (g.S.Spawner.children c.args.spawn.now)
          (g.S.Spawner.children c.loop-place.spawn) (g.S.Spawner.children c.start_child.new.spawn) child.party child.number
          c.loop-place.invariant.started c.in-Ok.ensures place);
      counted = ap length grown ∙ (length-append before (child ∷ []) ∙ ap (λ n. n + 1) c.loop-place.invariant.counted);
      room = omega (arith, c.push.ensures.capacity, c.loop-place.invariant.room);
    }

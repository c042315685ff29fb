use Rattle.std.proofs.Common.{◌≡◌, ◌∙◌, ◌<◌, ◌+◌, ◌∷◌, ◌++◌, [], ℕ, List, map, take, drop, length, get_or, ap, subst}
use Rattle.std.proofs.lemmas.List.{drop_more, map-append, take_more}
use Rattle.bar_child_processes.specs.declared.child.Child.{Child}
use Rattle.bar_child_processes.specs.Sessions.{AreRunning}
use Rattle.bar_child_processes.specs.Code.Views.{key_in, report_view}
use Rattle.bar_child_processes.proofs.MoreChildren.{reports-none, reports-append}
use Rattle.bar_child_processes.proofs.Running.{running-waited}
use Rattle.bar_child_processes.proofs.family.wait_for_all.Goals as goal

pub loop-child-init : goal.loop-child-init
loop-child-init g c = record {
  reported = reports-none (report_view c.args.report.now) (g.K.Sink.stream c.args.out.now) (g.S.Spawner.children c.args.spawn.now);
  running = c.requires;
}

-- the numbers of the children from an index on
numbers-at : (children : List Child) (i : ℕ) → i < length children →
    map (λ (c : Child). c.number) (drop i children)
    ≡ (get_or children i (record { party = 0; number = 0 })).number ∷ map (λ (c : Child). c.number) (drop (i + 1) children)
numbers-at children i h = ap (map (λ (c : Child). c.number)) (drop_more children i (record { party = 0; number = 0 }) h)

pub loop-child-preserved : goal.loop-child-preserved
loop-child-preserved g c =
    let children = c.args.children.now in
    let i = c.loop-child.child-index in
    let none : Child = record { party = 0; number = 0 } in
    let child : Child = get_or children i none in
    let old = g.S.Spawner.children c.loop-child.spawn in
    let keys : map key_in (take (i + 1) children) ≡ map key_in (take i children) ++ key_in child ∷ [] =
    ap (map key_in) (take_more children i none c.loop-child-test.true) ∙ map-append key_in (take i children) (child ∷ []) in
    let here = numbers-at children i c.loop-child-test.true in
    record {
      reported = rw keys (reports-append (map key_in (take i children)) (key_in child ∷ []) (report_view c.args.report.now)
          (report_view c.loop-child.report) (report_view c.wait_for.new.self)
          (g.K.Sink.stream c.args.out.now) (g.K.Sink.stream c.loop-child.out) (g.K.Sink.stream c.wait_for.new.out)
          (g.S.Spawner.children c.args.spawn.now) old (g.S.Spawner.children c.wait_for.new.spawn)
          c.loop-child.invariant.reported c.wait_for.ensures);
      running =
          let running = subst (AreRunning old.calls) here c.loop-child.invariant.running in
          rw c.wait_for.ensures.waits.calls
          (running-waited old.calls c.wait_for.ensures.family child.party child.number _ c.wait_for.ensures.are running);
    }

pub wait_for-requires : goal.wait_for-requires
wait_for-requires g c =
    let here = numbers-at c.args.children.now c.loop-child.child-index c.loop-child-test.true in
    (subst (AreRunning (g.S.Spawner.children c.loop-child.spawn).calls) here c.loop-child.invariant.running).0

use Rattle.std.proofs.Common.{map, take, drop}
use Rattle.bar_child_processes.specs.Sessions.{AreRunning, Reports}
use Rattle.bar_child_processes.specs.Code.Views.{key_in, report_view}
use Rattle.bar_child_processes.proofs.family.wait_for_all.Given as goal

-- the children so far were waited for, and the others are running
abbrev pub invariant-loop-child : goal.invariant-loop-child
invariant-loop-child g l = record {
  reported : Reports (map key_in (take l.child-index l.children)) (report_view l.initial.report) (report_view l.report)
      (g.K.Sink.stream l.initial.out) (g.K.Sink.stream l.out) (g.S.Spawner.children l.initial.spawn) (g.S.Spawner.children l.spawn);
  running : AreRunning (g.S.Spawner.children l.spawn).calls (map (λ c. c.number) (drop l.child-index l.children));
}

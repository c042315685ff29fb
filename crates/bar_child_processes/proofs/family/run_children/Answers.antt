use Rattle.std.proofs.Common.{ℕ, map, subst}
use Rattle.std.proofs.lemmas.Simd.{map-map}
use Rattle.bar_child_processes.specs.Outcomes.{code_of}
use Rattle.bar_child_processes.specs.Sessions.{AreRunning}
use Rattle.bar_child_processes.specs.Code.Views.{key_in, names_view, report_view}
use Rattle.bar_child_processes.proofs.Whole.{session-ran}
use Rattle.bar_child_processes.proofs.family.run_children.Goals as goal

pub wait_for_all-requires : goal.wait_for_all-requires
wait_for_all-requires g c =
    let started = c.start_all-outcome in
    let numbers = map-map (λ (key : ℕ × ℕ). key.1) key_in started.new.children.items in
    rw c.deref.ensures.value
    (subst (AreRunning (g.S.Spawner.children started.new.spawn).calls) numbers started.ensures.running)

pub returns : goal.returns
returns g c =
    let started = c.start_all-outcome in
    session-ran (names_view c.args.names.now) c.args.peers (map key_in started.new.children.items) (code_of started.result)
    (report_view c.wait_for_all.new.report) (g.K.Sink.stream c.args.out.now) (g.K.Sink.stream c.wait_for_all.new.out)
    (g.S.Spawner.children c.args.spawn.now) (g.S.Spawner.children started.new.spawn) (g.S.Spawner.children c.wait_for_all.new.spawn)
    started.ensures (rw c.deref.ensures.value at c.wait_for_all.ensures)

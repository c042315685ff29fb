use Rattle.std.proofs.Common.{[], Ok}
use Rattle.bar_record.specs.Code.Inputs.{inputs_left}
use Rattle.bar_outside.specs.Disk.{Content}
use Rattle.bar_outside.specs.Plan.{Outside, with_files, with_out}
use Rattle.bar_outside.specs.Code.Follows.{Follows}
use Rattle.bar_node.specs.Code.Turns.{turns, replay_layout}
use Rattle.bar_node.proofs.Shown.{Shown}
use Rattle.bar_node.proofs.recorded.show_inputs.Given as goal

-- the inputs so far were taken and shown
abbrev pub invariant-loop-input : goal.invariant-loop-input
invariant-loop-input g l =
    (goal.iterator-loop-input g).can_next l.input-iterator
    × (goal.iterator-loop-input g).is_finite l.input-iterator
    × Shown (g.C.Core.stands l.core) (g.C.Core.face l.fn.core).rules (g.C.Core.face l.core) l.paced
    (inputs_left l.fn.items) (inputs_left l.input-iterator) l.counts
    (λ taken. (w : Outside) (was : Content) → Follows {T = Unit {0}} (turns (replay_layout l.played) (g.C.Core.face l.fn.core).rules [] taken)
    (with_out (with_files w (g.F.Files.disk l.fn.files was)) (g.K.Sink.stream l.fn.out))
    (with_out (with_files w (g.F.Files.disk l.files was)) (g.K.Sink.stream l.out)) (Ok tt))

use Rattle.std.proofs.Common.{◌+◌, ◌-◌, ◌*◌}
use Rattle.bar_outside.specs.Disk.{Content}
use Rattle.bar_node.specs.Code.Taking.{layout_of}
use Rattle.bar_node.specs.Code.Turns.{sent}
use Rattle.bar_node.proofs.RunSteps.{Arrived}
use Rattle.bar_node.proofs.arrivals.run_inputs.Given as goal

-- the arrivals so far, and what was done over them
abbrev pub invariant-arrivals : goal.invariant-arrivals
invariant-arrivals g l =
    (was : Content) → Arrived (layout_of l.fn.kept sent) (g.C.Core.stands l.core) (g.C.Core.face l.fn.core).rules (g.C.Core.face l.core) l.paced
    (g.F.Files.disk l.fn.files was) (g.F.Files.disk l.files was) (g.L.Link.wire l.fn.link) (g.L.Link.wire l.link) l.counts

abbrev pub decreases-arrivals : goal.decreases-arrivals
decreases-arrivals g l = ((g.C.Core.face l.core).rules.last - (g.C.Core.face l.core).ticks) * 65537 + (65536 - l.paced)

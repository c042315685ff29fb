use Rattle.std.proofs.Common.{Ok}
use Rattle.bar_bytes.specs.Code.Rooms.{kept_in}
use Rattle.bar_outside.specs.Disk.{Content}
use Rattle.bar_outside.specs.Plan.{Outside, with_files}
use Rattle.bar_outside.specs.Code.Follows.{Follows}
use Rattle.bar_findings.specs.Findings.{files_of, findings_actions}
use Rattle.bar_findings.proofs.evidence.write_evidence.Given as goal

-- the files of the parties so far were written
abbrev pub invariant-loop-before : goal.invariant-loop-before
invariant-loop-before g l =
    (w : Outside) (was : Content) → Follows {T = Unit {0}} (findings_actions (files_of l.found (kept_in l.evidence) l.before))
    (with_files w (g.F.Files.disk l.fn.files was)) (with_files w (g.F.Files.disk l.files was)) (Ok tt)

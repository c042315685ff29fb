use Rattle.bar_outside.specs.Disk.{Content}
use Rattle.bar_cli.specs.Code.Views.{audit_view}
use Rattle.bar_cli.proofs.AuditLemmas.{Gathered}
use Rattle.bar_cli.proofs.audit.recordings.read_recordings.Given as goal

-- the recordings so far were accepted and given
abbrev pub invariant-loop-place : goal.invariant-loop-place
invariant-loop-place g l =
    (was : Content) → Gathered (audit_view l.names) l.session l.place l.audit (g.F.Files.disk l.fn.files was) (g.F.Files.disk l.files was)

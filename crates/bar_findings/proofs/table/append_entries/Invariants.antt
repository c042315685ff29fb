use Rattle.std.proofs.Common.{Ok, map}
use Rattle.bar_bytes.specs.Code.Rooms.{kept_in}
use Rattle.bar_outside.specs.Disk.{Content}
use Rattle.bar_outside.specs.Plan.{Outside, with_files}
use Rattle.bar_outside.specs.Plan.Action.{append}
use Rattle.bar_outside.specs.Code.Follows.{Follows}
use Rattle.bar_wire.specs.Grammar.{entry as entry_bytes}
use Rattle.bar_findings.specs.Findings.{AreShort, in_order}
use Rattle.bar_findings.proofs.table.append_entries.Given as goal

-- the entries of the rounds so far were appended
abbrev pub invariant-loop-before : goal.invariant-loop-before
invariant-loop-before g l =
    (w : Outside) (was : Content) → AreShort (kept_in l.manifests) →
    Follows {T = Unit {0}} (map (append l.name) (map entry_bytes (in_order (kept_in l.manifests) l.before)))
    (with_files w (g.F.Files.disk l.fn.files was)) (with_files w (g.F.Files.disk l.files was)) (Ok tt)

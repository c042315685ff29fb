use Rattle.std.proofs.Common.{◌≡◌, List, string_bytes, take}
use Rattle.bar_rules.specs.Member.{Session}
use Rattle.bar_audit.specs.Audits.{Audits}
use Rattle.bar_audit.specs.Recordings.{Recording}
use Rattle.bar_cli.specs.Audit.Text.{lines_for}
use Rattle.bar_cli.proofs.audit.text.exchange_lines.Given as goal

-- the lines so far
abbrev pub invariant-loop-k : goal.invariant-loop-k
invariant-loop-k l =
    (s : Session) (recordings : List Recording) → Audits s recordings l.audit →
    string_bytes l.text ≡ lines_for s recordings (take l.k l.audit.recorded.items)

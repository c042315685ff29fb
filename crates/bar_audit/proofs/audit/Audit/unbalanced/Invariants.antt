use Rattle.std.proofs.Common.{◌≡◌, not}
use Rattle.std.specs.Prelude.{find, drop}
use Rattle.bar_rules.specs.Member.{Session}
use Rattle.bar_audit.specs.Code.Balance.{is_balanced_by}
use Rattle.bar_audit.specs.Code.Findings.{AreKeptWindows}
use Rattle.bar_audit.proofs.audit.Audit.unbalanced.Given as goal

-- the first that isn't balanced is the first of the remaining ones
abbrev pub invariant-loop-x : goal.invariant-loop-x
invariant-loop-x l =
    (s : Session) → AreKeptWindows s l.self.found.cases.entries
    → find (λ x. not (is_balanced_by l.self.found x)) l.x-items ≡ find (λ x. not (is_balanced_by l.self.found x)) (drop l.x-index l.x-items)

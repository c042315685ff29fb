use Rattle.std.proofs.Common.{◌≡◌, ◌∙◌, sym, subst, true, Some}
use Rattle.std.specs.Map.{lookup}
use Rattle.bar_window.specs.Exchange.{other_role}
use Rattle.bar_rules.proofs.EqualTerms.{terms-eq}
use Rattle.bar_audit.specs.Code.Findings.{has_side}
use Rattle.bar_audit.specs.Code.Sides.{is_side, side_at}
use Rattle.bar_audit.proofs.Balances.{looked-up, windows-of, both-paid}
use Rattle.bar_audit.proofs.findings.Findings.is_paid.Goals as goal

pub returns-in-Some-case : goal.returns-in-Some-case
returns-in-Some-case c = λ s windows.
    let theirs = looked-up c.case.result _ c.in-Some.theirs c.case.ensures c.in-Some.is in
    let ours = looked-up c.case-2.result _ c.in-Some-case.ours c.case-2.ensures c.in-Some-case.is in
    let role : c.other-other.result ≡ other_role c.args.role = c.other-other.ensures in
    let key : has_side c.args.self.now.keys.keys (side_at c.args.x c.args.role) ≡ true = sym c.has_key.ensures ∙ c.if-not-has_key.false in
    both-paid c.args.self.now c.args.x c.args.role c.in-Some-case.ours.now c.in-Some.theirs.now c.eq.result key ours
    (subst (λ r. lookup (is_side (side_at c.args.x r)) c.args.self.now.cases.entries ≡ Some c.in-Some.theirs.now) role theirs)
    (c.eq.ensures
    ∙ terms-eq s.shape c.args.x.round c.in-Some-case.ours.now.terms c.in-Some.theirs.now.terms
    (windows-of s c.args.self.now.cases.entries (side_at c.args.x c.args.role) c.in-Some-case.ours.now windows ours)
    (windows-of s c.args.self.now.cases.entries (side_at c.args.x c.other-other.result) c.in-Some.theirs.now windows theirs))

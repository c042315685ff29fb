use Rattle.std.proofs.Common.{◌∙◌, sym, ap, not}
use Rattle.std.specs.Prelude.{find}
use Rattle.bar_audit.specs.Code.Balance.{is_balanced_by}
use Rattle.bar_audit.proofs.Lists.{find-past, find-here, find-none}
use Rattle.bar_audit.proofs.Told.{unbalanced-is}
use Rattle.bar_audit.proofs.audit.Audit.unbalanced.Goals as goal

pub returns-then-not-is_balanced-clause-first : goal.returns-then-not-is_balanced-clause-first
returns-then-not-is_balanced-clause-first c = λ s recordings at.
    sym (c.loop-x.invariant s at.windows
    ∙ find-here (λ x. not (is_balanced_by c.args.self.now.found x)) c.deref-x-items.result.now c.loop-x.x-index _ c.loop-x-test.true
    (ap not (sym (c.is_balanced.ensures s at.windows) ∙ c.if-not-is_balanced.true)))
    ∙ (ap (find (λ x. not (is_balanced_by c.args.self.now.found x))) c.deref-x-items.ensures.value ∙ unbalanced-is s recordings c.args.self.now at)

pub returns-then-not-is_balanced-clause-of_runs : goal.returns-then-not-is_balanced-clause-of_runs
returns-then-not-is_balanced-clause-of_runs c = λ s secrets recordings at runs.
    returns-then-not-is_balanced-clause-first c s recordings at
    ∙ c.runs_are_balanced.ensures s secrets recordings c.args.self.now.recorded.items at.recorded runs

pub loop-x-preserved : goal.loop-x-preserved
loop-x-preserved c = λ s windows.
    c.loop-x.invariant s windows
    ∙ find-past (λ x. not (is_balanced_by c.args.self.now.found x)) c.deref-x-items.result.now c.loop-x.x-index _ c.loop-x-test.true
    (ap not (sym (c.is_balanced.ensures s windows) ∙ c.if-not-is_balanced.false))

pub returns-clause-first : goal.returns-clause-first
returns-clause-first c = λ s recordings at.
    sym (c.loop-x.invariant s at.windows
    ∙ find-none (λ x. not (is_balanced_by c.args.self.now.found x)) c.deref-x-items.result.now c.loop-x.x-index c.loop-x-test.false)
    ∙ (ap (find (λ x. not (is_balanced_by c.args.self.now.found x))) c.deref-x-items.ensures.value ∙ unbalanced-is s recordings c.args.self.now at)

pub returns-clause-paid : goal.returns-clause-paid
returns-clause-paid c = λ s recordings x role at none recorded key.
    c.keys_are_paid.ensures s recordings c.args.self.now.recorded.items x role at.recorded (sym (returns-clause-first c s recordings at))
    ((at.recorded.exactly x).1 recorded) key

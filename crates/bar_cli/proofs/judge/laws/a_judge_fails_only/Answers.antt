use Rattle.std.proofs.Common.{refl}
use Rattle.bar_outside.proofs.StageRows.{named-within}
use Rattle.bar_cli.specs.Judge.Plan.{IsJudgeCall, judge_stages}
use Rattle.bar_cli.proofs.JudgeRows.{judge-order, within}
use Rattle.bar_cli.proofs.judge.laws.a_judge_fails_only.Goals as goal

pub returns-clause-named : goal.returns-clause-named
returns-clause-named c = λ names old new ends told.
    named-within (IsJudgeCall names) (judge_stages names) new.files.failed (within names)
    ((c.stages_go_in_order.ensures.goes (judge_stages names) old new 3 ends told).named refl)

pub returns-clause-in_order : goal.returns-clause-in_order
returns-clause-in_order c = λ names old new ends told.
    let a = (judge-order names old new 7 told (c.stages_go_in_order.ensures.goes (judge_stages names) old new 7 ends told)).at_output refl in
    record { accepted = a.0; printed = a.1.front }

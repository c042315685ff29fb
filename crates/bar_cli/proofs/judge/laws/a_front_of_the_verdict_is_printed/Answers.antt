use Rattle.std.proofs.Common.{inl, inr}
use Rattle.bar_cli.specs.Judge.Plan.{judge_stages}
use Rattle.bar_cli.proofs.JudgeRows.{judge-order}
use Rattle.bar_cli.proofs.judge.laws.a_front_of_the_verdict_is_printed.Goals as goal

pub returns : goal.returns
returns c = λ names old new status ends told.
    elim (judge-order names old new status told (c.stages_go_in_order.ensures.goes (judge_stages names) old new status ends told)).front
    [ inl none ↦ inl none | inr a ↦ inr (record { accepted = a.0; printed = a.1.front }) ]

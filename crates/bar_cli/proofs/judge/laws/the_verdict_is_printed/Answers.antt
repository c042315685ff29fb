use Rattle.std.proofs.Common.{inl, inr, refl}
use Rattle.bar_cli.specs.Judge.Plan.{Judged, judge_stages}
use Rattle.bar_cli.proofs.JudgeRows.{judged, not_shown-so, shown-so}
use Rattle.bar_cli.proofs.judge.laws.the_verdict_is_printed.Goals as goal

pub returns-clause-shown : goal.returns-clause-shown
returns-clause-shown c = λ names old new ends told.
    shown-so (λ v. Judged names v old new)
    (judged names old new 0 told (c.stages_go_in_order.ensures.goes (judge_stages names) old new 0 ends told) (inl refl))

pub returns-clause-not_shown : goal.returns-clause-not_shown
returns-clause-not_shown c = λ names old new ends told.
    not_shown-so (λ v. Judged names v old new)
    (judged names old new 1 told (c.stages_go_in_order.ensures.goes (judge_stages names) old new 1 ends told) (inr refl))

use Rattle.std.proofs.Common.{refl}
use Rattle.bar_cli.specs.Judge.Plan.{judge_stages}
use Rattle.bar_cli.proofs.JudgeRows.{judge-order}
use Rattle.bar_cli.proofs.judge.laws.a_bad_table_or_evidence_is_refused.Goals as goal

pub returns-clause-only : goal.returns-clause-only
returns-clause-only c = λ names old new ends told.
    ((judge-order names old new 8 told (c.stages_go_in_order.ensures.goes (judge_stages names) old new 8 ends told)).refused refl refl refl).1

use Rattle.std.proofs.Common.{refl}
use Rattle.bar_cli.specs.Judge.Plan.{judge_stages}
use Rattle.bar_cli.proofs.JudgeRows.{judge-order}
use Rattle.bar_cli.proofs.judge.laws.a_judge_changes_nothing.Goals as goal

pub returns : goal.returns
returns c =
    let goes = c.stages_go_in_order.ensures.goes in
    record {
      files = λ names old new status ends told. (judge-order names old new status told (goes (judge_stages names) old new status ends told)).files;
      session = λ names old new ends told.
          ((judge-order names old new 4 told (goes (judge_stages names) old new 4 ends told)).refused refl refl refl).0.out;
      input = λ names old new ends told.
          ((judge-order names old new 8 told (goes (judge_stages names) old new 8 ends told)).refused refl refl refl).0.out;
    }

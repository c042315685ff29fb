use Rattle.std.proofs.Common.{rules}
use Rattle.bar_outside.proofs.Unlinked.{done-unlinked}
use Rattle.bar_cli.specs.Judge.Plan.{judge_plan}
use Rattle.bar_cli.proofs.JudgeRows.{unlinked-plan}
use Rattle.bar_cli.proofs.judge.laws.the_verdict_is_printed_where_all_is_accepted.Goals as goal

pub returns-clause-without_faults : goal.returns-clause-without_faults
returns-clause-without_faults c = λ names old new status ends told accepted no_file no_output.
    let done = done-unlinked (judge_plan names) old new status ends told (unlinked-plan names old.files.content) no_file no_output in
    search rules

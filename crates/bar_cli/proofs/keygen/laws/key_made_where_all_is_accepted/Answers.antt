use Rattle.std.proofs.Common.{rules}
use Rattle.bar_outside.proofs.Unlinked.{done-unlinked}
use Rattle.bar_cli.specs.Keygen.Plan.{keygen_plan}
use Rattle.bar_cli.proofs.KeygenRows.{unlinked-plan}
use Rattle.bar_cli.proofs.keygen.laws.key_made_where_all_is_accepted.Goals as goal

pub returns-clause-without_faults : goal.returns-clause-without_faults
returns-clause-without_faults c = λ asked old new status ends told accepted no_file no_output.
    let done = done-unlinked (keygen_plan asked) old new status ends told (unlinked-plan asked old.files.content) no_file no_output in
    search rules

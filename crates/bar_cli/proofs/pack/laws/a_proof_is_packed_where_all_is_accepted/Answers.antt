use Rattle.std.proofs.Common.{rules}
use Rattle.bar_outside.proofs.Unlinked.{done-unlinked}
use Rattle.bar_cli.specs.Pack.{pack_plan}
use Rattle.bar_cli.proofs.PackRows.{unlinked-plan}
use Rattle.bar_cli.proofs.pack.laws.a_proof_is_packed_where_all_is_accepted.Goals as goal

pub returns-clause-without_faults : goal.returns-clause-without_faults
returns-clause-without_faults c = λ names old new status ends told accepted no_file no_output.
    let done = done-unlinked (pack_plan names) old new status ends told (unlinked-plan names old.files.content) no_file no_output in
    search rules

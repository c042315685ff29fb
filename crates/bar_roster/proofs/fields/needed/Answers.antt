use Rattle.std.proofs.Common.{sym, refl}
use Rattle.toml.proofs.Views.{table_get}
use Rattle.bar_roster.proofs.fields.needed.Goals as goal

pub returns-in-Some-clause-there : goal.returns-in-Some-clause-there
returns-in-Some-clause-there c =
    let found = table_get c.get.result c.args.name.now c.args.table.now.entries c.get.ensures.value in
    sym (rw c.in-Some.is at found)

pub returns-in-None-clause-missing : goal.returns-in-None-clause-missing
returns-in-None-clause-missing c =
    let found = table_get c.get.result c.args.name.now c.args.table.now.entries c.get.ensures.value in
    (sym (rw c.in-None.is at found), refl)

use Rattle.std.proofs.Common.{refl}
use Rattle.std.proofs.lemmas.Result.{IfOk-weaker}
use Rattle.bar_terms.specs.Table.{digests_of}
use Rattle.bar_judge.specs.TableFile.{table_of}
use Rattle.bar_cli.proofs.EvidenceLemmas.{has-lists}
use Rattle.bar_cli.proofs.judge.judging.read_lists.Goals as goal

pub returns-clause-ok : goal.returns-clause-ok
returns-clause-ok c =
    let s = c.args.session.now in
    let bytes = c.args.bytes.now in
    IfOk-weaker c.read_counted.result _ _
    (λ table. has-lists s bytes (digests_of table.lists) (table_of s bytes) refl) c.read_counted.ensures.ok

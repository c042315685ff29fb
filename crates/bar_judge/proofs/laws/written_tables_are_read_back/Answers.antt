use Rattle.std.proofs.Common.{◌<◌, suc, length, arith}
use Rattle.bar_judge.specs.TableFile.{table_bytes}
use Rattle.bar_judge.proofs.TableWriting.{all_fit, read_back, entries_many}
use Rattle.bar_judge.proofs.laws.written_tables_are_read_back.Goals as goal

pub returns-clause-session : goal.returns-clause-session
returns-clause-session c s manifests lists session are =
    let few : length manifests < suc (length (table_bytes manifests)) = omega (arith, entries_many manifests) in
    read_back s manifests lists (suc (length (table_bytes manifests))) 0 0 few are
    (all_fit s manifests lists 0 (λ last manifest entry. c.manifests_fit_their_entries.ensures s last manifest entry session) are)

pub returns-clause-any : goal.returns-clause-any
returns-clause-any c s manifests lists are fit =
    let few : length manifests < suc (length (table_bytes manifests)) = omega (arith, entries_many manifests) in
    read_back s manifests lists (suc (length (table_bytes manifests))) 0 0 few are fit

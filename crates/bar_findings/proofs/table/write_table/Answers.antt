use Rattle.std.proofs.Common.{◌∙◌, map}
use Rattle.std.proofs.lemmas.Result.{err_from_is_err_and}
use Rattle.bar_bytes.specs.Code.Rooms.{kept_in}
use Rattle.bar_outside.proofs.Following.{no_memory}
use Rattle.bar_wire.specs.Grammar.{entry as entry_bytes}
use Rattle.bar_findings.specs.Findings.{in_order, table_name}
use Rattle.bar_findings.proofs.Writing.{made, unmade}
use Rattle.bar_findings.proofs.table.write_table.Goals as goal

pub returns-in_err-name : goal.returns-in_err-name
returns-in_err-name g c = λ w was short.
    let p = err_from_is_err_and c.from_residual.result c.from_residual.ensures.1 in
    rw (p.1, p.2) (no_memory _ _)

pub returns-in_err-create_file : goal.returns-in_err-create_file
returns-in_err-create_file g c = λ w was short.
    let p = err_from_is_err_and c.from_residual-in_err-create_file.result c.from_residual-in_err-create_file.ensures.1 in
    rw (p.1, p.2)
    (unmade c.as_str.result.now (table_name c.args.found.now) (map entry_bytes (in_order (kept_in c.args.manifests.now) c.args.rounds)) _ _ _
    (c.as_str.ensures.value ∙ c.in_ok-name.ensures) (c.in_err-create_file.ensures w was))

pub returns : goal.returns
returns g c = λ w was short.
    made c.as_str.result.now c.as_str-2.result.now (table_name c.args.found.now)
    (map entry_bytes (in_order (kept_in c.args.manifests.now) c.args.rounds)) _ _ _ _ (c.as_str.ensures.value ∙ c.in_ok-name.ensures)
    (c.as_str-2.ensures.value ∙ c.in_ok-name.ensures) (c.in_ok-create_file.ensures w was) (c.append_entries.ensures w was short)

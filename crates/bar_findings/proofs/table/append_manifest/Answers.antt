use Rattle.std.proofs.Common.{◌∙◌}
use Rattle.std.proofs.lemmas.Result.{err_from_is_err_and}
use Rattle.bar_outside.proofs.Following.{no_memory}
use Rattle.bar_findings.proofs.Writing.{entry-is}
use Rattle.bar_findings.proofs.table.append_manifest.Goals as goal

pub returns-in_err-add_entry : goal.returns-in_err-add_entry
returns-in_err-add_entry g c = λ w was short.
    let p = err_from_is_err_and c.from_residual.result c.from_residual.ensures.1 in
    rw (p.1, p.2) (no_memory _ _)

pub returns : goal.returns
returns g c = λ w was short.
    let is = c.deref.ensures.value ∙ entry-is c.args.manifest.now c.new-bytes.result.items c.add_entry.new.out.items c.min-len.result c.from.result short
    c.from.ensures c.min-len.ensures c.new-bytes.ensures.items c.in_ok-add_entry.ensures.ok in
    rw (← is) (c.append_file.ensures w was)

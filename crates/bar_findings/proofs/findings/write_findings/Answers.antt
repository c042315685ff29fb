use Rattle.std.proofs.lemmas.Result.{err_from_is_err_and}
use Rattle.bar_bytes.specs.Code.Rooms.{kept_in}
use Rattle.bar_outside.proofs.Following.{followed, stopped}
use Rattle.bar_findings.specs.Findings.{files_of, finding_actions, findings_actions, table_of}
use Rattle.bar_findings.proofs.findings.write_findings.Goals as goal

pub returns-in_err-write_table : goal.returns-in_err-write_table
returns-in_err-write_table g c = λ w was short.
    let p = err_from_is_err_and c.from_residual.result c.from_residual.ensures.1 in
    rw (p.1, p.2)
    (stopped (finding_actions (table_of c.args.found.now (kept_in c.args.manifests.now) c.args.rounds))
    (findings_actions (files_of c.args.found.now (kept_in c.args.evidence.now) c.args.parties)) _ _ _
    (c.in_err-write_table.ensures w was short))

pub returns : goal.returns
returns g c = λ w was short.
    followed (finding_actions (table_of c.args.found.now (kept_in c.args.manifests.now) c.args.rounds))
    (findings_actions (files_of c.args.found.now (kept_in c.args.evidence.now) c.args.parties)) _ _ _ _
    (c.in_ok-write_table.ensures w was short) _ (c.write_evidence.ensures w was)

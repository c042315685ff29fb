use Rattle.std.proofs.lemmas.Result.{err_from_is_err_and}
use Rattle.bar_bytes.specs.Code.Rooms.{kept_in}
use Rattle.bar_findings.specs.Findings.{evidence_name, file_of, findings_actions}
use Rattle.bar_findings.proofs.Writing.{all-written, findings-join, one-written, one-unwritten}
use Rattle.bar_findings.proofs.evidence.write_evidence.Goals as goal

pub returns-in_err-write_party : goal.returns-in_err-write_party
returns-in_err-write_party g c = λ w was.
    let p = err_from_is_err_and c.from_residual.result c.from_residual.ensures.1 in
    rw (p.1, p.2)
    (one-unwritten findings_actions findings-join (λ party. file_of (evidence_name c.args.found.now party) (kept_in c.args.evidence.now party))
    c.loop-before.before _ _ (c.loop-before.invariant w was) _ c.args.parties _ c.loop-before-test.true (c.in_err-write_party.ensures w was))

pub loop-before-preserved : goal.loop-before-preserved
loop-before-preserved g c = λ w was.
    one-written findings_actions findings-join (λ party. file_of (evidence_name c.args.found.now party) (kept_in c.args.evidence.now party))
    c.loop-before.before _ _ (c.loop-before.invariant w was) _ (c.in_ok-write_party.ensures w was)

pub returns : goal.returns
returns g c = λ w was.
    all-written findings_actions findings-join (λ party. file_of (evidence_name c.args.found.now party) (kept_in c.args.evidence.now party))
    c.loop-before.before _ _ (c.loop-before.invariant w was) c.args.parties c.loop-before.auto.before-end c.loop-before-test.false

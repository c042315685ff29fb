use Rattle.std.proofs.Common.{refl}
use Rattle.std.proofs.lemmas.Result.{err_from_is_err_and}
use Rattle.bar_outside.specs.Plan.{with_out}
use Rattle.bar_outside.proofs.Ending.{EndsWith-unread}
use Rattle.bar_outside.proofs.StageEnds.{EndsWith-stage, EndsWith-stage_memory, EndsWith-stage_refused}
use Rattle.bar_cli.specs.Judge.Judging.{lists_of}
use Rattle.bar_cli.specs.Refusals.{table_refused}
use Rattle.bar_cli.proofs.EvidenceLemmas.{bad-entry}
use Rattle.bar_cli.proofs.judge.judge_session.Goals as goal

pub returns-in-Ok-clause-ends : goal.returns-in-Ok-clause-ends
returns-in-Ok-clause-ends g c = λ w was.
    let p = rw c.deref.ensures.value at c.in-Ok.ensures.ok in
    EndsWith-stage _ (lists_of c.args.session.now) 8 table_refused _ _ _ (with_out w (g.K.Sink.stream c.args.out.now)) _
    (c.in_ok-bytes.ensures was) p.0 _ _ _ p.1 (c.judge_table.ensures.ends w was p.0 p.2)

pub returns-in_err-bytes-clause-ends : goal.returns-in_err-bytes-clause-ends
returns-in_err-bytes-clause-ends g c = λ w was.
    let p = err_from_is_err_and c.from_residual.result c.from_residual.ensures.1 in
    let r = c.in_err-bytes.ensures was in
    rw (p.1, p.2, r.2) (EndsWith-unread _ _ _ _ (with_out w (g.K.Sink.stream c.args.out.now)) r.0 r.1)

pub returns-in-Err-NoMemory-clause-ends : goal.returns-in-Err-NoMemory-clause-ends
returns-in-Err-NoMemory-clause-ends g c = λ w was.
    EndsWith-stage_memory _ (lists_of c.args.session.now) 8 table_refused _ _ _ (with_out w (g.K.Sink.stream c.args.out.now)) _
    (c.in_ok-bytes.ensures was)

pub returns-clause-ends : goal.returns-clause-ends
returns-clause-ends g c = λ w was.
    let at = c.in-Err-BadEntry.at in
    let told = rw c.deref.ensures.value at c.in-Err-BadEntry.ensures.err in
    let refused = bad-entry c.args.session.now c.in_ok-bytes.bytes.items c.in-Err-BadEntry.field-0 at c.in-Err-BadEntry.field-0-is told in
    rw c.in-Err-BadEntry.at-is (EndsWith-stage_refused _ (lists_of c.args.session.now) 8 table_refused _ _ _
    (with_out w (g.K.Sink.stream c.args.out.now)) _ (c.in_ok-bytes.ensures was) at refl refused)

use Rattle.std.proofs.Common.{refl, subst}
use Rattle.std.proofs.lemmas.Result.{err_from_is_err_and}
use Rattle.bar_outside.specs.Plan.{with_files, with_out}
use Rattle.bar_outside.specs.Ends.{EndsWith}
use Rattle.bar_outside.proofs.Ending.{EndsWith-unread}
use Rattle.bar_outside.proofs.StageEnds.{EndsWith-stage, EndsWith-stage_refused}
use Rattle.bar_terms.specs.Table.{digests_of}
use Rattle.bar_wire.specs.Evidence.{datagrams_of}
use Rattle.bar_rules.specs.Judge.Verdict.{Verdict}
use Rattle.bar_judge.specs.Code.Verdicts.{plain_verdict}
use Rattle.bar_cli.specs.Judge.Judging.{datagrams_in}
use Rattle.bar_cli.specs.Judge.Plan.{saying_plan}
use Rattle.bar_cli.specs.Refusals.{evidence_refused}
use Rattle.bar_cli.specs.Status.{code_of_run, said_by_run}
use Rattle.bar_cli.proofs.EvidenceLemmas.{found, same-verdict, unfound}
use Rattle.bar_cli.proofs.judge.judge_table.Goals as goal

pub returns-in_err-bytes-clause-ends : goal.returns-in_err-bytes-clause-ends
returns-in_err-bytes-clause-ends g c = λ w was lists same.
    let p = err_from_is_err_and c.from_residual.result c.from_residual.ensures.1 in
    let r = c.in_err-bytes.ensures was in
    rw (p.1, p.2, r.2) (EndsWith-unread _ _ _ _ (with_out w (g.K.Sink.stream c.args.out.now)) r.0 r.1)

pub returns-in_default-clause-ends : goal.returns-in_default-clause-ends
returns-in_default-clause-ends g c = λ w was lists same.
    EndsWith-stage_refused _ datagrams_in 8 (λ _. evidence_refused) _ _ _ (with_out w (g.K.Sink.stream c.args.out.now)) _
    (c.in_ok-bytes.ensures was) tt refl
    (unfound c.read_evidence.result _ c.in_default.is (rw c.deref.ensures.value at c.read_evidence.ensures))

pub returns-clause-ends : goal.returns-clause-ends
returns-clause-ends g c = λ w was lists same.
    let mid = with_files w (g.F.Files.disk c.read_file.new.files was) in
    let v = same-verdict c.args.session.now (digests_of c.args.table.now.lists) lists (datagrams_of c.in-Some.evidence)
    (plain_verdict c.judge_evidence.result) c.judge_evidence.ensures same in
    EndsWith-stage _ datagrams_in 8 (λ _. evidence_refused) _ _ _ (with_out w (g.K.Sink.stream c.args.out.now)) _
    (c.in_ok-bytes.ensures was) (datagrams_of c.in-Some.evidence) _ _ _
    (found c.read_evidence.result c.in-Some.evidence _ c.in-Some.is (rw c.deref.ensures.value at c.read_evidence.ensures))
    (subst (λ (v : Verdict). EndsWith (saying_plan v) (with_out mid (g.K.Sink.stream c.args.out.now))
    (with_out mid (g.K.Sink.stream c.say_verdict.new.out)) (code_of_run c.say_verdict.result) (said_by_run c.say_verdict.result)) v
    (c.say_verdict.ensures.ends mid))

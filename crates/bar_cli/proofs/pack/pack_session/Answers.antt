use Rattle.std.proofs.lemmas.Result.{err_from_is_err_and}
use Rattle.bar_outside.specs.Plan.{with_out}
use Rattle.bar_outside.proofs.Ending.{EndsWith-reading, EndsWith-unread}
use Rattle.bar_cli.proofs.pack.pack_session.Goals as goal

pub returns-in_err-table-clause-ends : goal.returns-in_err-table-clause-ends
returns-in_err-table-clause-ends g c = λ w was.
    let p = err_from_is_err_and c.from_residual.result c.from_residual.ensures.1 in
    let r = c.in_err-table.ensures was in
    rw (p.1, p.2, r.2) (EndsWith-unread _ _ _ _ (with_out w (g.K.Sink.stream c.args.out.now)) r.0 r.1)

pub returns-in_err-evidence-clause-ends : goal.returns-in_err-evidence-clause-ends
returns-in_err-evidence-clause-ends g c = λ w was.
    let p = err_from_is_err_and c.from_residual-in_err-evidence.result c.from_residual-in_err-evidence.ensures.1 in
    let r = c.in_err-evidence.ensures was in
    rw (p.1, p.2, r.2) (EndsWith-reading _ _ (g.F.Files.disk c.args.files.now was) (g.F.Files.disk c.read_file.new.files was)
    (with_out w (g.K.Sink.stream c.args.out.now))
    _ c.in_ok-table.table _ _ (c.in_ok-table.ensures was)
    (EndsWith-unread _ _ _ _ (with_out w (g.K.Sink.stream c.args.out.now)) r.0 r.1))

pub returns-clause-ends : goal.returns-clause-ends
returns-clause-ends g c = λ w was.
    EndsWith-reading _ _ (g.F.Files.disk c.args.files.now was) (g.F.Files.disk c.read_file.new.files was)
    (with_out w (g.K.Sink.stream c.args.out.now))
    _ c.in_ok-table.table _ _ (c.in_ok-table.ensures was)
    (EndsWith-reading _ _ (g.F.Files.disk c.read_file.new.files was) (g.F.Files.disk c.read_file-2.new.files was)
    (with_out w (g.K.Sink.stream c.args.out.now))
    _ c.in_ok-evidence.evidence _ _ (c.in_ok-evidence.ensures was)
    (rw (c.deref.ensures.value, c.deref-2.ensures.value) at (c.pack_inputs.ensures.ends w was)))

use Rattle.std.proofs.Common.{[], ◌∷◌, string_bytes}
use Rattle.std.proofs.lemmas.Result.{err_from_is_err_and}
use Rattle.bar_outside.specs.Plan.{with_files, with_out}
use Rattle.bar_outside.specs.Plan.Action.{create, append, show}
use Rattle.bar_outside.proofs.Following.{followed, stopped}
use Rattle.bar_cli.proofs.StatusLemmas.{never-file}
use Rattle.bar_cli.proofs.making.make_file.Goals as goal

pub returns-in_err-create_file-clause-follows : goal.returns-in_err-create_file-clause-follows
returns-in_err-create_file-clause-follows g c = λ w was.
    let p = err_from_is_err_and c.from_residual.result c.from_residual.ensures.1 in
    rw (p.1, p.2) (stopped (create c.args.path.now ∷ [])
    (append c.args.path.now c.args.made.now.bytes.items ∷ show (string_bytes c.args.made.now.lines) ∷ []) _ _ _
    (c.in_err-create_file.ensures (with_out w (g.K.Sink.stream c.args.out.now)) was))

pub returns-in_err-append_file-clause-follows : goal.returns-in_err-append_file-clause-follows
returns-in_err-append_file-clause-follows g c = λ w was.
    let p = err_from_is_err_and c.from_residual-in_err-append_file.result c.from_residual-in_err-append_file.ensures.1 in
    rw (p.1, p.2, ← c.deref.ensures.value)
    (stopped (create c.args.path.now ∷ append c.args.path.now c.deref.result.now ∷ []) (show (string_bytes c.args.made.now.lines) ∷ []) _ _ _
    (followed (create c.args.path.now ∷ []) (append c.args.path.now c.deref.result.now ∷ []) _ _ _ _
    (c.in_ok-create_file.ensures (with_out w (g.K.Sink.stream c.args.out.now)) was) _
    (c.in_err-append_file.ensures (with_out w (g.K.Sink.stream c.args.out.now)) was)))

pub returns-clause-follows : goal.returns-clause-follows
returns-clause-follows g c = λ w was.
    rw (← c.deref.ensures.value, ← c.as_bytes.ensures.value)
    (followed (create c.args.path.now ∷ append c.args.path.now c.deref.result.now ∷ []) (show c.as_bytes.result.now ∷ []) _ _ _ _
    (followed (create c.args.path.now ∷ []) (append c.args.path.now c.deref.result.now ∷ []) _ _ _ _
    (c.in_ok-create_file.ensures (with_out w (g.K.Sink.stream c.args.out.now)) was) _
    (c.in_ok-append_file.ensures (with_out w (g.K.Sink.stream c.args.out.now)) was)) _
    (c.show_bytes.ensures (with_files w (g.F.Files.disk c.append_file.new.files was))))

pub returns-clause-unprinted : goal.returns-clause-unprinted
returns-clause-unprinted g c = λ e. absurd (never-file _ _ _ _ c.show_bytes.ensures e)

use Rattle.std.proofs.Common.{[], ◌∷◌}
use Rattle.std.proofs.lemmas.Result.{err_from_is_err_and}
use Rattle.bar_outside.specs.Plan.Action.{append, create}
use Rattle.bar_outside.proofs.Following.{followed, stopped}
use Rattle.bar_party_commands.proofs.spending.write_anew.Goals as goal

pub returns-in_err-create_file : goal.returns-in_err-create_file
returns-in_err-create_file g c = λ w was.
    let p = err_from_is_err_and c.from_residual.result c.from_residual.ensures.1 in
    rw (p.1, p.2)
    (stopped (create c.args.path.now ∷ []) (append c.args.path.now c.args.bytes.now ∷ []) _ _ _ (c.in_err-create_file.ensures w was))

pub returns : goal.returns
returns g c = λ w was.
    followed (create c.args.path.now ∷ []) (append c.args.path.now c.args.bytes.now ∷ []) _ _ _ _
    (c.in_ok-create_file.ensures w was) _ (c.append_file.ensures w was)

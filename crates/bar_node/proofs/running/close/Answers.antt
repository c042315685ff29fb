use Rattle.std.proofs.Common.{[], ◌∷◌}
use Rattle.std.specs.Option.{option_copied}
use Rattle.std.proofs.lemmas.Result.{err_from_is_err_and}
use Rattle.bar_findings.specs.Findings.{findings_actions}
use Rattle.bar_node.specs.Code.Turns.{kept}
use Rattle.bar_node.specs.Runs.{found_after}
use Rattle.bar_node.proofs.Parts.{first-stopped, then-second}
use Rattle.bar_node.proofs.running.close.Goals as goal

pub returns-in_err-keep_bytes : goal.returns-in_err-keep_bytes
returns-in_err-keep_bytes g c = λ taken stands w was.
    let p = err_from_is_err_and c.from_residual.result c.from_residual.ensures.1 in
    rw (p.1, p.2)
    (first-stopped (kept (option_copied c.args.recording) (0 ∷ []))
    (findings_actions (found_after c.args.found.now (g.C.Core.face c.args.core.now).rules taken)) _ _ _ (c.in_err-keep_bytes.ensures w was))

pub returns : goal.returns
returns g c = λ taken stands w was.
    then-second (kept (option_copied c.args.recording) (0 ∷ []))
    (findings_actions (found_after c.args.found.now (g.C.Core.face c.args.core.now).rules taken)) _ _ _ _ _
    (c.in_ok-keep_bytes.ensures w was) (c.write_found.ensures taken stands w was)

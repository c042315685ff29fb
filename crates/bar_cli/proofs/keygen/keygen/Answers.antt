use Rattle.std.proofs.Common.{refl, sym}
use Rattle.bar_outside.specs.Stages.{refuses}
use Rattle.bar_outside.proofs.Ending.{EndsWith-ending}
use Rattle.bar_outside.proofs.StageEnds.{EndsWith-accepts, EndsWith-refuses}
use Rattle.bar_cli.specs.Keygen.Plan.{secret_stages}
use Rattle.bar_cli.specs.Refusals.{session_refused}
use Rattle.bar_cli.specs.Code.Views.{keygen_view}
use Rattle.bar_cli.proofs.keygen.keygen.Goals as goal

pub returns-in-Ok-clause-ends : goal.returns-in-Ok-clause-ends
returns-in-Ok-clause-ends g c = λ w was.
    EndsWith-accepts _ (λ _. secret_stages (keygen_view c.args.asked.now)) (λ fault. refuses 4 (session_refused fault)) _ _ _ _ _
    (sym c.in-Ok.ensures.value) (c.keygen_by_secret.ensures.ends w was)

pub returns-in-Err-clause-ends : goal.returns-in-Err-clause-ends
returns-in-Err-clause-ends g c = λ w was.
    EndsWith-refuses _ (λ _. secret_stages (keygen_view c.args.asked.now)) (λ fault. refuses 4 (session_refused fault)) _ _ _ _ c.in-Err.fault
    (sym c.in-Err.ensures.value) (EndsWith-ending 4 (session_refused c.in-Err.fault) _ refl)

use Rattle.std.proofs.Common.{refl}
use Rattle.bar_outside.proofs.StageRows.{named-within}
use Rattle.bar_cli.specs.Keygen.Plan.{IsKeygenCall, keygen_stages}
use Rattle.bar_cli.proofs.KeygenRows.{within}
use Rattle.bar_cli.proofs.keygen.laws.keygen_failed_only.Goals as goal

pub returns-clause-named : goal.returns-clause-named
returns-clause-named c = λ asked old new ends told.
    named-within (IsKeygenCall asked) (keygen_stages asked) new.files.failed (within asked)
    ((c.stages_go_in_order.ensures.goes (keygen_stages asked) old new 3 ends told).named refl)

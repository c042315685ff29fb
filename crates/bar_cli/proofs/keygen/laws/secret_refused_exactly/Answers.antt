use Rattle.std.proofs.Common.{refl}
use Rattle.bar_cli.specs.Keygen.Plan.{keygen_stages}
use Rattle.bar_cli.proofs.KeygenRows.{refused}
use Rattle.bar_cli.proofs.keygen.laws.secret_refused_exactly.Goals as goal

pub returns-clause-only : goal.returns-clause-only
returns-clause-only c = λ asked old new ends told.
    (refused asked old new 8 told (c.stages_go_in_order.ensures.goes (keygen_stages asked) old new 8 ends told) refl refl).1

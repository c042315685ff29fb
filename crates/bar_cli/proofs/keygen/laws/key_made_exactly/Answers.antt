use Rattle.std.proofs.Common.{refl}
use Rattle.bar_cli.specs.Keygen.Plan.{keygen_stages}
use Rattle.bar_cli.proofs.KeygenRows.{made}
use Rattle.bar_cli.proofs.keygen.laws.key_made_exactly.Goals as goal

pub returns-clause-only : goal.returns-clause-only
returns-clause-only c = λ asked old new ends told.
    made asked old new 0 told (c.stages_go_in_order.ensures.goes (keygen_stages asked) old new 0 ends told) refl (λ why. why)

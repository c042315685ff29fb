use Rattle.std.proofs.Common.{refl}
use Rattle.bar_cli.specs.Keygen.Plan.{keygen_stages}
use Rattle.bar_cli.proofs.KeygenRows.{written-key}
use Rattle.bar_cli.proofs.keygen.laws.output_fails_behind_the_key.Goals as goal

pub returns : goal.returns
returns c = λ asked old new ends told.
    written-key asked old new 7 told (c.stages_go_in_order.ensures.goes (keygen_stages asked) old new 7 ends told) refl

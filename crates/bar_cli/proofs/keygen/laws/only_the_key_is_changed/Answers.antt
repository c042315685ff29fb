use Rattle.bar_cli.specs.Keygen.Plan.{keygen_stages}
use Rattle.bar_cli.proofs.KeygenRows.{other-untouched}
use Rattle.bar_cli.proofs.keygen.laws.only_the_key_is_changed.Goals as goal

pub returns : goal.returns
returns c = λ asked path old new status ends told.
    other-untouched asked old new status told (c.stages_go_in_order.ensures.goes (keygen_stages asked) old new status ends told) path

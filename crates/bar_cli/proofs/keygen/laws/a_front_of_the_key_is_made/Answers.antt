use Rattle.bar_cli.specs.Keygen.Plan.{keygen_stages}
use Rattle.bar_cli.proofs.KeygenRows.{a_front}
use Rattle.bar_cli.proofs.keygen.laws.a_front_of_the_key_is_made.Goals as goal

pub returns : goal.returns
returns c = λ asked old new status ends told.
    a_front asked old new status told (c.stages_go_in_order.ensures.goes (keygen_stages asked) old new status ends told)

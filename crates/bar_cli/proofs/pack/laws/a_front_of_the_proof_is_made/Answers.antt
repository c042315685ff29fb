use Rattle.bar_cli.specs.Pack.{pack_stages}
use Rattle.bar_cli.proofs.PackFronts.{a_front}
use Rattle.bar_cli.proofs.PackRows.{outcome}
use Rattle.bar_cli.proofs.pack.laws.a_front_of_the_proof_is_made.Goals as goal

pub returns : goal.returns
returns c = λ names old new status ends told.
    a_front names old new status told
    (outcome names old new status told (c.stages_go_in_order.ensures.goes (pack_stages names) old new status ends told))

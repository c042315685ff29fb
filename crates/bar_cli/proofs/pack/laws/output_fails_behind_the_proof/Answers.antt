use Rattle.bar_cli.specs.Pack.{pack_stages}
use Rattle.bar_cli.proofs.PackFronts.{at-output}
use Rattle.bar_cli.proofs.PackRows.{outcome}
use Rattle.bar_cli.proofs.pack.laws.output_fails_behind_the_proof.Goals as goal

pub returns : goal.returns
returns c = λ names old new ends told.
    at-output names old new told (outcome names old new 7 told (c.stages_go_in_order.ensures.goes (pack_stages names) old new 7 ends told))

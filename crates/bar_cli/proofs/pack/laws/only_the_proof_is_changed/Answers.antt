use Rattle.bar_cli.specs.Pack.{pack_stages}
use Rattle.bar_cli.proofs.PackRows.{other-untouched, outcome}
use Rattle.bar_cli.proofs.pack.laws.only_the_proof_is_changed.Goals as goal

pub returns : goal.returns
returns c = λ names path old new status ends told differs.
    other-untouched names old new status path told differs
    (outcome names old new status told (c.stages_go_in_order.ensures.goes (pack_stages names) old new status ends told))

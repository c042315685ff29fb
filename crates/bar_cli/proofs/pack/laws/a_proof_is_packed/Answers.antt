use Rattle.bar_cli.specs.Pack.{pack_stages}
use Rattle.bar_cli.proofs.PackRows.{not-packed, outcome, packed}
use Rattle.bar_cli.proofs.pack.laws.a_proof_is_packed.Goals as goal

pub returns-clause-shown : goal.returns-clause-shown
returns-clause-shown c = λ names old new ends told.
    packed names old new c.what_is_shown_is_packed.ensures c.tables_are_spelled.ensures c.accepted_sessions_are_in_range.ensures told
    (outcome names old new 0 told (c.stages_go_in_order.ensures.goes (pack_stages names) old new 0 ends told))

pub returns-clause-not_shown : goal.returns-clause-not_shown
returns-clause-not_shown c = λ names old new ends told.
    not-packed names old new (outcome names old new 1 told (c.stages_go_in_order.ensures.goes (pack_stages names) old new 1 ends told))

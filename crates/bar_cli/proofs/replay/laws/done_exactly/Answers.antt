use Rattle.bar_cli.specs.Replay.Plan.{replay_stages}
use Rattle.bar_cli.proofs.ReplayRows.{outcome, replayed}
use Rattle.bar_cli.proofs.replay.laws.done_exactly.Goals as goal

pub returns-clause-only : goal.returns-clause-only
returns-clause-only c = λ names old new ends told.
    replayed names old new c.accepted_secrets_are_held.ensures c.accepted_sessions_are_in_range.ensures told
    (outcome names old new 0 told (c.stages_go_in_order.ensures.goes (replay_stages names) old new 0 ends told))

use Rattle.bar_cli.specs.Replay.Plan.{replay_stages}
use Rattle.bar_cli.proofs.ReplayRows.{failed-output, outcome}
use Rattle.bar_cli.proofs.replay.laws.output_failed_only.Goals as goal

pub returns-clause-in_order : goal.returns-clause-in_order
returns-clause-in_order c = λ names old new ends told.
    failed-output c.accepted_sessions_are_in_range.ensures names old new told
    (outcome names old new 7 told (c.stages_go_in_order.ensures.goes (replay_stages names) old new 7 ends told))

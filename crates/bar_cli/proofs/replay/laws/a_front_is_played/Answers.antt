use Rattle.bar_cli.specs.Replay.Plan.{replay_stages}
use Rattle.bar_cli.proofs.ReplayRows.{a_front, outcome}
use Rattle.bar_cli.proofs.replay.laws.a_front_is_played.Goals as goal

pub returns : goal.returns
returns c = λ names old new status ends told.
    a_front c.accepted_sessions_are_in_range.ensures names old new status told
    (outcome names old new status told (c.stages_go_in_order.ensures.goes (replay_stages names) old new status ends told))

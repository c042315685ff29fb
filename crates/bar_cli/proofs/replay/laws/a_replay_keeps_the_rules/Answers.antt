use Rattle.bar_cli.specs.Replay.Plan.{replay_stages}
use Rattle.bar_cli.proofs.HeadlineLemmas.{spoke}
use Rattle.bar_cli.proofs.ReplayRows.{outcome}
use Rattle.bar_cli.proofs.replay.laws.a_replay_keeps_the_rules.Goals as goal

pub returns : goal.returns
returns c = λ names old new status ends told.
    spoke names old new status
    c.peers_keep_the_rules.ensures
    c.accepted_secrets_are_held.ensures c.accepted_sessions_are_in_range.ensures told
    (outcome names old new status told (c.stages_go_in_order.ensures.goes (replay_stages names) old new status ends told))

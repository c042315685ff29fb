use Rattle.bar_cli.specs.Replay.Plan.{replay_stages}
use Rattle.bar_cli.proofs.ReplayRows.{other-untouched, outcome}
use Rattle.bar_cli.proofs.replay.laws.only_its_files_are_changed.Goals as goal

pub returns : goal.returns
returns c = λ names path old new status ends told differs differ.
    other-untouched names old new status path told differs differ
    (outcome names old new status told (c.stages_go_in_order.ensures.goes (replay_stages names) old new status ends told))

use Rattle.std.proofs.Common.{refl}
use Rattle.bar_outside.proofs.StageRows.{named-within}
use Rattle.bar_cli.specs.Replay.Plan.{IsReplayCall, replay_stages}
use Rattle.bar_cli.proofs.ReplayRows.{within}
use Rattle.bar_cli.proofs.replay.laws.file_failed_only.Goals as goal

pub returns-clause-named : goal.returns-clause-named
returns-clause-named c = λ names old new ends told.
    named-within (IsReplayCall names) (replay_stages names) new.files.failed (within names)
    ((c.stages_go_in_order.ensures.goes (replay_stages names) old new 3 ends told).named refl)

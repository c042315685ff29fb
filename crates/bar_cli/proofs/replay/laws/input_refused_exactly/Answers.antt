use Rattle.std.proofs.Common.{refl}
use Rattle.bar_cli.specs.Replay.Plan.{replay_stages}
use Rattle.bar_cli.proofs.ReplayRows.{outcome, refused}
use Rattle.bar_cli.proofs.replay.laws.input_refused_exactly.Goals as goal

pub returns-clause-only : goal.returns-clause-only
returns-clause-only c = λ names old new ends told.
    (refused names old new 8 refl refl
    (outcome names old new 8 told (c.stages_go_in_order.ensures.goes (replay_stages names) old new 8 ends told))).1

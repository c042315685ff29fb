use Rattle.std.proofs.Common.{refl}
use Rattle.bar_cli.specs.Line.{usage}
use Rattle.bar_cli.specs.Replay.Plan.{replay_stages}
use Rattle.bar_cli.proofs.ReplayRows.{as-untouched, outcome, refused-untouched}
use Rattle.bar_cli.proofs.replay.laws.refusals_change_nothing.Goals as goal

pub returns-clause-usage : goal.returns-clause-usage
returns-clause-usage c = λ old new status ends told.
    as-untouched status old new (c.stages_go_in_order.ensures.ends 2 usage old new status told (record { carried = ends.carried told; part = ends.part told })).0

pub returns-clause-session : goal.returns-clause-session
returns-clause-session c = λ names old new ends told.
    refused-untouched names old new 4 refl refl
    (outcome names old new 4 told (c.stages_go_in_order.ensures.goes (replay_stages names) old new 4 ends told))

pub returns-clause-key : goal.returns-clause-key
returns-clause-key c = λ names old new ends told.
    refused-untouched names old new 5 refl refl
    (outcome names old new 5 told (c.stages_go_in_order.ensures.goes (replay_stages names) old new 5 ends told))

pub returns-clause-input : goal.returns-clause-input
returns-clause-input c = λ names old new ends told.
    refused-untouched names old new 8 refl refl
    (outcome names old new 8 told (c.stages_go_in_order.ensures.goes (replay_stages names) old new 8 ends told))

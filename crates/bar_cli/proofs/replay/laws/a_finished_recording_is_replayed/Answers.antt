use Rattle.std.proofs.Common.{subst}
use Rattle.bar_outside.specs.Ends.{Ends}
use Rattle.bar_cli.specs.Replay.Plan.{replay_plan}
use Rattle.bar_cli.proofs.FinishedLemmas.{left-accepted, shows-sent}
use Rattle.bar_cli.proofs.replay.laws.a_finished_recording_is_replayed.Goals as goal

pub returns : goal.returns
returns c = λ peer names before after old new status done own left ends told.
    let keys = c.accepted_keys_are_read_back.ensures in
    let reads = c.recordings_read_back.ensures in
    let stays = c.paced_inputs_stay_paced.ensures in (
      c.done_exactly.ensures.then names old new status ends told
          (left-accepted peer names before after old done own left keys.same keys.short reads stays),
      λ zero. shows-sent peer names before after old new done own left keys.same keys.short reads stays
          (c.done_exactly.ensures.only names old new (subst (λ n. Ends (replay_plan names) old new n) zero ends) told),
    )

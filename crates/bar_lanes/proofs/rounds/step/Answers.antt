use Rattle.sha2.specs.Sha256.{schedule}
use Rattle.sha2.proofs.Schedule256.{rounds_next}
use Rattle.bar_lanes.proofs.rounds.step.Goals as goal

pub returns : goal.returns
returns c j n block start below few words held =
    rw (rounds_next start (schedule block 48) c.args.t, ← held, ← (words c.args.t few)) (c.round.ensures j below)

use Rattle.std.proofs.Common.{ap, ◌∙◌, arith}
use Rattle.sha2.specs.Sha256.{rounds, schedule}
use Rattle.bar_lanes.proofs.rounds.four_steps.Goals as goal

pub returns : goal.returns
returns c j block start below words held =
    let after = rounds start (schedule block 48) in
    let s1 = c.step-working.ensures j 64 block start below (omega arith) words held in
    let s2 = c.step-working-2.ensures j 64 block start below (omega arith) words s1 in
    let s3 = c.step-working-3.ensures j 64 block start below (omega arith) words (s2 ∙ ap after (omega arith)) in
    c.step.ensures j 64 block start below (omega arith) words (s3 ∙ ap after (omega arith)) ∙ ap after (omega arith)

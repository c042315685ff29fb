use Rattle.std.proofs.Common.{arith}
use Rattle.sha2.specs.Sha256.{initial_hash_256, rounds}
use Rattle.bar_lanes.proofs.head.first_steps.Goals as goal

pub returns : goal.returns
unfolding rounds
returns c j block below words =
    let start = initial_hash_256 in
    let s1 = c.step-working.ensures j 5 block start below (omega arith) words (c.initial_hash.ensures j below) in
    let s2 = c.step-working-2.ensures j 5 block start below (omega arith) words s1 in
    let s3 = c.step-working-3.ensures j 5 block start below (omega arith) words s2 in
    let s4 = c.step-working-4.ensures j 5 block start below (omega arith) words s3 in
    c.step.ensures j 5 block start below (omega arith) words s4

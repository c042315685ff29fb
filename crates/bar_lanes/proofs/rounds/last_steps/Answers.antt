use Rattle.std.proofs.Common.{ap, ◌∙◌, arith}
use Rattle.sha2.specs.Sha256.{rounds, schedule, compress, add_state}
use Rattle.bar_lanes.specs.Code.Lane.{hash_lane}
use Rattle.bar_lanes.proofs.rounds.last_steps.Goals as goal

pub fours-init : goal.fours-init
fours-init c j block below words held = held

pub fours-preserved : goal.fours-preserved
fours-preserved c j block below words held =
    c.four_steps-working.ensures j block (hash_lane j c.args.hash.now) below words (c.fours.invariant j block below words held)
    ∙ ap (rounds (hash_lane j c.args.hash.now) (schedule block 48)) (omega arith)

pub returns : goal.returns
unfolding compress
returns c j block below words held =
    let hash = hash_lane j c.args.hash.now in
    c.add_states.ensures j below
    ∙ ap (add_state hash) (c.fours.invariant j block below words held ∙ ap (rounds hash (schedule block 48)) (omega arith))

use Rattle.std.proofs.Common.{slice_index, arith}
use Rattle.bar_lanes.proofs.LaneLemmas.{lane_small}
use Rattle.bar_lanes.proofs.Rotations.{rotated_three}
use Rattle.bar_lanes.proofs.rounds.big_sigma1.Goals as goal

pub returns : goal.returns
returns c j below =
    rw (
      c.rotate_right-3.ensures j below,
      c.xor.ensures j below,
      c.rotate_right-2.ensures j below,
      c.xor-near.ensures j below,
      c.rotate_right.ensures j below,
    )
    (rotated_three 32 (slice_index c.args.x j) 6 5 14 (omega arith) (lane_small c.args.x j c.fits-x.0 c.fits-x.1 below))

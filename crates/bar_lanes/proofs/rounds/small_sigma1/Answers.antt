use Rattle.std.proofs.Common.{ℕ, ◌/◌, ◌^◌, bit_xor, slice_index, ap, arith}
use Rattle.bar_lanes.proofs.LaneLemmas.{lane_small}
use Rattle.bar_lanes.proofs.Rotations.{rotated_two}
use Rattle.bar_lanes.proofs.rounds.small_sigma1.Goals as goal

pub returns : goal.returns
returns c j below =
    let x = slice_index c.args.x j in
    rw (
      c.xor.ensures j below,
      c.rotate_right-2.ensures j below,
      c.xor-both.ensures j below,
      c.rotate_right.ensures j below,
      c.shift_right.ensures j below,
    )
    (ap (λ (y : ℕ). bit_xor y (x / 2 ^ 10)) (rotated_two 32 x 17 2 (omega arith) (lane_small c.args.x j c.fits-x.0 c.fits-x.1 below)))

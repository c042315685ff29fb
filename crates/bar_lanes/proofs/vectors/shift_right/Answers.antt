use Rattle.bar_lanes.proofs.LaneLemmas.{same_lane}
use Rattle.bar_lanes.proofs.vectors.shift_right.Goals as goal

pub returns : goal.returns
returns c j below = same_lane _ c.args.a c.args.k j c.fits-a.0 below

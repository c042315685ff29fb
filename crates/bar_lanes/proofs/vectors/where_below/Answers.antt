use Rattle.bar_lanes.proofs.TailLemmas.{select_below}
use Rattle.bar_lanes.proofs.vectors.where_below.Goals as goal

pub returns : goal.returns
returns c j below = select_below c.args.n c.args.counts c.args.new c.args.old j c.fits-counts.0 c.fits-new.0 c.fits-old.0 below

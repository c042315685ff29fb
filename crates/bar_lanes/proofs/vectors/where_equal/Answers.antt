use Rattle.bar_lanes.proofs.TailLemmas.{select_equal}
use Rattle.bar_lanes.proofs.vectors.where_equal.Goals as goal

pub returns : goal.returns
returns c j below = select_equal c.args.n c.args.counts c.args.new c.args.old j c.fits-counts.0 c.fits-new.0 c.fits-old.0 below

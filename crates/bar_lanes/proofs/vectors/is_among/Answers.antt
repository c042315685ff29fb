use Rattle.bar_lanes.proofs.TailLemmas.{none_equal}
use Rattle.bar_lanes.proofs.vectors.is_among.Goals as goal

pub returns : goal.returns
returns c = λ none j below. none_equal c.args.n c.args.counts j c.fits-counts.0 none below

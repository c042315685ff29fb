use Rattle.std.proofs.Common.{slice_index}
use Rattle.bar_lanes.proofs.LaneLemmas.{splat_lane}
use Rattle.bar_lanes.proofs.RoundLemmas.{first_sum_is}
use Rattle.bar_lanes.proofs.rounds.first_sum.Goals as goal

pub returns : goal.returns
returns c j below =
    rw (
      c.add-2.ensures j below,
      c.add-more.ensures j below,
      c.add-start.ensures j below,
      c.add.ensures j below,
      c.big_sigma1.ensures j below,
      c.ch.ensures j below,
      splat_lane c.args.constant j below,
    ) (first_sum_is (slice_index c.args.h j) _ _ c.args.constant (slice_index c.args.word j))

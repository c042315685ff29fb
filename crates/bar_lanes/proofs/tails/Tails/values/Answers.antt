use Rattle.std.proofs.Common.{drop, ap, sym, ◌∙◌}
use Rattle.bar_lanes.specs.Code.Lane.{digest_lane, tail_lane}
use Rattle.bar_lanes.proofs.TailLemmas.{of_lanes_at, seen_lane}
use Rattle.bar_lanes.proofs.tails.Tails.values.Goals as goal

pub returns : goal.returns
unfolding tail_lane
returns c j below =
    let inside = c.self.inside in
    of_lanes_at (digest_lane inside.values) j below
    ∙ sym (ap (drop 3) (seen_lane (tail_lane inside.place inside.values) c.args.self.now j c.self.view_is below))

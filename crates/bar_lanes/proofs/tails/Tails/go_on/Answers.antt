use Rattle.std.proofs.Common.{nat_lt, slice_index, ◌∙◌}
use Rattle.bar_lanes.specs.Code.Lane.{digest_lane, tail_lane}
use Rattle.bar_lanes.proofs.TailLemmas.{of_lanes_at, seen_lane, tail_gone_on}
use Rattle.bar_lanes.proofs.tails.Tails.go_on.Goals as goal

pub returns : goal.returns
returns c j below =
    let own = c.self.inside in
    rw (
      seen_lane (digest_lane c.values.inside.state) c.args.values.now j c.values.view_is below,
      seen_lane (tail_lane own.place own.values) c.args.self.now j c.self.view_is below,
    )
    (of_lanes_at (tail_lane c.where_below-self-inside.result c.where_below-self-inside-2.result) j below
    ∙ tail_gone_on (nat_lt c.args.n (slice_index c.args.counts j)) c.where_below-self-inside.result c.next_place.result own.place
    c.where_below-self-inside-2.result c.values.inside.state own.values j (c.where_below-self-inside.ensures j below)
    (c.where_below-self-inside-2.ensures j below) (c.next_place.ensures.upper j below (c.self.invariant j below)))

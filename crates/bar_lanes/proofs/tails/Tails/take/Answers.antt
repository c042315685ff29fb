use Rattle.std.proofs.Common.{◌==◌, refl, slice_index, ◌∙◌}
use Rattle.bar_lanes.specs.Code.Lane.{tail_lane}
use Rattle.bar_lanes.proofs.TailLemmas.{of_lanes_at, seen_lane, tail_chosen}
use Rattle.bar_lanes.proofs.tails.Tails.take.Goals as goal

pub returns-then-is_among : goal.returns-then-is_among
returns-then-is_among c j below =
    let own = c.self.inside in
    let other = c.others.inside in
    rw (
      seen_lane (tail_lane other.place other.values) c.args.others.now j c.others.view_is below,
      seen_lane (tail_lane own.place own.values) c.args.self.now j c.self.view_is below,
    )
    (of_lanes_at (tail_lane c.where_equal-self-inside.result c.where_equal-self-inside-then-is_among.result) j below
    ∙ tail_chosen (slice_index c.args.counts j == c.args.n) c.where_equal-self-inside.result other.place own.place
    c.where_equal-self-inside-then-is_among.result other.values own.values j (c.where_equal-self-inside.ensures j below)
    (c.where_equal-self-inside-then-is_among.ensures j below))

pub returns-else-is_among : goal.returns-else-is_among
returns-else-is_among c j below = rw (c.is_among.ensures c.if-is_among.false j below) refl

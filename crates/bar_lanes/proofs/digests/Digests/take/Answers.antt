use Rattle.std.proofs.Common.{◌==◌, refl, slice_index, ◌∙◌}
use Rattle.bar_lanes.specs.Code.Lane.{digest_lane}
use Rattle.bar_lanes.proofs.TailLemmas.{digest_chosen, of_lanes_at, seen_lane}
use Rattle.bar_lanes.proofs.digests.Digests.take.Goals as goal

pub returns-then-is_among : goal.returns-then-is_among
returns-then-is_among c j below =
    rw (
      seen_lane (digest_lane c.others.inside.state) c.args.others.now j c.others.view_is below,
      seen_lane (digest_lane c.self.inside.state) c.args.self.now j c.self.view_is below,
    )
    (of_lanes_at (digest_lane c.where_equal-self-inside.result) j below
    ∙ digest_chosen (slice_index c.args.counts j == c.args.n) c.where_equal-self-inside.result c.others.inside.state c.self.inside.state j
    (c.where_equal-self-inside.ensures j below))

pub returns-else-is_among : goal.returns-else-is_among
returns-else-is_among c j below = rw (c.is_among.ensures c.if-is_among.false j below) refl

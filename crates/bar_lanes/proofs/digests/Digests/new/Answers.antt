use Rattle.std.proofs.Common.{[], slice_index_or, ◌∙◌}
use Rattle.bar_lanes.specs.Code.Lane.{digest_lane}
use Rattle.bar_lanes.proofs.TailLemmas.{digest_of_bytes, of_lanes_at}
use Rattle.bar_lanes.proofs.digests.Digests.new.Goals as goal

pub returns : goal.returns
returns c j below =
    of_lanes_at (digest_lane _) j below
    ∙ digest_of_bytes _ j (slice_index_or c.args.values.now j []) (λ i. c.words_at.ensures.bytes j i below) (c.words_at.ensures.long j below)
    (c.words_at.ensures.is j below) (c.words_at-2.ensures.is j below) (c.words_at-3.ensures.is j below) (c.words_at-4.ensures.is j below)
    (c.words_at-5.ensures.is j below) (c.words_at-6.ensures.is j below) (c.words_at-7.ensures.is j below) (c.words_at-8.ensures.is j below)

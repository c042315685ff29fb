use Rattle.std.proofs.Common.{slice_index}
use Rattle.bar_lanes.proofs.RoundLemmas.{most_is}
use Rattle.bar_lanes.proofs.rounds.maj.Goals as goal

pub returns : goal.returns
returns c j below =
    rw (c.xor.ensures j below, c.and.ensures j below, c.xor-near.ensures j below, c.xor-far.ensures j below)
    (most_is (slice_index c.args.a j) (slice_index c.args.b j) (slice_index c.args.c j))

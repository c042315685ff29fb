use Rattle.std.proofs.Common.{◌-◌, arith, refl}
use Rattle.bar_lanes.proofs.LaneLemmas.{slice_index-lane}
use Rattle.bar_lanes.proofs.rounds.next_word.Goals as goal

pub returns : goal.returns
returns c j below =
    let words = c.args.words.now in
    let t = c.args.t in
    rw (
      slice_index-lane words j (t - 2) (omega arith),
      slice_index-lane words j (t - 7) (omega arith),
      slice_index-lane words j (t - 15) (omega arith),
      slice_index-lane words j (t - 16) (omega arith),
      c.add.ensures j below,
      c.add-far.ensures j below,
      c.add-near.ensures j below,
      c.small_sigma1.ensures j below,
      c.small_sigma0.ensures j below,
    ) refl

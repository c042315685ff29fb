use Rattle.std.proofs.Common.{◌+◌, ◌∙◌, arith}
use Rattle.bar_lanes.proofs.ScheduleLemmas.{late_word_is}
use Rattle.bar_lanes.proofs.head.next_word.Goals as goal

pub returns : goal.returns
returns c j block below words late =
    c.add.ensures j below
    ∙ rw (
      c.add-near.ensures j below,
      c.small_sigma1.ensures j below,
      words (c.args.k + 14) (omega arith),
      words (c.args.k + 9) (omega arith),
      late,
    ) (late_word_is block c.args.k c.requires)

use Rattle.std.proofs.Common.{refl}
use Rattle.bar_lanes.proofs.rounds.add_states.Goals as goal

pub returns : goal.returns
returns c j below =
    rw (
      c.add.ensures j below,
      c.add-2.ensures j below,
      c.add-3.ensures j below,
      c.add-4.ensures j below,
      c.add-5.ensures j below,
      c.add-6.ensures j below,
      c.add-7.ensures j below,
      c.add-8.ensures j below,
    ) refl

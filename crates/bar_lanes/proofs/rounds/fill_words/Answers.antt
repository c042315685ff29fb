use Rattle.std.proofs.Common.{arith}
use Rattle.bar_lanes.proofs.ScheduleLemmas.{scheduled_fewer}
use Rattle.bar_lanes.proofs.rounds.fill_words.Goals as goal

pub fours-preserved : goal.fours-preserved
fours-preserved c j block below had =
    scheduled_fewer block j _ _ _ (omega arith) (c.four_words.ensures j block below (c.fours.invariant j block below had))

pub returns : goal.returns
returns c j block below had = scheduled_fewer block j c.fours.words _ 64 (omega arith) (c.fours.invariant j block below had)

use Rattle.bar_progress.proofs.Witness.{trade-begun}
use Rattle.bar_progress.proofs.premises.trades_can_begin.Goals as goal

pub returns : goal.returns
returns c =
    trade-begun c.premises_can_be_met.ensures.setups c.premises_can_be_met.ensures.honest c.sent_is_accepted.ensures.step
    c.blocks_reach_their_fanout.ensures.whole

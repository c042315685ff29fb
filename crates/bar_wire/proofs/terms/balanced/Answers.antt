use Rattle.bar_wire.proofs.TermReads.{trade_at, no_trade}
use Rattle.bar_wire.proofs.terms.balanced.Goals as goal

pub returns-in_err-ha : goal.returns-in_err-ha
returns-in_err-ha c =
    let read = c.split_array in
    rw c.from_residual.ensures (no_trade c.args.shape.now c.args.round c.args.bytes.now read.result.0.now read.result.1.now read.ensures.front read.ensures.is c.in_err-ha.ensures)

pub returns : goal.returns
returns c =
    let read = c.split_array in
    trade_at c.args.shape.now c.args.round c.args.bytes.now read.result.0.now read.result.1.now c.in_ok-ha.rest.now c.in_ok-ha.ha c.in_ok-ha.hb read.ensures.front read.ensures.is c.in_ok-ha.ensures

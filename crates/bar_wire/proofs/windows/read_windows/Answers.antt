use Rattle.bar_wire.proofs.WindowReads.{no_first, no_second, two_at}
use Rattle.bar_wire.proofs.windows.read_windows.Goals as goal

pub returns-in_err-first : goal.returns-in_err-first
returns-in_err-first c = rw c.from_residual.ensures (no_first c.args.shape.now c.args.round c.args.bytes.now c.in_err-first.ensures)

pub returns-in_err-second : goal.returns-in_err-second
returns-in_err-second c =
    let one = c.in_ok-first in
    rw c.from_residual-in_err-second.ensures
    (no_second c.args.shape.now c.args.round c.args.bytes.now one.rest.now one.first one.ensures c.in_err-second.ensures)

pub returns : goal.returns
returns c =
    let one = c.in_ok-first in
    let two = c.in_ok-second in
    two_at c.args.shape.now c.args.round c.args.bytes.now one.rest.now two.rest.now one.first two.second one.ensures two.ensures

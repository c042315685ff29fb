use Rattle.std.proofs.Common.{arith}
use Rattle.bar_wire.proofs.Nones.{no_reply}
use Rattle.bar_wire.proofs.fields.reply.Goals as goal

pub returns-in_err-want : goal.returns-in_err-want
returns-in_err-want c =
    let round = c.split_u32-round in
    rw c.from_residual.ensures (no_reply c.args.shape.now round.result.0 c.args.bytes.now round.result.1.now (omega arith) round.ensures.is c.in_err-want.ensures)

use Rattle.std.proofs.Common.{arith}
use Rattle.bar_wire.proofs.Nones.{no_query}
use Rattle.bar_wire.proofs.fields.query.Goals as goal

pub returns-in_err-young : goal.returns-in_err-young
returns-in_err-young c =
    let round = c.split_u32-round in
    let seed = c.split_array in
    rw c.from_residual.ensures (no_query c.args.shape.now round.result.0 c.args.bytes.now round.result.1.now seed.result.0.now seed.result.1.now (omega arith) round.ensures.is seed.ensures.is seed.ensures.front c.in_err-young.ensures)

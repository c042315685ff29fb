use Rattle.std.proofs.Common.{arith}
use Rattle.bar_wire.proofs.Nones.{no_response}
use Rattle.bar_wire.proofs.fields.response.Goals as goal

pub returns-in_err-hb : goal.returns-in_err-hb
returns-in_err-hb c =
    let round = c.split_u32-round in
    rw c.from_residual.ensures (no_response c.args.shape.now round.result.0 c.args.bytes.now round.result.1.now (omega arith) round.ensures.is c.in_err-hb.ensures)

use Rattle.std.proofs.Common.{arith}
use Rattle.bar_wire.proofs.Nones.{no_divulge}
use Rattle.bar_wire.proofs.fields.divulge.Goals as goal

pub returns-in_err-ha : goal.returns-in_err-ha
returns-in_err-ha c =
    let round = c.split_u32-round in
    let nonce = c.split_array in
    rw c.from_residual.ensures (no_divulge c.args.shape.now round.result.0 c.args.bytes.now round.result.1.now nonce.result.0.now nonce.result.1.now (omega arith) round.ensures.is nonce.ensures.is nonce.ensures.front c.in_err-ha.ensures)

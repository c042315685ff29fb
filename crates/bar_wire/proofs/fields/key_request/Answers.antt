use Rattle.std.proofs.Common.{arith}
use Rattle.bar_wire.proofs.Nones.{no_key_request}
use Rattle.bar_wire.proofs.fields.key_request.Goals as goal

pub returns-in_err-xkind : goal.returns-in_err-xkind
returns-in_err-xkind c =
    let r = c.split_u32-round in
    rw c.from_residual.ensures (no_key_request c.args.shape.now r.result.0 c.args.bytes.now r.result.1.now (omega arith) r.ensures.is c.in_err-xkind.ensures)

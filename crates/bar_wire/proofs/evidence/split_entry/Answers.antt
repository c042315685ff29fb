use Rattle.std.proofs.Common.{◌≤◌, length, arith}
use Rattle.bar_wire.proofs.EvidenceReads.{first_entry}
use Rattle.bar_wire.proofs.evidence.split_entry.Goals as goal

pub split_at-requires : goal.split_at-requires
split_at-requires c = omega (arith, c.requires, c.split_u16-len.ensures.number, c.split_u16-len.ensures.rest, c.from.ensures)

pub returns : goal.returns
returns c =
    let len = c.split_u16-len.result.0 in
    let after = c.split_u16-len.result.1.now in
    let fits : len ≤ length after = omega (arith, c.requires, c.split_u16-len.ensures.number, c.split_u16-len.ensures.rest) in
    let same = first_entry c.args.bytes.now after len c.split_u16-len.ensures.is (omega arith) c.split_u16-len.ensures.rest fits in
    rw (c.split_at.ensures.front, c.split_at.ensures.back, c.from.ensures) same

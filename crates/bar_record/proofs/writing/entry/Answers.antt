use Rattle.std.proofs.Common.{◌≡◌, ◌∙◌, ◌+◌, length, ap, arith, length-append}
use Rattle.bar_bytes.specs.Bytes.{u16_bytes}
use Rattle.bar_bytes.proofs.Lengths.{length_u16}
use Rattle.bar_wire.specs.Inputs.{plain_input}
use Rattle.bar_record.specs.Recording.{entry_bytes}
use Rattle.bar_record.proofs.writing.entry.Goals as goal

pub put_u16-at-requires : goal.put_u16-at-requires
put_u16-at-requires c =
    let bytes = c.in-Datagram.bytes.now in
    let long : length (entry_bytes (plain_input c.args.input.now)) ≡ 1 + length (u16_bytes (length bytes)) + length bytes =
    ap (λ i. length (entry_bytes (plain_input i))) c.in-Datagram.is ∙ omega (arith, length-append (u16_bytes (length bytes)) bytes) in
    omega (arith, c.requires.room, long, length_u16 (length bytes), c.put_u8-at.ensures.end, c.put_u8-at.ensures.writes.long)

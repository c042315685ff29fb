use Rattle.std.proofs.Common.{◌∷◌, ◌++◌, ap, ◌∙◌, arith}
use Rattle.std.specs.List.{concat}
use Rattle.bar_bytes.specs.Bytes.{u16_bytes}
use Rattle.bar_wire.specs.Kinds.{code_of}
use Rattle.bar_wire.specs.Datagram.{Message}
use Rattle.bar_wire.specs.Grammar.{pieces, message_bytes}
use Rattle.bar_wire.specs.Code.Views.{plain}
use Rattle.bar_bytes.specs.Code.Putting.{Appends}
use Rattle.bar_wire.proofs.Writes.{writes_then, writes_same}
use Rattle.bar_wire.proofs.Written.{written_is, message_len}
use Rattle.bar_wire.proofs.writing.encode.Goals as goal

pub put_u16-at-requires : goal.put_u16-at-requires
put_u16-at-requires c =
    let m : Message = record { from = c.args.from; to = c.args.to; body = plain c.args.body.now } in
    omega (arith, message_len c.args.shape.now m, c.requires.room, c.put-at.ensures.end_is, c.put-at.ensures.long, c.put-at-2.ensures.end_is, c.put-at-2.ensures.long, c.args.shape.now.shaped.id_long)

pub put_u16-at-requires-2 : goal.put_u16-at-requires-2
put_u16-at-requires-2 c =
    let m : Message = record { from = c.args.from; to = c.args.to; body = plain c.args.body.now } in
    omega (arith, message_len c.args.shape.now m, c.requires.room, c.put-at.ensures.end_is, c.put-at.ensures.long, c.put-at-2.ensures.end_is, c.put-at-2.ensures.long, c.args.shape.now.shaped.id_long, c.put_u16-at.ensures.writes.long, c.put_u16-at.ensures.end)

pub put_body-requires-clause-room : goal.put_body-requires-clause-room
put_body-requires-clause-room c =
    let m : Message = record { from = c.args.from; to = c.args.to; body = plain c.args.body.now } in
    omega (arith, message_len c.args.shape.now m, written_is c.args.shape.now c.args.body.now c.requires.body, c.requires.room, c.put-at.ensures.end_is, c.put-at.ensures.long, c.put-at-2.ensures.end_is, c.put-at-2.ensures.long, c.args.shape.now.shaped.id_long, c.put_u16-at.ensures.writes.long, c.put_u16-at.ensures.end, c.put_u16-at-2.ensures.writes.long, c.put_u16-at-2.ensures.end)

pub returns : goal.returns
returns c =
    let s = c.args.shape.now in
    let m : Message = record { from = c.args.from; to = c.args.to; body = plain c.args.body.now } in
    let rest = s.id ++ (u16_bytes c.args.from ++ (u16_bytes c.args.to ++ concat (pieces s (plain c.args.body.now)))) in
    let code = c.code-code.ensures ∙ ap code_of c.kind_of.ensures in
    let all : Appends c.args.out.now 0 (message_bytes s m) c.put_body.new.out c.put_body.result =
    writes_same (message_bytes s m) (λ i. 0xba ∷ 0x47 ∷ s.version ∷ code i ∷ rest) (writes_then c.put-at.ensures (writes_then c.put-at-2.ensures (writes_then c.put_u16-at.ensures.writes (writes_then c.put_u16-at-2.ensures.writes c.put_body.ensures)))) in
    record { written = all.front; end = omega (arith, all.end_is); rest = all.back }

-- The length of a message is that of the header and the encoded body.
use Rattle.std.proofs.Common.{◌≡◌, ◌≤◌, ◌+◌, length, sym, ap, ◌∙◌, subst, arith}
use Rattle.bar_wire.specs.declared.shape.Shape.{Shape}
use Rattle.bar_wire.specs.Datagram.{Message}
use Rattle.bar_wire.specs.Grammar.{message_bytes}
use Rattle.bar_wire.specs.Limits.{largest_datagram}
use Rattle.bar_wire.specs.Code.Views.{plain}
use Rattle.bar_wire.specs.Code.Writing.{body_written}
use Rattle.bar_wire.proofs.Written.{written_is, message_len}
use Rattle.bar_rules.specs.Broadcaster.Sending.{caster_message}
use Rattle.bar_caster.proofs.announcing.write_to_all.Goals as goal

pub encode-requires-clause-room : goal.encode-requires-clause-room
encode-requires-clause-room c =
    let s : Shape = c.args.session.now.shape in
    let m : Message = caster_message (plain c.args.body.now) in
    let short : length (message_bytes s m) ≤ largest_datagram = omega (arith, message_len s m, written_is s c.args.body.now c.requires.body, c.requires.short) in
    let here : length (message_bytes c.shape-shape.result m) ≤ largest_datagram =
    subst (λ (t : Shape). length (message_bytes t m) ≤ largest_datagram) (sym c.shape-shape.ensures.value) short in
    omega (arith, here, c.requires.room)

pub returns-clause-end : goal.returns-clause-end
returns-clause-end c =
    let s : Shape = c.args.session.now.shape in
    let m : Message = caster_message (plain c.args.body.now) in
    let long : length (message_bytes s m) ≡ 16 + body_written s c.args.body.now = omega (arith, message_len s m, written_is s c.args.body.now c.requires.body) in
    c.encode.ensures.end
    ∙ ap (λ (t : Shape). length (message_bytes t m)) c.shape-shape.ensures.value
    ∙ long

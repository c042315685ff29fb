-- A BLOCK isn't signed: its datagram is its message.
use Rattle.std.proofs.Common.{◌≡◌, ◌<◌, ◌∙◌, ℕ, List, length, sym, ap, subst, arith}
use Rattle.std.specs.Prelude.{option_map, slice_get}
use Rattle.std.proofs.lemmas.List.{length-take}
use Rattle.std.proofs.lemmas.Option.{same_Some}
use Rattle.bar_window.specs.declared.update.UpdateId.{UpdateId}
use Rattle.bar_wire.specs.Datagram.{Message, Block}
use Rattle.bar_wire.specs.Grammar.{message_bytes}
use Rattle.bar_rules.specs.Broadcaster.Stream.{round_blocks}
use Rattle.bar_session.specs.Time.{round_after}
use Rattle.bar_rules.specs.Peer.Log.{round_now}
use Rattle.bar_rules.specs.Values.{datagram_bytes}
use Rattle.bar_caster.specs.Code.Memory.{stream_of}
use Rattle.bar_caster.specs.Code.Orders.{block_to}
use Rattle.bar_caster.proofs.Given.{one_within, unsigned_bytes, block_len}
use Rattle.bar_caster.proofs.memory.Memory.write_block.Goals as goal

pub encode-requires-clause-room : goal.encode-requires-clause-room
encode-requires-clause-room c =
    omega (arith, block_len c.shape.result c.args.peer c.round-round.result c.args.index c.write_block.new.out, c.write_block.array_long, c.requires.room)

pub returns : goal.returns
returns c = λ log d tells now.
    let m = c.args.self.now in
    let round : round_now log ≡ c.round-round.result = ap round_after tells.time ∙ sym c.round-round.ensures in
    let u : UpdateId = record { round = round_now log; index = c.args.index } in
    let blocks : List (List ℕ) = round_blocks m.session (stream_of m) (round_now log) in
    let there : c.args.index < length blocks = one_within (block_to c.args.peer u) blocks c.args.index d now in
    let same : blocks ≡ round_blocks m.session (stream_of m) c.round-round.result = ap (round_blocks m.session (stream_of m)) round in
    let here = ap (λ bs. slice_get bs c.args.index) same
    ∙ c.write_block.ensures.block m.session (sym m.same_rounds) (subst (λ (bs : List (List ℕ)). c.args.index < length bs) same there) in
    let is : d ≡ block_to c.args.peer u c.write_block.new.out =
    same_Some d (block_to c.args.peer u c.write_block.new.out) (sym now ∙ ap (option_map (block_to c.args.peer u)) here) in
    let message : Message = record { from = 0; to = c.args.peer; body = Block u c.write_block.new.out } in (
      c.encode.ensures.written
          ∙ (λ i. message_bytes (c.shape.ensures.value i) (record { from = 0; to = c.args.peer; body = Block (record { round = sym round i; index = c.args.index }) c.write_block.new.out }))
          ∙ sym (unsigned_bytes m.session message)
          ∙ sym (ap (datagram_bytes m.session) is),
      omega (arith, c.encode.ensures.end, ap length c.encode.ensures.written, length-take c.encode.result c.encode.new.out),
    )

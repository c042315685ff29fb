use Rattle.std.proofs.Common.{arith}
use Rattle.bar_exchange.proofs.Messages.{message_short}
use Rattle.bar_exchange.proofs.writing.write_message.Goals as goal

pub encode-requires-clause-room : goal.encode-requires-clause-room
encode-requires-clause-room c =
    let few = message_short c.args.sources.now.session.now.shape c.shape-shape.result c.me.result c.party.result c.args.body.now c.shape-shape.ensures.value c.requires.body c.requires.short in
    omega (arith, few, c.requires.room)

pub returns-clause-front : goal.returns-clause-front
returns-clause-front c =
    let few = message_short c.args.sources.now.session.now.shape c.shape-shape.result c.me.result c.party.result c.args.body.now c.shape-shape.ensures.value c.requires.body c.requires.short in
    record {
      short = omega (arith, few, c.encode.ensures.end);
      rest = c.encode.ensures.rest;
      long = c.encode.auto.out;
    }

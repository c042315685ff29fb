use Rattle.std.proofs.Common.{arith}
use Rattle.bar_case.proofs.Stream.{filled, started}
use Rattle.bar_case.proofs.cipher.keystream.Goals as goal

pub returns : goal.returns
returns c = filled c.args.key.now _ c.args.word _ _ _ (started c.args.key.now c.args.word _ _ c.from_seed-rng.ensures c.set_word_pos.ensures (omega arith)) (omega arith) (omega arith) c.fill_bytes.ensures

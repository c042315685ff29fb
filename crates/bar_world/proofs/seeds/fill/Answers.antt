use Rattle.std.proofs.Common.{length, ap, ◌∙◌, arith, zero-add}
use Rattle.bar_case.specs.Keystream.{keystream}
use Rattle.bar_case.proofs.Stream.{filled}
use Rattle.bar_world.proofs.seeds.fill.Goals as goal

pub returns : goal.returns
returns c =
    filled c.args.key _ 0 _ _ _ c.from_seed-words.ensures (omega arith) (omega arith) c.fill_bytes.ensures
    ∙ ap (keystream c.args.key) (zero-add (length c.args.out.now))

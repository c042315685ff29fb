use Rattle.std.proofs.Common.{arith}
use Rattle.bar_caster.proofs.FanoutLemmas.{filled_one}
use Rattle.bar_caster.proofs.fanout.fill_ranks.Goals as goal

pub loop-i-preserved : goal.loop-i-preserved
loop-i-preserved g c = record {
  filled = λ me has.
      filled_one me c.args.update c.loop-i.ranks c.loop-i.i c.rank.result
      (omega arith) (c.rank.ensures me has) (c.loop-i.invariant.filled me has);
  cost = omega arith;
}

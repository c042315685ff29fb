use Rattle.std.proofs.Common.{◌+◌, ◌-◌, length, arith}
use Rattle.std.proofs.lemmas.Slice.{drop-put_mid}
use Rattle.std.proofs.lemmas.Grind.{common_steps}
use Rattle.bar_bytes.proofs.write.put.Goals as goal

pub returns : goal.returns
returns c =
    let at = c.args.at in
    let n = length c.args.bytes.now in
    record {
      front = grind (arith, common_steps);
      back = drop-put_mid at (at + n - at) c.args.out.now c.copy_from_slice.new.self (at + n) (omega arith) (omega (arith, c.requires)) (omega (arith, c.copy_from_slice.ensures.len));
      end_is = omega arith;
      long = grind (arith, common_steps);
    }

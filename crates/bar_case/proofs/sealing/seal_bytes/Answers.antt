use Rattle.std.proofs.Common.{◌+◌, ◌-◌, length, arith}
use Rattle.std.proofs.lemmas.Slice.{drop-put_mid}
use Rattle.bar_case.proofs.sealing.seal_bytes.Goals as goal

pub returns-clause-rest : goal.returns-clause-rest
returns-clause-rest c =
    let at = c.args.at in
    let n = length c.args.bytes.now in
    drop-put_mid at (at + n - at) c.args.out.now c.crypt.new.out (at + n) (omega arith) (omega arith) (omega (arith, c.crypt.auto.out))

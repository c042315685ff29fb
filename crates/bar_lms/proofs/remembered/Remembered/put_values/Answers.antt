use Rattle.std.proofs.Common.{◌≡◌, ◌+◌, ◌-◌, ◌*◌, length, arith}
use Rattle.bar_lms.specs.Params.{chains}
use Rattle.bar_lms.proofs.RememberedLemmas.{length-chain_values, read_back}
use Rattle.bar_lms.proofs.remembered.Remembered.put_values.Goals as goal

pub put-requires : goal.put-requires
put-requires g c =
    let long : length c.in-Some.values.now ≡ 32 * chains c.args.key.now.params.ots =
    rw c.in-Some.ensures (length-chain_values c.args.key.now c.args.q c.args.hash.now)
    in
    omega (arith, long, c.requires)

pub returns-in-Some-clause-grown : goal.returns-in-Some-clause-grown
returns-in-Some-clause-grown g c =
    rw (c.in-Some.ensures, length-chain_values c.args.key.now c.args.q c.args.hash.now) at c.put.ensures.grown

pub returns-in-Some-clause-rest : goal.returns-in-Some-clause-rest
returns-in-Some-clause-rest g c =
    rw (c.in-Some.ensures, length-chain_values c.args.key.now c.args.q c.args.hash.now) at c.put.ensures.rest

pub keep-requires : goal.keep-requires
keep-requires g c =
    let count : 40 + 32 * c.chains.result - 40 ≡ 32 * chains c.args.key.now.params.ots = rw c.chains.ensures (omega arith) in
    rw count (read_back c.args.out.now c.put_values.new.out _ 40 _ (omega (arith, c.requires)) c.put_values.ensures.grown)

use Rattle.std.proofs.Common.{◌≡◌, ◌<◌, replicate, slice_index, arith}
use Rattle.std.proofs.lemmas.List.{get_or-replicate}
use Rattle.bar_lms.specs.Params.{chains, last}
use Rattle.bar_lms.specs.Chains.{chain, digit}
use Rattle.bar_lms.specs.Code.Order.{reached, longest_by_eights}
use Rattle.bar_lms.specs.Signature.{signed_value}
use Rattle.bar_lms.specs.Tree.{value}
use Rattle.bar_lms.proofs.DigitLemmas.{few_chains, digit_facts}
use Rattle.bar_lms.proofs.OrderLemmas.{longest_same}
use Rattle.bar_lms.proofs.signing.take_digits.Goals as goal

pub all_chains-requires-clause-bytes : goal.all_chains-requires-clause-bytes
all_chains-requires-clause-bytes g c = λ i below.
    let ots = c.args.key.now.params.ots in
    let few : i < 265 = omega (arith, few_chains ots) in
    let from : slice_index (replicate 265 0) i ≡ 0 = get_or-replicate 265 i 0 0 few in
    omega (arith, from, c.digits_of.ensures.bound i (omega arith), (digit_facts ots).last_most)

pub returns-clause-value : goal.returns-clause-value
unfolding signed_value value chain reached
returns-clause-value g c = λ i below.
    let few : i < 265 = omega (arith, few_chains c.args.key.now.params.ots) in
    let from : slice_index (replicate 265 0) i ≡ 0 = get_or-replicate 265 i 0 0 few in
    rw (from, c.digits_of.ensures.value i below, c.put_starts.ensures.value i below) at (c.all_chains.ensures.value i (omega arith))

pub returns-clause-cost : goal.returns-clause-cost
returns-clause-cost g c =
    let ots = c.args.key.now.params.ots in
    let counts = slice_index c.digits_of.result in
    let digits = digit ots c.args.hash.now in
    let same : longest_by_eights counts (chains ots) (last ots) ≡ longest_by_eights digits (chains ots) (last ots) =
    longest_same counts digits (chains ots) (last ots) c.digits_of.ensures.value
    in
    omega (arith, c.put_starts.ensures.cost, rw (c.chains.ensures, c.last.ensures, same) at c.all_chains.ensures.cost)

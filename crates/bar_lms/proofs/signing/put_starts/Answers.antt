use Rattle.std.proofs.Common.{◌≡◌, ◌<◌, [], replicate, slice_index, slice_index_or, arith}
use Rattle.std.proofs.lemmas.List.{get_or-replicate}
use Rattle.bar_lms.specs.Params.{chains}
use Rattle.bar_lms.specs.Chains.{chain}
use Rattle.bar_lms.specs.Code.Order.{reached, longest_by_eights}
use Rattle.bar_lms.specs.Tree.{value}
use Rattle.bar_lms.proofs.DigitLemmas.{few_chains}
use Rattle.bar_lms.proofs.OrderLemmas.{longest_ones}
use Rattle.bar_lms.proofs.signing.put_starts.Goals as goal

pub all_chains-requires-clause-bytes : goal.all_chains-requires-clause-bytes
all_chains-requires-clause-bytes g c = λ i below.
    let few : i < 265 = omega (arith, few_chains c.args.key.now.params.ots) in
    let from : slice_index (replicate 265 255) i ≡ 255 = get_or-replicate 265 i 255 0 few in
    let count : slice_index (replicate 265 1) i ≡ 1 = get_or-replicate 265 i 1 0 few in
    omega (arith, from, count)

pub all_chains-requires-clause-bound : goal.all_chains-requires-clause-bound
all_chains-requires-clause-bound g c = λ i below.
    let few : i < 265 = omega (arith, few_chains c.args.key.now.params.ots) in
    let count : slice_index (replicate 265 1) i ≡ 1 = get_or-replicate 265 i 1 0 few in
    omega (arith, count)

pub returns-clause-value : goal.returns-clause-value
unfolding value chain reached
returns-clause-value g c = λ i below.
    let few : i < 265 = omega (arith, few_chains c.args.key.now.params.ots) in
    let from : slice_index (replicate 265 255) i ≡ 255 = get_or-replicate 265 i 255 0 few in
    let count : slice_index (replicate 265 1) i ≡ 1 = get_or-replicate 265 i 1 0 few in
    let seed : slice_index_or (replicate 265 c.args.key.now.seed) i [] ≡ c.args.key.now.seed = get_or-replicate 265 i _ [] few in
    rw (from, count, seed) at (c.all_chains.ensures.value i (omega arith))

pub returns-clause-cost : goal.returns-clause-cost
returns-clause-cost g c =
    let n = chains c.args.key.now.params.ots in
    let counts = slice_index (replicate 265 1) in
    let all : longest_by_eights counts n 1 ≡ n =
    longest_ones counts n (λ i below. get_or-replicate 265 i 1 0 (omega (arith, few_chains c.args.key.now.params.ots)))
    in
    rw (c.chains.ensures, all) at c.all_chains.ensures.cost

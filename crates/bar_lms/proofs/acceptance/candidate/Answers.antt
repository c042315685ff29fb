use Rattle.std.proofs.Common.{◌≡◌, ◌+◌, ◌*◌, ◌^◌, ◌%◌, take, drop, arith}
use Rattle.std.proofs.lemmas.List.{take_rest}
use Rattle.bar_lms.specs.Params.{levels, chains, last}
use Rattle.bar_lms.specs.Chains.{joined, steps_left, message_hash, one_time_key}
use Rattle.bar_lms.specs.Code.Order.{longest_by_eights}
use Rattle.bar_lms.specs.Tree.{climb, leaf_node}
use Rattle.bar_lms.specs.Signature.{candidate, candidate_steps, hash_at, end_at}
use Rattle.bar_lms.proofs.DigitLemmas.{level_facts}
use Rattle.bar_lms.proofs.acceptance.candidate.Goals as goal

pub returns-clause-cost : goal.returns-clause-cost
unfolding candidate_steps
returns-clause-cost g c =
    let height = c.key.inside.params.height in
    let ots = c.key.inside.params.ots in
    let left = longest_by_eights (steps_left ots c.message_hash-hash.result) (chains ots) (last ots) in
    let all : c.top.new.steps ≡ c.args.steps.now + (1 + left + 1 + 1 + levels height) = omega arith in
    rw (← c.key.view_is) (rw c.message_hash-hash.ensures.value at all)

pub returns-clause-value : goal.returns-clause-value
unfolding candidate
returns-clause-value g c =
    let ident = c.key.inside.ident in
    let height = c.key.inside.params.height in
    let ots = c.key.inside.params.ots in
    let sig = c.args.sig.now in
    let hash : c.message_hash-hash.result ≡ message_hash ident c.args.q (take 32 (drop 8 sig)) c.args.message.now =
    c.message_hash-hash.ensures.value
    in
    let ends = joined (end_at ident c.args.q ots c.message_hash-hash.result (drop 40 sig)) (chains ots) in
    let key : c.key_of_ends-one_time_key.result ≡ one_time_key ident c.args.q ends
    = rw (take_rest sig 40) at c.key_of_ends-one_time_key.ensures.value
    in
    let leaves = (level_facts height).leaves in
    let r = 2 ^ levels height + c.args.q in
    let number : 1 * 2 ^ c.levels.result % 2 ^ 32 + c.args.q ≡ r = rw c.levels.ensures (omega arith) in
    let leaf : c.leaf_node-leaf.result ≡ leaf_node ident r c.key_of_ends-one_time_key.result
    = rw number at c.leaf_node-leaf.ensures.value
    in
    let top : c.top.result ≡ climb ident (hash_at (drop (44 + 32 * chains ots) sig)) r c.leaf_node-leaf.result (levels height)
    = rw (take_rest sig (44 + 32 * c.chains.result), c.chains.ensures) at c.top.ensures.value
    in
    rw (← c.key.view_is) (rw (leaf, key, hash) at top)

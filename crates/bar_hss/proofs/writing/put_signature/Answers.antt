use Rattle.std.proofs.Common.{◌≡◌, ◌∙◌, ◌+◌, ◌++◌, take, drop, sym}
use Rattle.std.proofs.Math.Seq.{take-append-add, drop-append-add}
use Rattle.bar_lms.specs.Params.{signature_len}
use Rattle.bar_lms.specs.Tree.{private_by}
use Rattle.bar_lms.specs.Signature.{signature}
use Rattle.bar_hss.proofs.writing.put_signature.Goals as goal

pub returns-clause-grown : goal.returns-clause-grown
returns-clause-grown c =
    let split = c.split_at_mut-before.ensures in
    let front = c.split_at_mut-before.result.0.now in
    let n = signature_len c.args.params in
    let value : take n c.sign_tree_at.new.out ≡ signature (private_by c.args.params c.args.seed.now c.args.ident.now) c.args.leaf c.args.randomizer.now c.args.message.now
    = rw c.sign_tree_at.ensures.length at c.sign_tree_at.ensures.value in
    (λ i. take (sym split.front_len i + n) (front ++ c.sign_tree_at.new.out))
    ∙ take-append-add front c.sign_tree_at.new.out n
    ∙ (λ i. split.front i ++ value i)

pub returns-clause-rest : goal.returns-clause-rest
returns-clause-rest c =
    let split = c.split_at_mut-before.ensures in
    let front = c.split_at_mut-before.result.0.now in
    let back = c.split_at_mut-before.result.1.now in
    let n = signature_len c.args.params in
    let rest : drop n c.sign_tree_at.new.out ≡ drop n back = rw c.sign_tree_at.ensures.length at c.sign_tree_at.ensures.rest in
    (λ i. drop (sym split.front_len i + n) (front ++ c.sign_tree_at.new.out))
    ∙ drop-append-add front c.sign_tree_at.new.out n
    ∙ rest
    ∙ sym (drop-append-add front back n)
    ∙ (λ i. drop (split.front_len i + n) (sym split.value i))

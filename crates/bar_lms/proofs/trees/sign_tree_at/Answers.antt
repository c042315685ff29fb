use Rattle.std.proofs.Common.{◌≡◌, true, subst, take}
use Rattle.bar_lms.specs.declared.private.Private.{Private}
use Rattle.bar_lms.specs.Acceptance.{is_accepted_under}
use Rattle.bar_lms.specs.Params.{levels}
use Rattle.bar_lms.specs.Signature.{key_bytes, public_of}
use Rattle.bar_lms.proofs.Decided.{tree_accepts}
use Rattle.bar_lms.proofs.TreeFill.{root_level}
use Rattle.bar_lms.proofs.trees.sign_tree_at.Goals as goal

pub returns-clause-accepted_under : goal.returns-clause-accepted_under
returns-clause-accepted_under c =
    let h = levels c.args.params.height in
    let message = c.args.message.now in
    let sig = take c.sign_from.result c.sign_from.new.out in
    rw (c.requires.tree h 1 (root_level h))
    (subst (λ (t : Private). is_accepted_under t.params (key_bytes (public_of t)) message sig ≡ true) c.private_by-key.ensures.value
    (tree_accepts c.private_by-key.result message sig c.private_by-key.ensures.name c.sign_from.ensures.accepted))

use Rattle.std.proofs.Common.{◌≡◌, arith, ◌∙◌}
use Rattle.std.proofs.lemmas.List.{append_assoc, append-nil}
use Rattle.bar_lms.specs.Chains.{joined}
use Rattle.bar_lms.proofs.TreeLemmas.{joined_more}
use Rattle.bar_lms.proofs.acceptance.add_row.Goals as goal

pub hashes-init : goal.hashes-init
unfolding joined
hashes-init c = λ m f held each. rw append-nil held

pub hashes-preserved : goal.hashes-preserved
hashes-preserved c = λ m f held each.
    let end : c.as_slice.result.now ≡ f c.hashes.i = c.as_slice.ensures ∙ each c.hashes.i (omega arith) in
    rw (joined_more f c.hashes.i, ← append_assoc, ← end) (c.update.ensures _ (c.hashes.invariant m f held each))

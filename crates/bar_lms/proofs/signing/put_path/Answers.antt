use Rattle.std.proofs.Common.{◌+◌, ◌*◌, ◌^◌, take, arith, refl, ◌∙◌}
use Rattle.bar_lms.specs.Params.{levels}
use Rattle.bar_lms.specs.Signature.{sibling_at}
use Rattle.bar_lms.proofs.ListLemmas.{later}
use Rattle.bar_lms.proofs.TreeLemmas.{halved}
use Rattle.bar_lms.proofs.SignLemmas.{row_none, row_more, sibling_level, way_between}
use Rattle.bar_lms.proofs.DigitLemmas.{level_facts}
use Rattle.bar_lms.proofs.signing.put_path.Goals as goal

pub path-init : goal.path-init
path-init c = record {
  number = rw c.leaves.ensures.value (omega arith);
  rest = refl;
  written = row_none c.args.out.now (sibling_at c.args.key.now c.args.q) c.args.at;
}

pub path-preserved : goal.path-preserved
unfolding sibling_at
path-preserved c = record {
  number = rw c.path.invariant.number (halved (2 ^ levels c.args.key.now.params.height + c.args.q) c.path.level);
  rest =
      later c.path.out c.put_hash.new.out (c.args.at + 32 * c.path.level + 32) (c.args.at + 32 * levels c.args.key.now.params.height) c.put_hash.ensures.rest (omega arith)
      ∙ c.path.invariant.rest;
  written =
      let held = c.requires.tree c.path.level _ (sibling_level (levels c.args.key.now.params.height) c.path.level c.args.q (omega arith) c.requires.leaf) in
      row_more c.path.out c.put_hash.new.out (take c.args.at c.args.out.now) _ (sibling_at c.args.key.now c.args.q) c.args.at c.path.level
      c.path.invariant.written c.put_hash.ensures.grown (rw (c.sibling.ensures, c.path.invariant.number) held);
}

pub sibling-requires : goal.sibling-requires
sibling-requires c =
    let h = levels c.args.key.now.params.height in
    let between = way_between h c.path.level c.args.q (omega arith) c.requires.leaf in
    let leaves = (level_facts c.args.key.now.params.height).leaves in
    let number = c.path.invariant.number in
    (omega arith, omega arith)

use Rattle.std.proofs.Common.{◌≡◌, ◌+◌, ◌%◌, ◌^◌, arith, refl}
use Rattle.bar_lms.specs.Params.{levels}
use Rattle.bar_lms.specs.Tree.{climb}
use Rattle.bar_lms.specs.Signature.{hash_at}
use Rattle.bar_lms.proofs.DigitLemmas.{level_facts}
use Rattle.bar_lms.proofs.TreeLemmas.{halved, climb_left, climb_right}
use Rattle.bar_lms.proofs.acceptance.top.Goals as goal
use Rattle.bar_lms.proofs.acceptance.top.Goals.{then-r-eq0, else-r-eq0}

pub path-init : goal.path-init
unfolding climb
path-init g c = record {
  number = let leaves = (level_facts c.args.height).leaves in rw c.levels-levels.ensures (omega arith);
  below = refl;
  cost = omega arith;
}

pub path-preserved : goal.path-preserved
path-preserved g c =
    let ident = c.args.ident.now in
    let path = hash_at c.args.path.now in
    let leaf = 2 ^ levels c.args.height + c.args.q in
    record {
      number = rw c.path.invariant.number (halved leaf c.path.level);
      below = elim c.if-r-eq0.branch [
        | then-r-eq0 w ↦
            let more = climb_left ident path leaf c.args.leaf c.path.level c.path.r c.path.invariant.number w.if-r-eq0.true in
            cc (more, w.parent-below.ensures.value, w.below-is, c.hash_at-beside.ensures.value, c.path.invariant.below)
        | else-r-eq0 w ↦
            let odd : c.path.r % 2 ≡ 1 = omega (arith, w.if-r-eq0.false) in
            let more = climb_right ident path leaf c.args.leaf c.path.level c.path.r c.path.invariant.number odd in
            cc (more, w.parent-below-else-r-eq0.ensures.value, w.below-is, c.hash_at-beside.ensures.value, c.path.invariant.below)
      ];
      cost = elim c.if-r-eq0.branch [ then-r-eq0 w ↦ omega arith | else-r-eq0 w ↦ omega arith ];
    }

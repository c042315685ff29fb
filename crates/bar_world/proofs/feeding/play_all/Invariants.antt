use Rattle.std.proofs.Common.{◌≡◌, ◌++◌, List, length}
use Rattle.std.specs.List.{concat}
use Rattle.bar_wire.specs.Inputs.{Input}
use Rattle.bar_core.specs.Code.Face.{Keeps}
use Rattle.bar_core.specs.Rules.{Send}
use Rattle.bar_world.proofs.feeding.play_all.Given as goal

-- the contents played so far, followed by those that are left, are the same as at the start
abbrev pub invariant-contents : goal.invariant-contents
invariant-contents g l =
    let face = g.C.Core.face in
    record {
      keeps : Keeps (g.C.Core.stands l.fn.core) (g.C.Core.stands l.core) (face l.fn.core) (face l.core);
      left : (face l.core).left ≡ (face l.fn.core).left;
      owes : (inputs : List Input) (sends : List Send) → g.C.Core.owes l.fn.core inputs sends → g.C.Core.owes l.core inputs sends;
      contents : l.played.items ++ concat (face l.core).plays ≡ l.fn.played.items ++ concat (face l.fn.core).plays;
    }

abbrev pub decreases-contents : goal.decreases-contents
decreases-contents g l = length (g.C.Core.face l.core).plays

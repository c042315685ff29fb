use Rattle.std.proofs.Common.{◌≡◌, ◌++◌, List}
use Rattle.bar_wire.specs.Inputs.{Input}
use Rattle.bar_core.specs.Code.Face.{Keeps}
use Rattle.bar_core.specs.Rules.{Send}
use Rattle.bar_world.specs.Code.Packets.{packets_of}
use Rattle.bar_world.proofs.feeding.send_all.Given as goal

-- the packets so far, followed by those that are left, are the same as at the start
abbrev pub invariant-datagrams : goal.invariant-datagrams
invariant-datagrams g l =
    let face = g.C.Core.face in
    record {
      keeps : Keeps (g.C.Core.stands l.fn.core) (g.C.Core.stands l.core) (face l.fn.core) (face l.core);
      plays : (face l.core).plays ≡ (face l.fn.core).plays;
      packets :
          (inputs : List Input) (sends : List Send) → g.C.Core.stands l.fn.core inputs → g.C.Core.owes l.fn.core inputs sends
          → (rest : List Send) × g.C.Core.owes l.core inputs rest
          × (packets_of l.pool.items ++ rest ≡ packets_of l.fn.pool.items ++ sends);
    }

abbrev pub decreases-datagrams : goal.decreases-datagrams
decreases-datagrams g l = (g.C.Core.face l.core).left

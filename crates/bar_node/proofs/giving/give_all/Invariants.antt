use Rattle.std.proofs.Common.{Ok}
use Rattle.std.specs.List.{flat_map}
use Rattle.bar_outside.specs.Plan.{Outside}
use Rattle.bar_outside.specs.Code.Follows.{Follows}
use Rattle.bar_node.proofs.GivingOut.{Sending}
use Rattle.bar_node.proofs.giving.give_all.Given as goal

-- some datagrams were given out
abbrev pub invariant-datagrams : goal.invariant-datagrams
invariant-datagrams g l =
    Sending (g.C.Core.stands l.fn.core) (g.C.Core.stands l.core) (g.C.Core.owes l.fn.core) (g.C.Core.owes l.core)
    (g.C.Core.face l.fn.core) (g.C.Core.face l.core) l.count
    (λ done. (w : Outside) → Follows {T = Unit {0}} (flat_map (g.O.Outlet.given l.number) done)
    (g.O.Outlet.placed w l.fn.target) (g.O.Outlet.placed w l.target) (Ok tt))

abbrev pub decreases-datagrams : goal.decreases-datagrams
decreases-datagrams g l = (g.C.Core.face l.core).left

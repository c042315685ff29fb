use Rattle.std.proofs.Common.{length, Ok}
use Rattle.std.specs.List.{flat_map}
use Rattle.std.specs.Option.{option_copied}
use Rattle.bar_outside.specs.Disk.{Content}
use Rattle.bar_outside.specs.Plan.{Outside, with_files}
use Rattle.bar_outside.specs.Code.Follows.{Follows}
use Rattle.bar_node.specs.Code.Turns.{kept}
use Rattle.bar_node.proofs.GivingOut.{Playing}
use Rattle.bar_node.proofs.giving.play_all.Given as goal

-- some contents were played
abbrev pub invariant-contents : goal.invariant-contents
invariant-contents g l =
    Playing (g.C.Core.stands l.fn.core) (g.C.Core.stands l.core) (g.C.Core.owes l.fn.core) (g.C.Core.owes l.core)
    (g.C.Core.face l.fn.core) (g.C.Core.face l.core) l.count
    (λ done. (w : Outside) (was : Content) → Follows {T = Unit {0}} (flat_map (kept (option_copied l.played)) done)
    (with_files w (g.F.Files.disk l.fn.files was)) (with_files w (g.F.Files.disk l.files was)) (Ok tt))

abbrev pub decreases-contents : goal.decreases-contents
decreases-contents g l = length (g.C.Core.face l.core).plays

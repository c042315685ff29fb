use Rattle.std.proofs.Common.{subst}
use Rattle.bar_peer.specs.Code.Giving.{IsOrderDue}
use Rattle.bar_peer.specs.Code.Memory.{member_of}
use Rattle.bar_peer.proofs.peer.Peer.kept_case.Goals as goal

pub returns : goal.returns
returns g c case some k d memory due =
    let p = c.args.self.now in
    p.kept c.in_ok-x.x case (c.get.ensures case some) k d memory
    (subst (λ o. IsOrderDue (member_of p.memory.who) k o d) c.in_ok-x.ensures due)

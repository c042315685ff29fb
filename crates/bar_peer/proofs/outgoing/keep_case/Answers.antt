use Rattle.std.proofs.Common.{◌≡◌, ◌∙◌, sym, subst, take}
use Rattle.bar_peer.specs.Code.Giving.{IsOrderDue}
use Rattle.bar_peer.specs.Code.Memory.{member_of}
use Rattle.bar_peer.proofs.Giving.Kept.{kept_more}
use Rattle.bar_peer.proofs.outgoing.keep_case.Goals as goal

pub returns : goal.returns
returns c =
    let m = c.args.memory.now in
    let is = c.in-Some.ensures in
    let front : c.split_at.result.0.now ≡ take c.args.len c.args.buf.now = search in
    kept_more m c.args.cases.now c.keep.new.self c.in-Some.x c.split_at.result.0.now c.requires.cases c.keep.ensures
    (λ k d memory due.
    front ∙ (c.requires.given k d memory (subst (λ o. IsOrderDue (member_of m.who) k o d) (sym is) due)).0)

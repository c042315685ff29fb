use Rattle.std.proofs.Common.{◌∙◌, sym}
use Rattle.bar_ledger.specs.Code.Lookups.{said_in}
use Rattle.bar_rules.specs.Peer.Exchanges.{role_of}
use Rattle.bar_peer.specs.Code.Memory.{member_of}
use Rattle.bar_peer.proofs.Orders.CarryingOut.{other_kinds}
use Rattle.bar_peer.proofs.memory.Memory.may_repeat.Goals as goal

pub returns-in_default : goal.returns-in_default
returns-in_default c k h recent =
    let me = member_of c.args.self.now.who in
    c.has_said.ensures
    ∙ (λ i. said_in c.args.self.now.ledger c.args.say.kind c.args.say.x (c.side.ensures me k h.ledger i))
    ∙ sym (h.ledger.said c.args.say.kind c.args.say.x (role_of me c.args.say.x) recent)
    ∙ other_kinds me k c.args.say.kind c.args.say.x c.in_default.not-Divulge c.in_default.not-KeyReq

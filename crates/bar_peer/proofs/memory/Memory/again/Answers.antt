use Rattle.std.proofs.Common.{◌≡◌, ◌∙◌, false, not, sym}
use Rattle.bar_window.specs.declared.exchange.Exchange.{Exchange}
use Rattle.bar_rules.specs.Member.{Member}
use Rattle.bar_rules.specs.Peer.Exchanges.{partner_in}
use Rattle.bar_rules.specs.Peer.Replies.{orders_when}
use Rattle.bar_rules.specs.Peer.Ticks.{again}
use Rattle.bar_peer.specs.Code.Evictions.{is_named}
use Rattle.bar_peer.specs.Code.Memory.{member_of}
use Rattle.bar_peer.proofs.memory.Memory.again.Goals as goal

pub returns : goal.returns
returns c = λ k h.
    let me : Member = member_of c.args.self.now.who in
    let x : Exchange = c.args.x in
    let kept : k.is_announced (partner_in me x) ≡ false =
    h.announced (partner_in me x)
    ∙ (λ i. is_named c.args.self.now.evictions (sym c.partner_in.ensures i))
    ∙ sym c.is_named.ensures
    ∙ c.if-is_named.false
    in
    c.again.ensures me k c.args.self.now.who.is_member h.ledger ∙ (λ i. orders_when (not (sym kept i)) (again me k x))

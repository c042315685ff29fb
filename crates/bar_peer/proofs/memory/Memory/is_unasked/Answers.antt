use Rattle.std.proofs.Common.{◌≡◌, ◌∙◌, true, false, ◌||◌, sym, ap}
use Rattle.bar_session.specs.Time.{round_after}
use Rattle.bar_rules.specs.Member.{Member}
use Rattle.bar_rules.specs.Peer.Debts.{owes}
use Rattle.bar_rules.specs.Peer.Knowledge.{this_round}
use Rattle.bar_peer.specs.Code.Memory.{member_of}
use Rattle.bar_peer.proofs.memory.Memory.is_unasked.Goals as goal

pub returns-then-is_named : goal.returns-then-is_named
returns-then-is_named c = λ k h.
    let me : Member = member_of c.args.self.now.who in
    let named : k.is_announced c.args.party ≡ true = h.announced c.args.party ∙ sym c.is_named.ensures ∙ c.if-is_named.true in
    λ i. sym named i || owes me k c.args.party

pub returns : goal.returns
returns c = λ k h.
    let me : Member = member_of c.args.self.now.who in
    let now : c.round.result ≡ this_round k = c.round.ensures ∙ ap round_after (sym h.time) in
    let kept : k.is_announced c.args.party ≡ false = h.announced c.args.party ∙ sym c.is_named.ensures ∙ c.if-is_named.false in
    c.owes.ensures.owes me k h.ledger now ∙ (λ i. sym kept i || owes me k c.args.party)

use Rattle.std.proofs.Common.{◌∙◌, sym, ap}
use Rattle.bar_rules.specs.Peer.Replies.{is_trade_worth}
use Rattle.bar_exchange.proofs.Terms.{complete_is}
use Rattle.bar_balanced.proofs.worth.is_worth.Goals as goal

pub returns-then-entry : goal.returns-then-entry
returns-then-entry c me k h recent =
    let full = complete_is me k c.args.ledger.now c.args.x c.in-Some.entry.now h recent c.in-Some.ensures.entry c.if-entry.true in
    c.are_worth.ensures me.session c.args.x.round (c.cap.ensures ∙ h.cap) full.windows
    ∙ ap (is_trade_worth me.session) (sym full.terms)

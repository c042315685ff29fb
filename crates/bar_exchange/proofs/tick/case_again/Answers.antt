use Rattle.std.proofs.Common.{◌∙◌, [], ◌∷◌, ◌++◌, is_some, sym, ap}
use Rattle.bar_wire.specs.declared.kind.Kind.TheVariants as kinds
use Rattle.bar_rules.specs.Peer.Orders.{Resend}
use Rattle.bar_rules.specs.Peer.Ticks.{reveals}
use Rattle.bar_ledger.specs.Code.Lookups.{heard_in}
use Rattle.bar_exchange.proofs.CasesAgain.{case_recent, partner_heard, with_key_request, without_key_request}
use Rattle.bar_exchange.proofs.tick.case_again.Goals as goal

pub returns-then-not-has_heard : goal.returns-then-not-has_heard
returns-then-not-has_heard c me k member h lacks =
    let x = c.args.x in
    let own = c.side-role.ensures me k h in
    let is = c.has_heard.ensures ∙ ap (λ role. is_some (heard_in c.args.ledger.now kinds.Case x role)) c.other.ensures in
    let known = partner_heard me k c.args.ledger.now kinds.Case x c.side-role.result c.has_heard.result h (case_recent me k x member lacks) own is in
    c.case_revealed.ensures
    ∙ ap (λ role. reveals x.kind role x ++ Resend kinds.Case x ∷ []) own
    ∙ sym (without_key_request me k x member lacks (sym known ∙ c.if-not-has_heard.true))

pub returns : goal.returns
returns c me k member h lacks =
    let x = c.args.x in
    let is = c.has_heard.ensures ∙ ap (λ role. is_some (heard_in c.args.ledger.now kinds.Case x role)) c.other.ensures in
    let known =
    partner_heard me k c.args.ledger.now kinds.Case x c.side-role.result c.has_heard.result h (case_recent me k x member lacks) (c.side-role.ensures me k h) is
    in
    sym (with_key_request me k x member lacks (sym known ∙ c.if-not-has_heard.false))

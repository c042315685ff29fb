use Rattle.std.proofs.Common.{◌∙◌, Some, sym, ap}
use Rattle.std.specs.Prelude.{option_and_then, option_map}
use Rattle.bar_window.specs.declared.terms.Terms.{Terms}
use Rattle.bar_window.specs.Terms.{plain_terms}
use Rattle.bar_window.specs.Code.Window.{members}
use Rattle.bar_ledger.specs.Code.Lookups.{knows_offer, offer_of}
use Rattle.bar_exchange.proofs.Knowing.{is_known}
use Rattle.bar_push.proofs.known.offered.Goals as goal

pub returns-in_err-young-clause-known : goal.returns-in_err-young-clause-known
returns-in_err-young-clause-known c me k tells recent =
    ap (option_map (λ q. (members q.0, members q.1))) c.from_residual.ensures
    ∙ sym (tells.recalls.offers c.args.x recent
    ∙ is_known knows_offer offer_of c.args.sources.now.ledger.now c.args.x c.knows_offer.result c.kept_terms.result c.knows_offer.ensures c.if-not-knows_offer.false
    (c.kept_terms.ensures.kept me k tells)
    ∙ ap (option_and_then (λ (t : Terms). offer_of (plain_terms t))) c.in_err-young.was)

pub returns-in_default-clause-known : goal.returns-in_default-clause-known
returns-in_default-clause-known c me k tells recent =
    sym (tells.recalls.offers c.args.x recent
    ∙ is_known knows_offer offer_of c.args.sources.now.ledger.now c.args.x c.knows_offer.result c.kept_terms.result c.knows_offer.ensures c.if-not-knows_offer.false
    (c.kept_terms.ensures.kept me k tells)
    ∙ ap (option_and_then (λ (t : Terms). offer_of (plain_terms t))) (c.in_ok-young.was ∙ ap Some c.in_default.is))

pub returns-clause-known : goal.returns-clause-known
returns-clause-known c me k tells recent =
    sym (tells.recalls.offers c.args.x recent
    ∙ is_known knows_offer offer_of c.args.sources.now.ledger.now c.args.x c.knows_offer.result c.kept_terms.result c.knows_offer.ensures c.if-not-knows_offer.false
    (c.kept_terms.ensures.kept me k tells)
    ∙ ap (option_and_then (λ (t : Terms). offer_of (plain_terms t))) (c.in_ok-young.was ∙ ap Some c.in-Push.is))

use Rattle.std.proofs.Common.{◌∙◌, Some, sym, ap}
use Rattle.std.specs.Prelude.{option_and_then, option_map}
use Rattle.bar_window.specs.declared.terms.Terms.{Terms}
use Rattle.bar_window.specs.Terms.{plain_terms}
use Rattle.bar_window.specs.Code.Window.{members}
use Rattle.bar_ledger.specs.Code.Lookups.{knows_answer, reply_of}
use Rattle.bar_exchange.proofs.Knowing.{is_known}
use Rattle.bar_push.proofs.known.replied.Goals as goal

pub returns-in_err-want-clause-known : goal.returns-in_err-want-clause-known
returns-in_err-want-clause-known c me k tells recent =
    ap (option_map (λ a. (members a.want, members a.give, a.junk))) c.from_residual.ensures
    ∙ sym (tells.recalls.replies c.args.x recent
    ∙ is_known knows_answer reply_of c.args.sources.now.ledger.now c.args.x c.knows_answer.result c.kept_terms.result c.knows_answer.ensures c.if-not-knows_answer.false
    (c.kept_terms.ensures.kept me k tells)
    ∙ ap (option_and_then (λ (t : Terms). reply_of (plain_terms t))) c.in_err-want.was)

pub returns-in_default-clause-known : goal.returns-in_default-clause-known
returns-in_default-clause-known c me k tells recent =
    sym (tells.recalls.replies c.args.x recent
    ∙ is_known knows_answer reply_of c.args.sources.now.ledger.now c.args.x c.knows_answer.result c.kept_terms.result c.knows_answer.ensures c.if-not-knows_answer.false
    (c.kept_terms.ensures.kept me k tells)
    ∙ ap (option_and_then (λ (t : Terms). reply_of (plain_terms t))) (c.in_ok-want.was ∙ ap Some c.in_default.is))

pub returns-clause-known : goal.returns-clause-known
returns-clause-known c me k tells recent =
    sym (tells.recalls.replies c.args.x recent
    ∙ is_known knows_answer reply_of c.args.sources.now.ledger.now c.args.x c.knows_answer.result c.kept_terms.result c.knows_answer.ensures c.if-not-knows_answer.false
    (c.kept_terms.ensures.kept me k tells)
    ∙ ap (option_and_then (λ (t : Terms). reply_of (plain_terms t))) (c.in_ok-want.was ∙ ap Some c.in-Push.is))

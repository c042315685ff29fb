use Rattle.std.proofs.Common.{◌∙◌, Some, sym, ap}
use Rattle.std.specs.Prelude.{option_and_then, option_map}
use Rattle.bar_window.specs.declared.terms.Terms.{Terms}
use Rattle.bar_window.specs.Terms.{plain_terms}
use Rattle.bar_window.specs.Code.Window.{members}
use Rattle.bar_ledger.specs.Code.Lookups.{knows_commit, commit_of}
use Rattle.bar_exchange.proofs.Knowing.{is_known}
use Rattle.bar_balanced.proofs.known.revealed.Goals as goal

pub returns-in_err-nonce-clause-known : goal.returns-in_err-nonce-clause-known
returns-in_err-nonce-clause-known c me k tells recent =
    ap (option_map (λ c. (c.0, members c.1))) c.from_residual.ensures
    ∙ sym (tells.recalls.revealed c.args.x recent
    ∙ is_known knows_commit commit_of c.args.sources.now.ledger.now c.args.x c.knows_commit.result c.kept_terms.result c.knows_commit.ensures c.if-not-knows_commit.false
    (c.kept_terms.ensures.kept me k tells)
    ∙ ap (option_and_then (λ (t : Terms). commit_of (plain_terms t))) c.in_err-nonce.was)

pub returns-in_default-clause-known : goal.returns-in_default-clause-known
returns-in_default-clause-known c me k tells recent =
    sym (tells.recalls.revealed c.args.x recent
    ∙ is_known knows_commit commit_of c.args.sources.now.ledger.now c.args.x c.knows_commit.result c.kept_terms.result c.knows_commit.ensures c.if-not-knows_commit.false
    (c.kept_terms.ensures.kept me k tells)
    ∙ ap (option_and_then (λ (t : Terms). commit_of (plain_terms t))) (c.in_ok-nonce.was ∙ ap Some c.in_default.is))

pub returns-clause-known : goal.returns-clause-known
returns-clause-known c me k tells recent =
    sym (tells.recalls.revealed c.args.x recent
    ∙ is_known knows_commit commit_of c.args.sources.now.ledger.now c.args.x c.knows_commit.result c.kept_terms.result c.knows_commit.ensures c.if-not-knows_commit.false
    (c.kept_terms.ensures.kept me k tells)
    ∙ ap (option_and_then (λ (t : Terms). commit_of (plain_terms t))) (c.in_ok-nonce.was ∙ ap Some c.in-Balanced.is))

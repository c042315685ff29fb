use Rattle.std.proofs.Common.{◌≡◌, ◌∙◌, Bool, true, false, Option, Some, None, if◌then◌else◌, refl, sym}
use Rattle.std.specs.Prelude.{option_map, option_and_then}
use Rattle.std.specs.Bool.{then_some}
use Rattle.bar_window.specs.declared.terms.Terms.{Terms as WindowTerms}
use Rattle.bar_window.specs.Terms.{plain_terms}
use Rattle.bar_ledger.specs.Code.Kept.{Kept}
use Rattle.bar_ledger.specs.Code.Lookups.{complete_by, if_known}
use Rattle.bar_ledger.specs.Code.Memory.{find_in}
use Rattle.bar_ledger.specs.Code.Recalls.{complete_terms}
use Rattle.bar_exchange.proofs.Knowing.{is_known}
use Rattle.bar_exchange.proofs.sealing.complete_terms.Goals as goal

plain_of : (o : Option WindowTerms) → option_map plain_terms o ≡ option_and_then (λ t. Some (plain_terms t)) o
plain_of (Some t) = refl
plain_of None = refl

terms_are : (o : Option Kept) → option_and_then complete_terms o ≡ option_and_then (λ kept. if_known (complete_by kept.entry.role kept) Some kept) o
terms_are None = refl
terms_are (Some kept) = whole kept.entry.complete
  where
    whole : (b : Bool) → then_some b (plain_terms kept.entry.terms) ≡ (if b then Some (plain_terms kept.entry.terms) else None)
    whole true = refl
    whole false = refl

pub returns-clause-known : goal.returns-clause-known
returns-clause-known c me k tells recent =
    plain_of c.kept_terms.result
    ∙ sym (tells.recalls.terms c.args.x recent
    ∙ terms_are (find_in c.args.sources.now.ledger.now c.args.x)
    ∙ is_known complete_by Some c.args.sources.now.ledger.now c.args.x c.is_complete.result c.kept_terms.result c.is_complete.ensures
    c.if-not-is_complete.false (c.kept_terms.ensures.kept me k tells))

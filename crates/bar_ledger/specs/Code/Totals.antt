-- What was promised, received and opened, from the kept state of an exchange.
use Rattle.std.specs.Prelude.{◌≡◌, ℕ, Bool, true, length, is_some, if◌then◌else◌}
use Rattle.bar_window.specs.declared.exchange.Role.{Role}
use Rattle.bar_window.specs.declared.terms.Terms.{Terms as WindowTerms}
use Rattle.bar_window.specs.Exchange.{other_role}
use Rattle.bar_window.specs.Terms.{plain_terms}
use Rattle.bar_terms.specs.Terms.{promise, can_promise}
use Rattle.bar_terms.specs.Code.Windows.{AreAligned}
use Rattle.bar_ledger.specs.declared.totals.Totals.{Totals}
use Rattle.bar_ledger.specs.Code.Kept.{Kept}

-- terms by which each side can promise
pub record AreSound (cap : ℕ) (terms : WindowTerms) : Type 0 where
  pub aligned : AreAligned terms
  pub valid : can_promise cap (plain_terms terms) ≡ true

-- if something was promised or opened, the terms are such
pub record CanTotal (cap : ℕ) (k : Kept) : Type 0 where
  pub said : k.entry.case_said ≡ true → AreSound cap k.entry.terms
  pub heard : is_some k.case ≡ true → AreSound cap k.entry.terms
  pub opened : k.entry.key_said ≡ true → AreSound cap k.entry.terms

abbrev pub size_of : ℕ → Bool → WindowTerms → Role → ℕ
size_of cap promised terms role = if promised then length (promise cap (plain_terms terms) role) else 0

abbrev pub no_totals : Totals
no_totals = record { promised = 0; received = 0; opened = 0 }

abbrev pub totals_by : ℕ → Kept → Totals
totals_by cap k = record {
  promised = size_of cap k.entry.case_said k.entry.terms k.entry.role;
  received = size_of cap (is_some k.case) k.entry.terms (other_role k.entry.role);
  opened = size_of cap k.entry.key_said k.entry.terms k.entry.role;
}

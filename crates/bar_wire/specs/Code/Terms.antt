-- The terms of a case, as they are read.
use Rattle.std.specs.Prelude.{◌≡◌, ℕ, ◌+◌, List, ◌++◌, length, Option, Some, None}
use Rattle.std.specs.List.{concat}
use Rattle.std.specs.Borrow.{Bor}
use Rattle.bar_window.specs.declared.exchange.XKind.{XKind}
use Rattle.bar_window.specs.declared.terms.Terms.{Terms as RawTerms}
use Rattle.bar_window.specs.Terms.{Terms, plain_terms}
use Rattle.bar_window.specs.Exchange.{kind_code}
use Rattle.bar_wire.specs.declared.shape.Shape.{Shape}
use Rattle.bar_wire.specs.Grammar.{term_pieces, HasTermForm, IsRound}
use Rattle.bar_wire.specs.Places.{terms_len}
use Rattle.bar_wire.specs.Code.Views.{AreTermWindows}

-- the bytes begin with the terms, and `left` is the rest
pub record AreTermsAt (s : Shape) (kind : XKind) (round : ℕ) (bytes : List ℕ) (t : RawTerms) (left : List ℕ) : Type 0 where
  pub form : HasTermForm s round kind (plain_terms t)
  pub windows : AreTermWindows s round t
  pub is : bytes ≡ concat (term_pieces s round (plain_terms t)) ++ left
  pub len : length left + terms_len s (kind_code kind) ≡ length bytes

-- if the round is one of the session, the bytes don't begin with terms of the kind
abbrev pub NoTermsAt : Shape → XKind → ℕ → List ℕ → Type 0
NoTermsAt s kind round bytes =
    IsRound s round → (t : Terms) (after : List ℕ) → HasTermForm s round kind t → bytes ≡ concat (term_pieces s round t) ++ after → ⊥

abbrev pub ReadsTerms : Shape → XKind → ℕ → List ℕ → Option (RawTerms × Bor (List ℕ)) → Type 0
ReadsTerms s kind round bytes (Some found) = AreTermsAt s kind round bytes found.0 found.1.now
ReadsTerms s kind round bytes None = NoTermsAt s kind round bytes

-- The terms of an exchange, with windows as sets of updates.
use Rattle.std.specs.Prelude.{ℕ, List}
use Rattle.bar_window.specs.declared.update.UpdateId.{UpdateId}
use Rattle.bar_window.specs.declared.terms.Terms.{Terms as WindowTerms}
use Rattle.bar_window.specs.declared.terms.Terms.TheVariants as raw
use Rattle.bar_window.specs.Code.Window.{members}

pub data Terms : Type 0 where
  -- of a balanced exchange: the initiator's nonce, the initiator's and the responder's history
  Balanced : (nonce : List ℕ) → (ha hb : List UpdateId) → Terms
  -- of a push: the young updates that are offered, the aged ones that are asked for, which of them are wanted and given, and the count of
  -- junk items
  Push : (young aged want give : List UpdateId) → (junk : ℕ) → Terms

-- the terms that a value of the code represents
abbrev pub plain_terms : WindowTerms → Terms
plain_terms (raw.Balanced nonce ha hb) = Balanced nonce (members ha) (members hb)
plain_terms (raw.Push young aged want give junk) = Push (members young) (members aged) (members want) (members give) junk

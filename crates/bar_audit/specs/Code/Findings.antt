-- What an auditor keeps of recordings: what the first CASE of each side of an exchange promises, whose keys were received, and the
-- exchanges of these.
use Rattle.std.specs.Prelude.{◌≡◌, ℕ, ◌==◌, ◌&&◌, ◌||◌, Bool, List, Option, option_map, is_some, IfSome}
use Rattle.std.specs.List.{list_any}
use Rattle.std.specs.Map.{lookup}
use Rattle.bar_window.specs.declared.exchange.Exchange.{Exchange}
use Rattle.bar_window.specs.declared.exchange.Role.{Role}
use Rattle.bar_window.specs.declared.exchange.Role.TheVariants.{Initiator, Responder}
use Rattle.bar_window.specs.Exchange.{same_exchange}
use Rattle.bar_window.specs.Terms.{plain_terms}
use Rattle.bar_wire.specs.Code.Views.{AreTermWindows}
use Rattle.bar_rules.specs.Member.{Session}
use Rattle.bar_audit.specs.declared.findings.Findings.{Findings}
use Rattle.bar_audit.specs.declared.kept.KeptCase.{KeptCase}
use Rattle.bar_audit.specs.declared.side.Side.{Side}
use Rattle.bar_audit.specs.Code.Found.{Promised}
use Rattle.bar_audit.specs.Code.Sides.{is_side, side_at}

abbrev pub plain_case : KeptCase → Promised
plain_case k = record { items = k.items; terms = plain_terms k.terms }

-- what is kept of the CASE of a side
abbrev pub case_at : List (Side × KeptCase) → Side → Option Promised
case_at entries side = option_map plain_case (lookup (is_side side) entries)

-- whether the key of a side is kept as received
abbrev pub has_side : List Side → Side → Bool
has_side sides side = list_any (is_side side) sides

abbrev pub has_exchange : List Exchange → Exchange → Bool
has_exchange xs x = list_any (same_exchange x) xs

-- whether a number is among these
abbrev pub has_number : List ℕ → ℕ → Bool
has_number parties party = list_any (λ p. party == p) parties

-- whether both parties of an exchange are among these
abbrev pub are_given : List ℕ → Exchange → Bool
are_given parties x = has_number parties x.initiator && has_number parties x.responder

-- the windows of the terms of each side are those of its round
abbrev pub AreKeptWindows : Session → List (Side × KeptCase) → Type 0
AreKeptWindows s entries = (side : Side) → IfSome (lookup (is_side side) entries) (λ k. AreTermWindows s.shape side.x.round k.terms)

-- whether something is kept of a side of an exchange
abbrev pub is_kept : Findings → Exchange → Role → Bool
is_kept f x role = is_some (case_at f.cases.entries (side_at x role)) || has_side f.keys.keys (side_at x role)

-- the exchanges are those of which something is kept
abbrev pub KeepsExchanges : Findings → Type 0
KeepsExchanges f = (x : Exchange) → has_exchange f.exchanges.keys x ≡ (is_kept f x Initiator || is_kept f x Responder)

-- Whether an exchange is balanced, by what is kept.
use Rattle.std.specs.Prelude.{◌&&◌, ◌||◌, not, Bool, true, false, Option}
use Rattle.std.specs.Option.{option_map_or}
use Rattle.bar_window.specs.declared.exchange.Exchange.{Exchange}
use Rattle.bar_window.specs.declared.exchange.Role.{Role}
use Rattle.bar_window.specs.declared.exchange.Role.TheVariants.{Initiator, Responder}
use Rattle.bar_window.specs.Exchange.{other_role}
use Rattle.bar_window.specs.Terms.{Terms}
use Rattle.bar_rules.specs.Peer.Admission.{same_terms}
use Rattle.bar_audit.specs.declared.findings.Findings.{Findings}
use Rattle.bar_audit.specs.Code.Findings.{case_at, has_side}
use Rattle.bar_audit.specs.Code.Found.{Promised}
use Rattle.bar_audit.specs.Code.Sides.{side_at}

abbrev pub has_those : Terms → Option Promised → Bool
has_those terms o = option_map_or (λ (p : Promised). same_terms p.terms terms) o true

abbrev pub is_paid_by : Findings → Exchange → Role → Bool
is_paid_by f x role =
    not (has_side f.keys.keys (side_at x role))
    || option_map_or (λ (p : Promised). has_those p.terms (case_at f.cases.entries (side_at x role)))
    (case_at f.cases.entries (side_at x (other_role role))) false

abbrev pub is_balanced_by : Findings → Exchange → Bool
is_balanced_by f x = is_paid_by f x Initiator && is_paid_by f x Responder

-- Whether a side is paid, by what is kept of both.
use Rattle.std.proofs.Common.{◌≡◌, Bool, true, false, List, sym, ap, ◌∙◌, subst, not, ◌||◌}
use Rattle.std.specs.Prelude.{Option, Some, option_map, IfSome}
use Rattle.std.specs.Borrow.{Bor}
use Rattle.std.specs.Map.{lookup}
use Rattle.std.specs.Option.{option_map_or, option_copied}
use Rattle.bar_window.specs.declared.exchange.Exchange.{Exchange}
use Rattle.bar_window.specs.declared.exchange.Role.{Role}
use Rattle.bar_window.specs.Exchange.{other_role}
use Rattle.bar_window.specs.Terms.{plain_terms}
use Rattle.bar_wire.specs.Code.Views.{AreTermWindows}
use Rattle.bar_rules.specs.Member.{Session}
use Rattle.bar_rules.specs.Peer.Admission.{same_terms}
use Rattle.bar_audit.specs.declared.findings.Findings.{Findings}
use Rattle.bar_audit.specs.declared.kept.KeptCase.{KeptCase}
use Rattle.bar_audit.specs.declared.side.Side.{Side}
use Rattle.bar_audit.specs.Code.Balance.{has_those, is_paid_by}
use Rattle.bar_audit.specs.Code.Findings.{plain_case, has_side, AreKeptWindows}
use Rattle.bar_audit.specs.Code.Found.{Promised}
use Rattle.bar_audit.specs.Code.Sides.{is_side, side_at}

-- what a look-up returned
pub looked-up : (r : Option (Bor KeptCase)) (o : Option KeptCase) (k : Bor KeptCase) → option_copied r ≡ o → r ≡ Some k → o ≡ Some k.now
looked-up r o k is e = sym is ∙ ap option_copied e

pub windows-of : (s : Session) (entries : List (Side × KeptCase)) (side : Side) (k : KeptCase) → AreKeptWindows s entries
    → lookup (is_side side) entries ≡ Some k → AreTermWindows s.shape side.x.round k.terms
windows-of s entries side k windows e = subst (λ o. IfSome o (λ (k : KeptCase). AreTermWindows s.shape side.x.round k.terms)) e (windows side)

pub both-paid : (f : Findings) (x : Exchange) (role : Role) (ours theirs : KeptCase) (b : Bool)
    → has_side f.keys.keys (side_at x role) ≡ true → lookup (is_side (side_at x role)) f.cases.entries ≡ Some ours
    → lookup (is_side (side_at x (other_role role))) f.cases.entries ≡ Some theirs
    → b ≡ same_terms (plain_terms ours.terms) (plain_terms theirs.terms) → b ≡ is_paid_by f x role
both-paid f x role ours theirs b key own other same =
    same ∙ sym (λ i.
    not (key i) || option_map_or (λ (p : Promised). has_those p.terms (option_map plain_case (own i))) (option_map plain_case (other i)) false)

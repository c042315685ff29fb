-- Whether exchanges are balanced, by what an auditor keeps.
use Rattle.std.proofs.Common.{◌≡◌, false, List, refl, ap, ◌∙◌, not, ◌&&◌, ◌||◌}
use Rattle.std.specs.Prelude.{Option, Some, None, option_map, find}
use Rattle.std.specs.Option.{option_map_or}
use Rattle.bar_window.specs.declared.exchange.Exchange.{Exchange}
use Rattle.bar_window.specs.declared.exchange.Role.{Role}
use Rattle.bar_window.specs.declared.exchange.Role.TheVariants.{Initiator, Responder}
use Rattle.bar_window.specs.Exchange.{other_role}
use Rattle.bar_wire.specs.Datagram.{Briefcase}
use Rattle.bar_rules.specs.Member.{Session}
use Rattle.bar_audit.specs.declared.audit.Audit.{Audit}
use Rattle.bar_audit.specs.Audits.{Audits}
use Rattle.bar_audit.specs.Code.Balance.{has_those, is_paid_by, is_balanced_by}
use Rattle.bar_audit.specs.Exchanges.{has_terms, is_paid, unbalanced}
use Rattle.bar_audit.specs.Code.Found.{Promised, promised_by, case_from, has_key_from}
use Rattle.bar_audit.specs.Recordings.{Recording}

paid-is : (s : Session) (recordings : List Recording) (a : Audit) → Audits s recordings a → (x : Exchange) (role : Role)
    → is_paid_by a.found x role ≡ is_paid s recordings x role
paid-is s recordings a at x role =
    (λ i. not (at.keys x role i) || option_map_or (λ (p : Promised). has_those p.terms (at.cases x role i)) (at.cases x (other_role role) i) false)
    ∙ ap (λ z. not (has_key_from s recordings x role) || z) (terms (case_from s recordings x role) (case_from s recordings x (other_role role)))
  where
    own : (c : Briefcase) (o : Option Briefcase) → has_those c.terms (option_map (promised_by s) o) ≡ has_terms c.terms o
    own c None = refl
    own c (Some d) = refl

    terms : (o p : Option Briefcase)
        → option_map_or (λ (q : Promised). has_those q.terms (option_map (promised_by s) o)) (option_map (promised_by s) p) false
        ≡ option_map_or (λ (c : Briefcase). has_terms c.terms o) p false
    terms o None = refl
    terms o (Some c) = own c o

pub unbalanced-is : (s : Session) (recordings : List Recording) (a : Audit) → Audits s recordings a
    → find (λ x. not (is_balanced_by a.found x)) a.recorded.items ≡ unbalanced s recordings a.recorded.items
unbalanced-is s recordings a at =
    λ i. find (λ x. not (paid-is s recordings a at x Initiator i && paid-is s recordings a at x Responder i)) a.recorded.items

-- The exchanges of which something is kept, after one more side is kept.
use Rattle.std.proofs.Common.{◌≡◌, Bool, true, false, List, refl, sym, ap, ◌∙◌, cond, ◌||◌, ◌&&◌}
use Rattle.std.specs.Prelude.{Option, Some, option_map, is_some}
use Rattle.std.specs.Map.{lookup}
use Rattle.bar_window.specs.declared.exchange.Exchange.{Exchange}
use Rattle.bar_window.specs.declared.exchange.Role.{Role}
use Rattle.bar_window.specs.declared.exchange.Role.TheVariants.{Initiator, Responder}
use Rattle.bar_window.specs.Exchange.{same_exchange, same_role}
use Rattle.bar_audit.specs.declared.kept.KeptCase.{KeptCase}
use Rattle.bar_audit.specs.declared.side.Side.{Side}
use Rattle.bar_audit.specs.Code.Findings.{plain_case, case_at}
use Rattle.bar_audit.specs.Code.Sides.{is_side, side_at}

-- the exchange of the side is added to the others
pub with-side : (side : Side) (has has' : Exchange → Bool) (kept kept' : Exchange → Role → Bool) (x : Exchange)
    → has' x ≡ (same_exchange side.x x || has x) → ((role : Role) → kept' x role ≡ (is_side side (side_at x role) || kept x role))
    → has x ≡ (kept x Initiator || kept x Responder) → has' x ≡ (kept' x Initiator || kept' x Responder)
with-side side has has' kept kept' x added more keeps =
    added ∙ (ap (λ b. same_exchange side.x x || b) keeps ∙ (by-role side.role (same_exchange side.x x) (kept x Initiator) (kept x Responder)
    ∙ sym (λ i. more Initiator i || more Responder i)))
  where
    first : (a b c : Bool) → (a || (b || c)) ≡ (((a && true) || b) || ((a && false) || c))
    first true b c = refl
    first false b c = refl

    second : (a b c : Bool) → (a || (b || c)) ≡ (((a && false) || b) || ((a && true) || c))
    second true true c = refl
    second true false c = refl
    second false b c = refl

    by-role : (r : Role) (a b c : Bool) → (a || (b || c)) ≡ (((a && same_role r Initiator) || b) || ((a && same_role r Responder) || c))
    by-role Initiator a b c = first a b c
    by-role Responder a b c = second a b c

pub case-here : (side any : Side) (kept : KeptCase) (old new : List (Side × KeptCase)) (key : Bool)
    → lookup (is_side any) new ≡ cond (is_side side any) (Some kept) (lookup (is_side any) old)
    → (is_some (case_at new any) || key) ≡ (is_side side any || (is_some (case_at old any) || key))
case-here side any kept old new key is =
    ap (λ o. is_some (option_map plain_case o) || key) is ∙ go (is_side side any) (lookup (is_side any) old)
  where
    go : (b : Bool) (o : Option KeptCase) → (is_some (option_map plain_case (cond b (Some kept) o)) || key) ≡ (b || (is_some (option_map plain_case o) || key))
    go true o = refl
    go false o = refl

pub key-here : (side any : Side) (case old new : Bool) → new ≡ (is_side side any || old) → (case || new) ≡ (is_side side any || (case || old))
key-here side any case old new is = ap (λ b. case || b) is ∙ swap case (is_side side any) old
  where
    swap : (a b c : Bool) → (a || (b || c)) ≡ (b || (a || c))
    swap true true c = refl
    swap true false c = refl
    swap false b c = refl

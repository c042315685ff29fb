-- The equality tests of kinds, sides and exchanges are exact.
use Rattle.std.proofs.Common.{◌≡◌, true, refl, subst}
use Rattle.std.specs.Cmp.{both_ways}
use Rattle.std.proofs.lemmas.Bool.{and_from, and_parts, eqb-true}
use Rattle.bar_bytes.proofs.Tests.{eqb_refl}
use Rattle.bar_window.specs.declared.exchange.Exchange.{Exchange}
use Rattle.bar_window.specs.declared.exchange.Role.{Role}
use Rattle.bar_window.specs.declared.exchange.Role.TheVariants.{Initiator, Responder}
use Rattle.bar_window.specs.declared.exchange.XKind.{XKind}
use Rattle.bar_window.specs.declared.exchange.XKind.TheVariants.{Balanced, Push}
use Rattle.bar_window.specs.Exchange.{other_role, same_exchange, same_kind, same_role}

-- ---- sides

pub same_role-is : (a b : Role) → same_role a b ≡ true → a ≡ b
same_role-is Initiator Initiator e = refl
same_role-is Responder Responder e = refl
same_role-is Initiator Responder e = absurd (cc)
same_role-is Responder Initiator e = absurd (cc)

pub same_role_refl : (r : Role) → same_role r r ≡ true
same_role_refl Initiator = refl
same_role_refl Responder = refl

pub other-other : (r : Role) → other_role (other_role r) ≡ r
other-other Initiator = refl
other-other Responder = refl

-- ---- kinds

pub same_kind-is : (a b : XKind) → same_kind a b ≡ true → a ≡ b
same_kind-is Balanced Balanced e = refl
same_kind-is Push Push e = refl
same_kind-is Balanced Push e = absurd (cc)
same_kind-is Push Balanced e = absurd (cc)

pub same_kind_refl : (k : XKind) → same_kind k k ≡ true
same_kind_refl Balanced = refl
same_kind_refl Push = refl

-- ---- exchanges

pub same_exchange-is : (x y : Exchange) → same_exchange x y ≡ true → x ≡ y
same_exchange-is x y e =
    let p = and_parts _ _ e in
    let q = and_parts _ _ p.0 in
    let r = and_parts _ _ q.0 in
    let a : x.round ≡ y.round = eqb-true _ _ r.0 in
    let b : x.kind ≡ y.kind = same_kind-is _ _ r.1 in
    let c : x.initiator ≡ y.initiator = eqb-true _ _ q.1 in
    let d : x.responder ≡ y.responder = eqb-true _ _ p.1 in
    λ i. record { round = a i; kind = b i; initiator = c i; responder = d i }

pub same_exchange_refl : (x : Exchange) → same_exchange x x ≡ true
same_exchange_refl x = and_from _ _ (and_from _ _ (and_from _ _ (eqb_refl x.round) (same_kind_refl x.kind)) (eqb_refl x.initiator)) (eqb_refl x.responder)

flips : (x y : Exchange) → same_exchange x y ≡ true → same_exchange y x ≡ true
flips x y e = subst (λ z. same_exchange z x ≡ true) (same_exchange-is x y e) (same_exchange_refl x)

pub same_flips : (x y : Exchange) → same_exchange x y ≡ same_exchange y x
same_flips x y = both_ways (same_exchange x y) (same_exchange y x) (flips x y) (flips y x)

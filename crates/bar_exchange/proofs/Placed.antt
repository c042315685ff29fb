-- The place of a datagram, from the part of an exchange that its body names.
use Rattle.std.proofs.Common.{◌≡◌, ◌∙◌, ℕ, Some, sym, ap, option_map}
use Rattle.std.proofs.lemmas.Option.{same_Some}
use Rattle.bar_window.specs.declared.exchange.Role.{Role}
use Rattle.bar_window.specs.declared.exchange.XKind.{XKind}
use Rattle.bar_wire.specs.Datagram.{Body, exchange_by, part_of, place_of}
use Rattle.bar_wire.specs.Datagram as wire
use Rattle.bar_wire.specs.Code.Sides.{place_in}
use Rattle.bar_wire.specs.declared.place.Place.{Place}
use Rattle.bar_wire.proofs.ExchangeBy.{kind-by}

-- a body from this party to that one has this place
abbrev pub BodyStands : ℕ → ℕ → Body → Place → Type 0
BodyStands from to b p = Some (place_in p) ≡ place_of (record { from = from; to = to; body = b })

-- the place of a part, as computed by the code
abbrev pub place_by : ℕ → ℕ → ℕ × XKind × Role → Place
place_by from to part = record { x = exchange_by part.0 part.1 part.2 from to; role = part.2 }

pub stands : (from to : ℕ) (b : Body) (p : Place) (part : ℕ × XKind × Role) → BodyStands from to b p → part_of b ≡ Some part → p ≡ place_by from to part
stands from to b p part at told =
    let same : place_in p ≡ wire.place_by from to part = same_Some _ _ (at ∙ ap (option_map (wire.place_by from to)) told) in
    λ i. record { x = (same i).exchange; role = (same i).role }

-- the kind of its exchange is the one that the part names
pub kind_at : (from to : ℕ) (b : Body) (p : Place) (part : ℕ × XKind × Role) → BodyStands from to b p → part_of b ≡ Some part → p.x.kind ≡ part.1
kind_at from to b p part at told = ap (λ (p : Place). p.x.kind) (stands from to b p part at told) ∙ kind-by part.0 part.1 part.2 from to

-- The place is that of a part that names this round, kind and side, and the exchange is of the known kind.
pub record IsPlacedBy (p : Place) (known : XKind) (from to round : ℕ) (kind : XKind) (role : Role) : Type 0 where
  pub kind_is : kind ≡ known
  pub role_is : p.role ≡ role
  pub x_is : p.x ≡ exchange_by round known p.role from to

pub placed_by : (from to : ℕ) (b : Body) (p : Place) (known : XKind) (round : ℕ) (kind : XKind) (role : Role) → BodyStands from to b p → p.x.kind ≡ known
    → part_of b ≡ Some (round, kind, role) → IsPlacedBy p known from to round kind role
placed_by from to b p known round kind role at is told =
    let same = stands from to b p (round, kind, role) at told in
    let side : p.role ≡ role = ap (λ (p : Place). p.role) same in
    let one : kind ≡ known = sym (kind_at from to b p (round, kind, role) at told) ∙ is in
    record { kind_is = one; role_is = side; x_is = ap (λ (p : Place). p.x) same ∙ (λ i. exchange_by round (one i) (sym side i) from to) }

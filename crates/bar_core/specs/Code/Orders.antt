-- The orders that haven't been given out.
use Rattle.std.specs.Prelude.{◌≡◌, List, [], ◌∷◌, Option, Some, None, drop}
use Rattle.bar_core.specs.declared.orders.Orders.{Orders}

-- the orders that haven't been given out
abbrev pub left_in : {T : Type 0} → Orders T → List T
left_in o = drop o.given o.list.items

-- the first order of a list is given out, if there is one, and the others are left
abbrev pub GivesFirst : {T : Type 0} → Option T → List T → List T → Type 0
GivesFirst None old new = (old ≡ []) × (new ≡ [])
GivesFirst (Some order) old new = old ≡ order ∷ new

-- Both have the same room, and the same number of orders given out.
pub record HasSameRoom {T : Type 0} (old new : Orders T) : Type 0 where
  pub room : new.room ≡ old.room
  pub given : new.given ≡ old.given

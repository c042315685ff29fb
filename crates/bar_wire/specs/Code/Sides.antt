-- The place of a datagram of an exchange, as the code represents it and as it is read.
use Rattle.std.specs.Prelude.{◌≡◌, ℕ, List, ◌∷◌, Option, Some, None}
use Rattle.std.specs.Borrow.{Bor}
use Rattle.bar_window.specs.declared.exchange.Role.{Role}
use Rattle.bar_window.specs.declared.exchange.XKind.{XKind}
use Rattle.bar_window.specs.Exchange.{kind_code, role_code}
use Rattle.bar_wire.specs.Datagram.{Place}
use Rattle.bar_wire.specs.declared.place.Place.{Place as CodePlace}

abbrev pub place_in : CodePlace → Place
place_in p = record { exchange = p.x; role = p.role }

-- the bytes don't begin with codes of a kind of exchange and of a role
abbrev pub NoSideAt : List ℕ → Type 0
NoSideAt bytes = (kind : XKind) (role : Role) (after : List ℕ) → bytes ≡ kind_code kind ∷ role_code role ∷ after → ⊥

-- the kind and the role whose codes the bytes begin with, and the rest of the bytes; None if they don't begin with such codes
abbrev pub ReadsSide : List ℕ → Option (XKind × Role × Bor (List ℕ)) → Type 0
ReadsSide bytes (Some found) = bytes ≡ kind_code found.0 ∷ role_code found.1 ∷ found.2.now
ReadsSide bytes None = NoSideAt bytes

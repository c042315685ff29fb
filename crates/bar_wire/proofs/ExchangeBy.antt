-- The exchange of a message, by the side of its sender.
use Rattle.std.proofs.Common.{◌≡◌, ℕ, refl}
use Rattle.bar_window.specs.declared.exchange.XKind.{XKind}
use Rattle.bar_window.specs.declared.exchange.Role.{Role}
use Rattle.bar_window.specs.declared.exchange.Role.TheVariants.{Initiator, Responder}
use Rattle.bar_wire.specs.Datagram.{exchange_by}

pub round-by : (r : ℕ) (kind : XKind) (role : Role) (from to : ℕ) → (exchange_by r kind role from to).round ≡ r
round-by r kind Initiator from to = refl
round-by r kind Responder from to = refl

pub kind-by : (r : ℕ) (kind : XKind) (role : Role) (from to : ℕ) → (exchange_by r kind role from to).kind ≡ kind
kind-by r kind Initiator from to = refl
kind-by r kind Responder from to = refl

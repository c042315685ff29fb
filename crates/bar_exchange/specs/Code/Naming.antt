-- Admitted datagrams of other exchanges that pass a test, for example that their signatures name a leaf.
use Rattle.std.specs.Prelude.{ℕ, ◌==◌, Bool, List, [], ◌∷◌, Option, None, option_and_then, if◌then◌else◌}
use Rattle.std.specs.Bool.{then_some}
use Rattle.std.specs.Option.{option_or}
use Rattle.bar_window.specs.declared.exchange.Exchange.{Exchange}
use Rattle.bar_window.specs.declared.exchange.Role.{Role}
use Rattle.bar_window.specs.declared.exchange.Role.TheVariants.{Initiator, Responder}
use Rattle.bar_window.specs.Exchange.{same_exchange}
use Rattle.bar_wire.specs.declared.kind.Kind.{Kind}
use Rattle.bar_wire.specs.declared.kind.Kind.TheVariants as kinds
use Rattle.bar_rules.specs.Peer.Exchanges.{opening_kind}
use Rattle.bar_ledger.specs.declared.ledger.Ledger.{Ledger}
use Rattle.bar_ledger.specs.Code.Lookups.{heard_in}

-- the bytes, if they pass
abbrev pub if_passing : (List ℕ → Bool) → List ℕ → Option (List ℕ)
if_passing test bytes = then_some (test bytes) bytes

-- the datagram of a kind that was heard from a side of an exchange, if it passes
abbrev pub passing_as : (List ℕ → Bool) → Ledger → Kind → Exchange → Role → Option (List ℕ)
passing_as test l kind y role = option_and_then (if_passing test) (heard_in l kind y role)

-- the first of a side's signed datagrams that passes, in the order in which they can be heard
abbrev pub passing_in : (List ℕ → Bool) → Ledger → Exchange → Role → Option (List ℕ)
passing_in test l y role =
    option_or (passing_as test l (opening_kind y.kind role) y role)
    (option_or (passing_as test l kinds.Case y role) (passing_as test l kinds.Key y role))

-- the side of the other party in an exchange of this party
abbrev pub side_beside : ℕ → Exchange → Role
side_beside party y = if y.initiator == party then Responder else Initiator

-- the first of an exchange that passes, if the exchange is another one than `x`
abbrev pub passing_beside : (List ℕ → Bool) → Ledger → Exchange → Exchange → Option (List ℕ)
passing_beside test l x y = if same_exchange x y then None else passing_in test l y (side_beside l.me y)

-- the first of several exchanges that passes
abbrev pub passing_among : (List ℕ → Bool) → Ledger → Exchange → List Exchange → Option (List ℕ)
passing_among test l x [] = None
passing_among test l x (y ∷ ys) = option_or (passing_beside test l x y) (passing_among test l x ys)

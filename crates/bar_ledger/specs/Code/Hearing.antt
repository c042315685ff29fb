-- The datagrams that a peer hears from the other side of an exchange, and their largest sizes.
use Rattle.std.specs.Prelude.{ℕ, max, Bool, true, false, ◌==◌}
use Rattle.bar_window.specs.declared.exchange.Role.{Role}
use Rattle.bar_window.specs.declared.exchange.Role.TheVariants.{Responder}
use Rattle.bar_window.specs.declared.exchange.XKind.{XKind}
use Rattle.bar_window.specs.declared.exchange.XKind.TheVariants.{Balanced}
use Rattle.bar_window.specs.Exchange.{other_role}
use Rattle.bar_wire.specs.Kinds.{code_of}
use Rattle.bar_wire.specs.declared.kind.Kind.{Kind}
use Rattle.bar_wire.specs.declared.kind.Kind.TheVariants as kinds
use Rattle.bar_wire.specs.declared.shape.Shape.{Shape}
use Rattle.bar_rules.specs.Peer.Exchanges.{opening_kind}
use Rattle.bar_rules.specs.Peer.Sizes.{largest}

abbrev pub same_datagram : Kind → Kind → Bool
same_datagram a b = code_of a == code_of b

-- whether a kind is that of the other side's first signed datagram
abbrev pub is_opening : Kind → XKind → Role → Bool
is_opening kind xkind role = same_datagram kind (opening_kind xkind (other_role role))

-- whether a side hears a kind; only the responder of a balanced exchange hears a DIVULGE
abbrev pub hears : Kind → XKind → Role → Bool
hears kinds.Case xkind role = true
hears kinds.KeyReq xkind role = true
hears kinds.Key xkind role = true
hears kinds.Divulge Balanced Responder = true
hears kinds.Divulge _ _ = false
hears kind xkind role = is_opening kind xkind role

-- the largest size of a first signed datagram, in bytes
abbrev pub most_first : Shape → ℕ
most_first s = max (largest s kinds.Query) (largest s kinds.Request)

-- What is assumed of heard datagrams when a row reads the fields of an earlier one.
use Rattle.std.specs.Prelude.{◌≡◌, Some}
use Rattle.bar_window.specs.declared.exchange.Exchange.{Exchange}
use Rattle.bar_window.specs.declared.exchange.Role.{Role}
use Rattle.bar_wire.specs.Datagram.{Datagram}
use Rattle.bar_wire.specs.Grammar.{IsDatagram}
use Rattle.bar_wire.specs.declared.kind.Kind.{Kind}
use Rattle.bar_rules.specs.Member.{Member}
use Rattle.bar_rules.specs.Peer.Knowledge.{Knowledge}

-- Every heard datagram has an encoding.
pub record AreSpelled (me : Member) (k : Knowledge) : Type 0 where
  pub spelled : (kind : Kind) (x : Exchange) (role : Role) (d : Datagram) → k.heard kind x role ≡ Some d → IsDatagram me.session.shape d

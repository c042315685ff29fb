-- What was said is what would be written now, so a peer need not keep its own datagrams.
use Rattle.std.specs.Prelude.{◌≡◌, Some}
use Rattle.bar_window.specs.declared.exchange.Exchange.{Exchange}
use Rattle.bar_window.specs.declared.exchange.Role.{Role}
use Rattle.bar_wire.specs.Datagram.{Datagram}
use Rattle.bar_wire.specs.declared.kind.Kind.{Kind}
use Rattle.bar_rules.specs.Member.{Member}
use Rattle.bar_rules.specs.Peer.Exchanges.{role_of}
use Rattle.bar_rules.specs.Peer.Knowledge.{Knowledge, known}
use Rattle.bar_rules.specs.Peer.Log.{Log}
use Rattle.bar_rules.specs.Peer.Rules.{IsObedient}
use Rattle.bar_rules.specs.Peer.Writing.{body_again, written}
use Rattle.bar_laws.specs.Always.{InEachLog}

-- What was said of an exchange, whatever its kind and however long ago, is of this member's own side, and is what would be written now.
pub record IsRewritten (me : Member) (k : Knowledge) : Type 0 where
  pub own : (kind : Kind) (x : Exchange) (role : Role) (d : Datagram) → k.said kind x role ≡ Some d → role ≡ role_of me x
  pub same :
      (kind : Kind) (x : Exchange) (d : Datagram) → k.said kind x (role_of me x) ≡ Some d → written me k x (body_again me k kind x) ≡ Some d

-- for every list of inputs
abbrev pub RunIsRewritten : Type 0
RunIsRewritten = InEachLog (λ me log. IsRewritten me (known me log))

-- the same for each log that obeys the rules, whether or not a run leaves it
abbrev pub LogIsRewritten : Type 0
LogIsRewritten = (me : Member) (log : Log) → IsObedient me log → IsRewritten me (known me log)

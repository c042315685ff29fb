-- What a member said of an exchange is of its own side.
use Rattle.bar_wire.specs.declared.kind.Kind.{Kind}
use Rattle.bar_rules.specs.Peer.Exchanges.{role_of}
use Rattle.bar_rules.specs.Peer.Log.{Log, Said}
use Rattle.bar_rules.specs.Member.{Member}
use Rattle.bar_rules.specs.Peer.Rules.{IsObedient}
use Rattle.bar_rules.specs.Peer.Signing.{MaySign}
use Rattle.bar_window.specs.declared.exchange.Exchange.{Exchange}
use Rattle.bar_window.specs.declared.exchange.Role.{Role}
use Rattle.bar_wire.specs.Datagram.{Message, Datagram, is_of, part_of, exchange_by}
use Rattle.std.proofs.Common.{◌≡◌, true, sym, ap, ◌∙◌}
use Rattle.std.specs.Prelude.{Some}
use Rattle.bar_laws.proofs.Logs.FirstFinds.{allowed-at}
use Rattle.bar_laws.proofs.Logs.Elsewhere.{is_of-is, role-own, sign-elsewhere}
use Rattle.bar_laws.proofs.Logs.LaterLogs.{WasSaid}
use Rattle.bar_laws.proofs.Logs.OneIdentity.{parts-of}
use Rattle.bar_laws.proofs.Logs.MessageSides.{is_of-part}

-- a message of a side of an exchange names it
pub names-exchange : (kind : Kind) (x : Exchange) (role : Role) (m : Message) → is_of kind x role m ≡ true → exchange_by x.round x.kind role m.from m.to ≡ x
names-exchange kind x role m e =
    let at = is_of-is kind x role m e in
    let names = parts-of (at.round, at.sort, role) (x.round, x.kind, role) (sym at.part ∙ is_of-part kind x role m e) in
    sym (λ i. exchange_by (names.0 i) (names.1 i) role m.from m.to) ∙ at.exchange

-- A datagram that was said of a side of an exchange: its moment, its rule, and that the side is this member's.
pub record IsSaying (me : Member) (log : Log) (x : Exchange) (role : Role) (d : Datagram) : Type 0 where
  pub was : WasSaid log d
  pub obedient : IsObedient me was.before
  pub sign : MaySign me was.before d.message
  pub part : part_of d.message.body ≡ Some (x.round, x.kind, role)
  pub exchange : exchange_by x.round x.kind role me.party d.message.to ≡ x
  pub side : role ≡ role_of me x

pub saying : (me : Member) (log : Log) (d : Datagram) (kind : Kind) (x : Exchange) (role : Role) → IsObedient me log → WasSaid log d → is_of kind x role d.message ≡ true → IsSaying me log x role d
saying me log d kind x role h w e =
    let al = allowed-at me log w.before (Said d) w.place h in
    let named : exchange_by x.round x.kind role me.party d.message.to ≡ x =
    ap (λ f. exchange_by x.round x.kind role f d.message.to) (sym al.0.rule.mine) ∙ names-exchange kind x role d.message e
    in
    record {
      was = w;
      obedient = al.1;
      sign = al.0.rule;
      part = is_of-part kind x role d.message e;
      exchange = named;
      side = sym (role-own me x.round x.kind role d.message.to (sign-elsewhere me w.before d.message al.1 al.0.rule)) ∙ ap (role_of me) named;
    }

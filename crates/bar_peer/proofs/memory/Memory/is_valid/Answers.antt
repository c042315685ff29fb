-- A signed datagram fits a room of the memo.
use Rattle.std.proofs.Common.{◌≡◌, true, rules}
use Rattle.std.specs.Prelude.{IsSome}
use Rattle.bar_wire.specs.Datagram.{is_signed}
use Rattle.bar_wire.specs.Code.Views.{datagram, plain}
use Rattle.bar_rules.specs.Member.{Session}
use Rattle.bar_peer.proofs.memory.Memory.is_valid.Goals as goal

pub check-requires-clause-datagram : goal.check-requires-clause-datagram
check-requires-clause-datagram g c =
    let s : Session = c.args.self.now.who.session in
    let v = c.args.arrival.now.view in
    let some : IsSome v.sig = search rules in
    let signed : is_signed (plain v.body) ≡ true = c.requires.view.signed.0 some in
    c.signed_datagrams_are_short.ensures s (datagram s.shape v) c.args.arrival.now.bytes.now c.shape-shape.ensures.session c.requires.view.spelled signed

use Rattle.std.proofs.Common.{◌≤◌, ◌∙◌, sym}
use Rattle.bar_wire.specs.Datagram.{Datagram}
use Rattle.bar_wire.specs.Code.Views.{datagram, plain}
use Rattle.bar_rules.specs.Member.{Member}
use Rattle.bar_peer.specs.Code.Memory.{member_of}
use Rattle.bar_peer.proofs.Admitting.Rows.{in_time}
use Rattle.bar_peer.proofs.Admitting.Tests.{refused_elsewhere, refused_evicted, refused_again, admitted_by_row}
use Rattle.bar_peer.proofs.memory.Memory.may_admit.Goals as goal

pub returns-then-not-is_receiver-clause-exact : goal.returns-then-not-is_receiver-clause-exact
returns-then-not-is_receiver-clause-exact g c k h spelled =
    let me : Member = member_of c.args.self.now.who in
    refused_elsewhere me k (datagram me.session.shape c.args.arrival.now.view) (sym c.is_receiver.ensures ∙ search)

pub returns-then-is_named-clause-exact : goal.returns-then-is_named-clause-exact
returns-then-is_named-clause-exact g c k h spelled =
    let me : Member = member_of c.args.self.now.who in
    refused_evicted me k (datagram me.session.shape c.args.arrival.now.view)
    (h.announced c.args.arrival.now.view.from ∙ sym c.is_named.ensures ∙ c.if-is_named.true)

pub returns-then-is_heard_again-clause-exact : goal.returns-then-is_heard_again-clause-exact
returns-then-is_heard_again-clause-exact g c k h spelled =
    let me : Member = member_of c.args.self.now.who in
    let v = c.args.arrival.now.view in
    let d : Datagram = datagram me.session.shape v in
    let life : 2 ≤ me.session.shape.life = c.args.self.now.who.is_member.session.shape.life_low in
    refused_again me k d c.is_heard_again.result c.if-is_heard_again.true
    (λ met. c.is_heard_again.ensures k c.args.arrival.now.bytes.now h c.requires.view (in_time me k v.from v.to (plain v.body) life met))

pub returns-clause-exact : goal.returns-clause-exact
returns-clause-exact g c k h spelled =
    let me : Member = member_of c.args.self.now.who in
    let v = c.args.arrival.now.view in
    let d : Datagram = datagram me.session.shape v in
    let life : 2 ≤ me.session.shape.life = c.args.self.now.who.is_member.session.shape.life_low in
    c.meets_row.ensures.row k c.args.arrival.now.bytes.now h spelled c.requires.view
    ∙ admitted_by_row me k d c.is_heard_again.result (sym c.is_receiver.ensures ∙ search)
    (h.announced v.from ∙ sym c.is_named.ensures ∙ c.if-is_named.false)
    c.if-is_heard_again.false
    (λ met. c.is_heard_again.ensures k c.args.arrival.now.bytes.now h c.requires.view (in_time me k v.from v.to (plain v.body) life met))

use Rattle.std.proofs.Common.{◌∙◌, sym, ap}
use Rattle.std.specs.Prelude.{option_map}
use Rattle.bar_wire.specs.Datagram.{Datagram, part_of}
use Rattle.bar_wire.specs.Code.Views.{datagram, plain}
use Rattle.bar_rules.specs.Member.{Member}
use Rattle.bar_wire.specs.Code.Sides.{place_in}
use Rattle.bar_peer.specs.Code.Memory.{member_of}
use Rattle.bar_peer.proofs.Hearing.Exchanges.{unplaced, unseated}
use Rattle.bar_peer.proofs.memory.Memory.hear_of_exchange.Goals as goal

pub returns-in_default-clause-learns : goal.returns-in_default-clause-learns
returns-in_default-clause-learns c k h sound room now of =
    let v = c.args.arrival.now.view in
    absurd (unplaced v.from v.to (part_of (plain v.body)) (sym c.args.arrival.now.placed ∙ ap (option_map place_in) c.in_default.is) of)

pub returns-in-Balanced-clause-learns : goal.returns-in-Balanced-clause-learns
returns-in-Balanced-clause-learns c k h sound room now of =
    let me : Member = member_of c.args.self.now.who in
    let d : Datagram = datagram me.session.shape c.args.arrival.now.view in
    c.keep.ensures.learns me k c.requires.view (record {
      member = c.args.self.now.who.is_member;
      recalled = h;
      now = now;
      room = room;
      unseated = unseated me k d sound now.admitted;
    })

pub returns-in-Push-clause-learns : goal.returns-in-Push-clause-learns
returns-in-Push-clause-learns c k h sound room now of =
    let me : Member = member_of c.args.self.now.who in
    let d : Datagram = datagram me.session.shape c.args.arrival.now.view in
    c.keep-in-Push.ensures.learns me k c.requires.view (record {
      member = c.args.self.now.who.is_member;
      recalled = h;
      now = now;
      room = room;
      unseated = unseated me k d sound now.admitted;
    })

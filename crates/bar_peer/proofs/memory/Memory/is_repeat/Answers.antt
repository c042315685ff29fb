use Rattle.std.proofs.Common.{◌∙◌, sym, ap}
use Rattle.std.specs.Prelude.{option_copied}
use Rattle.bar_wire.specs.Code.Views.{datagram}
use Rattle.bar_peer.specs.Code.Memory.{member_of}
use Rattle.bar_peer.proofs.Admitting.Namesakes.{repeats}
use Rattle.bar_peer.proofs.memory.Memory.is_repeat.Goals as goal

pub returns-in-Some : goal.returns-in-Some
returns-in-Some c k h spelled in_time =
    let v = c.args.arrival.now.view in
    repeats (member_of c.args.self.now.who) k (datagram c.args.self.now.who.session.shape v) c.in-Some.heard.now c.args.arrival.now.bytes.now c.eq.result
    c.bytes_spell_one.ensures
    spelled
    c.requires.view.spelled
    (h.announced v.from ∙ sym c.is_named.ensures ∙ c.if-is_named.false)
    (c.heard_like.ensures k h in_time ∙ ap option_copied c.in-Some.is)
    c.eq.ensures

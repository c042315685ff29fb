use Rattle.std.proofs.Common.{◌≡◌, ◌-◌, ◌∙◌, sym, ap, arith}
use Rattle.bar_session.specs.Time.{round_after, slot_after}
use Rattle.bar_rules.specs.Peer.Knowledge.{known}
use Rattle.bar_wire.specs.declared.shape.Shape.{Shape}
use Rattle.bar_peer.specs.Code.Memory.{member_of}
use Rattle.bar_peer.specs.Code.Playing.{contents_in}
use Rattle.bar_peer.proofs.Stepping.Inputs.{plays-now}
use Rattle.bar_peer.proofs.memory.Memory.played_now.Goals as goal

pub returns : goal.returns
returns c log tells =
    let m = c.args.self.now in
    let s = m.who.session in
    let shape : c.shape-shape.result ≡ s.shape = c.shape-shape.ensures.value in
    plays-now (member_of m.who) (known (member_of m.who) log) m.store c.saturating_sub-round.result _
    (c.of_round.ensures m.store ∙ ap (λ (z : Shape). contents_in m.store c.saturating_sub-round.result z.per_round) shape)
    tells.store m.who.is_member.session.shape.per_round_high
    (c.saturating_sub-round.ensures ∙ (λ i. (c.round.ensures ∙ ap round_after (sym tells.time)) i - (c.from.ensures ∙ ap (λ (z : Shape). z.life) shape) i))
    (ap slot_after tells.time ∙ (sym c.slot_after.ensures ∙ c.if-slot_after-ne0.false))
    c.if-round-lt1.false
    (omega (arith, c.if-round-shape.false, ap (λ (z : Shape). z.rounds) shape))

use Rattle.std.proofs.Common.{◌≡◌, ◌∙◌, ◌+◌, ◌*◌, ◌≤◌, ℕ, refl, sym, ap, subst, arith}
use Rattle.std.proofs.Math.Nat.{mul-le-mul_right}
use Rattle.bar_wire.specs.declared.shape.Shape.{Shape}
use Rattle.bar_session.specs.Time.{round_after}
use Rattle.bar_rules.specs.Member.{Member}
use Rattle.bar_caster.specs.Code.Fanout.{AreRanksOf}
use Rattle.bar_caster.specs.Code.Memory.{member_of}
use Rattle.bar_caster.proofs.Pushed.{orders-more}
use Rattle.bar_caster.proofs.sending.send_blocks.Goals as goal

pub loop-index-preserved : goal.loop-index-preserved
loop-index-preserved g c =
    let m = c.args.memory.now in
    let me : Member = member_of m in
    let l = c.loop-index in
    let n : ℕ = l.index in
    let peers : ℕ = m.session.shape.peers in
    let more : (n + 1) * peers ≡ n * peers + peers = omega arith in
    let few : n + 1 ≤ m.session.shape.per_round = omega (arith, c.loop-index-test.true, c.blocks_in-index-end.ensures.few, m.same_rounds) in
    let most : (n + 1) * peers ≤ m.session.shape.per_round * peers = mul-le-mul_right peers few in
    let same-id : m.session.shape.id ≡ c.shape-shape.result.id = ap (λ (s : Shape). s.id) (sym c.shape-shape.ensures.value) in
    record {
      ranks = c.fill.ensures.count ∙ l.invariant.ranks;
      cost = omega (arith, more, c.fill.ensures.cost, l.invariant.cost, l.invariant.ranks, c.requires);
      few = omega (arith, more, c.send_block.ensures.few, l.invariant.few);
      room = c.send_block.ensures.room.room ∙ l.invariant.room;
      given = c.send_block.ensures.room.given ∙ l.invariant.given;
      sent = λ log tells room.
          orders-more me log n c.args.orders.now.list.items l.orders.list.items c.send_block.new.orders.list.items
          (l.invariant.sent log tells room)
          (c.send_block.ensures.sent log tells
          (subst (λ (round : ℕ). AreRanksOf me (record { round = round; index = n }) c.fill.new.self)
          (c.round-round.ensures ∙ ap round_after (sym tells.time))
          (c.fill.ensures.ranks me (same-id, refl) (sym (c.fill.ensures.count ∙ l.invariant.ranks ∙ c.requires))))
          (omega (arith, room, l.invariant.room, l.invariant.few, most, more)));
    }

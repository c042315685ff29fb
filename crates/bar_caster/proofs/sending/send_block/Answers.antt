use Rattle.std.proofs.Common.{◌≡◌, ◌∙◌, ◌+◌, ◌≤◌, ◌++◌, ℕ, Bool, true, false, is_none, refl, sym, ap, subst, arith}
use Rattle.std.specs.Prelude.{◌&&◌, not}
use Rattle.bar_window.proofs.Ranges.{filter-filter}
use Rattle.bar_wire.specs.declared.shape.Shape.{Shape}
use Rattle.bar_rules.specs.Broadcaster.Stream.{is_in_fanout, peers_of}
use Rattle.bar_rules.specs.Member.{Member}
use Rattle.bar_rules.specs.Peer.Log.{Log, kept}
use Rattle.bar_caster.specs.declared.item.Item.{Item}
use Rattle.bar_caster.specs.declared.item.Item.TheVariants as items
use Rattle.bar_caster.specs.Code.Fanout.{AreRanksOf}
use Rattle.bar_caster.specs.Code.Memory.{Represents, member_of}
use Rattle.bar_caster.specs.Code.Orders.{Orders, orders_to}
use Rattle.bar_caster.specs.Code.Ticking.{update_now}
use Rattle.bar_caster.proofs.Pushed.{IsPushed, gets_block, is-served, not_pushed, pushed-more, pushed_to}
use Rattle.bar_caster.proofs.sending.send_block.Goals as goal
use Rattle.bar_caster.proofs.sending.send_block.Goals.{then-not-is_evicted+then-is_sent_to, else-not-is_evicted}
use Rattle.bar_caster.proofs.sending.send_block.Goals.{else-not-is_evicted-via-then-not-is_evicted+else-is_sent_to, else-not-is_evicted-via-else-not-is_evicted}

pub loop-before-preserved : goal.loop-before-preserved
loop-before-preserved c =
    let m = c.args.memory.now in
    let me : Member = member_of m in
    let l = c.loop-before in
    let peer : ℕ = l.before + 1 in
    let item : Item = items.Block c.args.index in
    let new : Orders = c.if-not-is_evicted.orders in
    let peers : c.shape-before-end.result.peers ≡ m.session.shape.peers = ap (λ (s : Shape). s.peers) c.shape-before-end.ensures.value in
    let high : peer ≤ m.session.shape.peers = omega (arith, c.loop-before-test.true, peers) in
    let served : (log : Log) → Represents log m → is_none (kept log peer) ≡ not c.is_evicted.result =
    λ log tells. is-served m.session m.evictions log peer c.is_evicted.result tells.evictions (omega arith, high) c.is_evicted.ensures in
    let step :
    (b : Bool) × (IsPushed l.orders new item peer b
    × ((log : Log) → Represents log m → AreRanksOf me (update_now log c.args.index) c.args.ranks.now
    → gets_block me log c.args.index peer ≡ b)) =
    elim c.if-not-is_evicted.branch [
      | then-not-is_evicted+then-is_sent_to w ↦ (
        true,
        (
          subst (λ (o : Orders). IsPushed l.orders o item peer true) (sym w.orders-is)
              (record {
                list = w.push.ensures.pushed;
                length = w.push.ensures.length;
                room = w.push.ensures.room;
                given = w.push.ensures.given;
              }),
          λ log tells are. λ i.
              (served log tells ∙ ap not w.if-not-is_evicted.true) i
              && (sym (w.is_sent_to.ensures me (update_now log c.args.index) are w.fanout.ensures) ∙ w.if-is_sent_to.true) i,
        ),
      )
      | else-not-is_evicted w ↦ (
        false,
        (
          subst (λ (o : Orders). IsPushed l.orders o item peer false) (sym w.orders-is) (not_pushed l.orders item peer false refl),
          elim w.else-not-is_evicted.branch [
            | else-not-is_evicted-via-then-not-is_evicted+else-is_sent_to v ↦ λ log tells are. λ i.
                (served log tells ∙ ap not v.if-not-is_evicted.true) i
                && (sym (v.is_sent_to.ensures me (update_now log c.args.index) are v.fanout.ensures) ∙ v.if-is_sent_to.false) i
            | else-not-is_evicted-via-else-not-is_evicted v ↦ λ log tells are. λ i.
                (served log tells ∙ ap not v.if-not-is_evicted.false) i && is_in_fanout me (update_now log c.args.index) peer
          ],
        ),
      )
    ] in
    record {
      few = omega (arith, l.invariant.few, step.1.0.length);
      room = step.1.0.room ∙ l.invariant.room;
      given = step.1.0.given ∙ l.invariant.given;
      sent = λ log tells are room.
          pushed-more item (gets_block me log c.args.index) l.before step.0 c.args.orders.now.list.items l.orders.list.items new.list.items
          (l.invariant.sent log tells are room)
          (step.1.0.list (omega (arith, l.invariant.few, l.invariant.room, room, high)))
          (step.1.1 log tells are);
    }

pub returns-clause-sent : goal.returns-clause-sent
returns-clause-sent c log tells are room =
    let m = c.args.memory.now in
    let me : Member = member_of m in
    let peers : c.shape-before-end.result.peers ≡ m.session.shape.peers = ap (λ (s : Shape). s.peers) c.shape-before-end.ensures.value in
    let all : c.loop-before.before ≡ m.session.shape.peers = omega (arith, peers) in
    let item : Item = items.Block c.args.index in
    c.loop-before.invariant.sent log tells are room
    ∙ ap (λ n. c.args.orders.now.list.items ++ pushed_to item (gets_block me log c.args.index) n) all
    ∙ ap (λ qs. c.args.orders.now.list.items ++ orders_to item qs)
    (sym (filter-filter (is_in_fanout me (update_now log c.args.index)) (λ q. is_none (kept log q)) (peers_of m.session)))

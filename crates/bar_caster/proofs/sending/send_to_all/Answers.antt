use Rattle.std.proofs.Common.{◌≡◌, ◌∙◌, ◌+◌, ◌++◌, ℕ, Bool, is_none, sym, ap, subst, arith}
use Rattle.std.specs.Prelude.{not}
use Rattle.bar_wire.specs.declared.shape.Shape.{Shape}
use Rattle.bar_rules.specs.Peer.Log.{kept}
use Rattle.bar_caster.specs.Code.Orders.{Orders}
use Rattle.bar_caster.proofs.Pushed.{IsPushed, not_pushed, order_if, pushed-more, is-served}
use Rattle.bar_caster.proofs.sending.send_to_all.Goals as goal
use Rattle.bar_caster.proofs.sending.send_to_all.Goals.{then-not-is_evicted, else-not-is_evicted}

pub loop-before-preserved : goal.loop-before-preserved
loop-before-preserved c =
    let m = c.args.memory.now in
    let l = c.loop-before in
    let peer : ℕ = l.before + 1 in
    let b : Bool = not c.is_evicted.result in
    let peers : c.shape-before-end.result.peers ≡ m.session.shape.peers = ap (λ (s : Shape). s.peers) c.shape-before-end.ensures.value in
    let step : IsPushed l.orders c.if-not-is_evicted.orders c.args.item peer b = elim c.if-not-is_evicted.branch [
      | then-not-is_evicted w ↦
          subst (λ (o : Orders). IsPushed l.orders o c.args.item peer b) (sym w.orders-is)
          (record {
            list = λ left. w.push.ensures.pushed left
                ∙ ap (λ (b : Bool). l.orders.list.items ++ order_if c.args.item peer (not b)) (sym w.if-not-is_evicted.true);
            length = w.push.ensures.length;
            room = w.push.ensures.room;
            given = w.push.ensures.given;
          })
      | else-not-is_evicted w ↦
          subst (λ (o : Orders). IsPushed l.orders o c.args.item peer b) (sym w.orders-is)
          (not_pushed l.orders c.args.item peer b (ap not w.if-not-is_evicted.false))
    ] in
    record {
      few = omega (arith, l.invariant.few, step.length);
      room = step.room ∙ l.invariant.room;
      given = step.given ∙ l.invariant.given;
      sent = λ log tells room.
          pushed-more c.args.item (λ q. is_none (kept log q)) l.before b c.args.orders.now.list.items l.orders.list.items
          c.if-not-is_evicted.orders.list.items
          (l.invariant.sent log tells room)
          (step.list (omega (arith, l.invariant.few, l.invariant.room, room, c.loop-before-test.true, peers)))
          (is-served m.session m.evictions log peer c.is_evicted.result tells.evictions
          (omega arith, omega (arith, c.loop-before-test.true, peers))
          c.is_evicted.ensures);
    }

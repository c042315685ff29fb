use Rattle.std.proofs.Common.{◌≡◌, ◌∙◌, ◌++◌, ◌∷◌, ◌≤◌, ◌+◌, ℕ, Bool, [], sym, ap, subst, arith}
use Rattle.std.specs.Prelude.{if◌then◌else◌}
use Rattle.bar_wire.specs.declared.shape.Shape.{Shape}
use Rattle.bar_rules.specs.Member.{Member}
use Rattle.bar_rules.specs.Peer.Knowledge.{known}
use Rattle.bar_rules.specs.Peer.Run.{perform_all}
use Rattle.bar_peer.specs.declared.order.Order.TheVariants as queued
use Rattle.bar_peer.specs.Code.Orders.{Orders}
use Rattle.bar_peer.specs.Code.Memory.{member_of}
use Rattle.bar_peer.specs.Code.Sending.{HasOutcome}
use Rattle.bar_peer.specs.Code.Ticking.{is_reported}
use Rattle.bar_peer.proofs.Ticking.Reports.{reports_to, same_reported, one_reported, not_due, IsPushed}
use Rattle.bar_peer.proofs.reports.report_all.Goals as goal
use Rattle.bar_peer.proofs.reports.report_all.Goals.{then-is_reported, else-is_reported}

pub loop-party-preserved : goal.loop-party-preserved
loop-party-preserved c =
    let m = c.args.memory.now in
    let me : Member = member_of m.who in
    let l = c.loop-party in
    let done : ℕ = l.invariant.done in
    let step : IsPushed l.orders c.if-is_reported.orders l.party c.is_reported.result = elim c.if-is_reported.branch [
      | then-is_reported w ↦
          subst (λ (o : Orders). IsPushed l.orders o l.party c.is_reported.result) (sym w.orders-is)
          (record {
            list = λ left. w.push.ensures.pushed left
                ∙ ap (λ (b : Bool). if b then l.orders.list.items ++ queued.Report l.party ∷ [] else l.orders.list.items)
                (sym w.if-is_reported.true);
            length = w.push.ensures.length;
            room = w.push.ensures.room;
            given = w.push.ensures.given;
          })
      | else-is_reported w ↦
          subst (λ (o : Orders). IsPushed l.orders o l.party c.is_reported.result) (sym w.orders-is)
          (not_due l.orders l.party c.is_reported.result w.if-is_reported.false)
    ] in
    let peers : c.shape-party-end.result.peers ≡ m.who.session.shape.peers = ap (λ (s : Shape). s.peers) c.shape-party-end.ensures.value in
    record {
      done = done + 1;
      at = omega (arith, l.invariant.at);
      few = omega (arith, l.invariant.few, step.length);
      room = step.room ∙ l.invariant.room;
      given = step.given ∙ l.invariant.given;
      stands = λ out before announced evidence h room.
          let between : HasOutcome (perform_all me out (reports_to before done)) m l.orders =
          l.invariant.stands out before announced evidence h room
          in
          let due : is_reported before l.party ≡ c.is_reported.result =
          same_reported me out before (reports_to before done) l.party (announced l.party) (evidence l.party)
          ∙ sym (c.is_reported.ensures (known me (perform_all me out (reports_to before done)).state) between.tells)
          in
          one_reported m l.orders c.if-is_reported.orders out before done l.party c.is_reported.result l.invariant.at (evidence l.party) due between
          (step.list (omega (arith, l.invariant.few, l.invariant.room, l.invariant.at, room, c.loop-party-test.true, peers)));
    }

pub returns-after-is_reported-clause-stands : goal.returns-after-is_reported-clause-stands
returns-after-is_reported-clause-stands c = λ out before announced evidence h room.
    let m = c.args.memory.now in
    let me : Member = member_of m.who in
    let l = c.loop-party in
    let done : ℕ = l.invariant.done in
    let step : IsPushed l.orders c.if-is_reported.orders l.party c.is_reported.result = elim c.if-is_reported.branch [
      | then-is_reported w ↦
          subst (λ (o : Orders). IsPushed l.orders o l.party c.is_reported.result) (sym w.orders-is)
          (record {
            list = λ left. w.push.ensures.pushed left
                ∙ ap (λ (b : Bool). if b then l.orders.list.items ++ queued.Report l.party ∷ [] else l.orders.list.items)
                (sym w.if-is_reported.true);
            length = w.push.ensures.length;
            room = w.push.ensures.room;
            given = w.push.ensures.given;
          })
      | else-is_reported w ↦
          subst (λ (o : Orders). IsPushed l.orders o l.party c.is_reported.result) (sym w.orders-is)
          (not_due l.orders l.party c.is_reported.result w.if-is_reported.false)
    ] in
    let peers : c.shape-party-end.result.peers ≡ m.who.session.shape.peers = ap (λ (s : Shape). s.peers) c.shape-party-end.ensures.value in
    let last : c.shape-party-end.result.peers ≤ l.party = grind arith in
    let all : done + 1 ≡ m.who.session.shape.peers = omega (arith, l.invariant.at, last, peers, c.loop-party-test.true) in
    let between : HasOutcome (perform_all me out (reports_to before done)) m l.orders =
    l.invariant.stands out before announced evidence h room
    in
    let due : is_reported before l.party ≡ c.is_reported.result =
    same_reported me out before (reports_to before done) l.party (announced l.party) (evidence l.party)
    ∙ sym (c.is_reported.ensures (known me (perform_all me out (reports_to before done)).state) between.tells)
    in
    subst (λ (peers : ℕ). HasOutcome (perform_all me out (reports_to before peers)) m c.if-is_reported.orders) all
    (one_reported m l.orders c.if-is_reported.orders out before done l.party c.is_reported.result l.invariant.at (evidence l.party) due between
    (step.list (omega (arith, l.invariant.few, l.invariant.room, l.invariant.at, room, c.loop-party-test.true, peers))))

use Rattle.std.proofs.Common.{◌≡◌, ◌≤◌, ◌+◌, ◌∙◌, List, [], ◌∷◌, ◌++◌, Some, length, sym, ap, refl, subst, arith}
use Rattle.std.specs.List.{flat_map}
use Rattle.std.proofs.lemmas.List.{flat_map_more, length_push}
use Rattle.bar_window.specs.declared.exchange.Exchange.{Exchange}
use Rattle.bar_wire.specs.declared.shape.Shape.{Shape}
use Rattle.bar_ledger.specs.Code.Memory.{opens_in}
use Rattle.bar_ledger.specs.Code.Order.{above}
use Rattle.bar_ledger.proofs.Rising.{above-all}
use Rattle.bar_rules.specs.Member.{Member}
use Rattle.bar_rules.specs.Peer.Agreement.{IsRecent}
use Rattle.bar_rules.specs.Peer.Knowledge.{Knowledge, known}
use Rattle.bar_rules.specs.Peer.Log.{Log}
use Rattle.bar_rules.specs.Peer.Orders.{Order}
use Rattle.bar_rules.specs.Peer.Run.{Out, perform_all}
use Rattle.bar_rules.specs.Runs.{begun}
use Rattle.bar_peer.specs.Code.Memory.{member_of}
use Rattle.bar_peer.specs.Code.Sending.{HasOutcome}
use Rattle.bar_peer.specs.Code.Ticking.{orders_of_open}
use Rattle.bar_peer.proofs.Ticking.OpenExchanges.{one_done, open_is_recent}
use Rattle.bar_laws.proofs.Repeating.{all-append}
use Rattle.bar_peer.proofs.Orders.Sendings.{none_stand}
use Rattle.bar_peer.proofs.Orders.Unlogged.{opens_state}
use Rattle.bar_peer.proofs.ticks.repeat_all.Goals as goal

pub loop-init : goal.loop-init
loop-init c = record {
  done = [];
  split = above-all (opens_in c.args.memory.now.ledger);
  count = refl;
  few = omega arith;
  room = refl;
  given = refl;
  stands = λ log h none most. none_stand log c.args.memory.now c.args.orders.now h none;
}

pub loop-preserved : goal.loop-preserved
loop-preserved c =
    let m = c.args.memory.now in
    let me : Member = member_of m.who in
    let xs : List Exchange = opens_in m.ledger in
    let x : Exchange = c.in-Some.x in
    let done : List Exchange = c.loop.invariant.done in
    let split : (done ++ x ∷ []) ++ above (Some x) xs ≡ xs =
    one_done xs done (above c.loop.after xs) (above (Some x) xs) x c.loop.invariant.split c.in-Some.ensures.rest
    in
    record {
      done = done ++ x ∷ [];
      split = split;
      count = omega (arith, length_push done x, c.loop.invariant.count);
      few = omega (arith, c.loop.invariant.few, c.repeat_once.ensures.length);
      room = c.repeat_once.ensures.room.room ∙ c.loop.invariant.room;
      given = c.repeat_once.ensures.room.given ∙ c.loop.invariant.given;
      stands = λ log h none most.
          let k : Knowledge = known me log in
          let f : Exchange → List Order = orders_of_open me k in
          let before : Out = perform_all me (begun log) (flat_map f done) in
          let state : before.state ≡ log = opens_state me k (begun log) done in
          let recent : IsRecent me k x.round =
          open_is_recent me log done (above (Some x) xs) x
          ((λ i. done ++ sym c.in-Some.ensures.rest i) ∙ c.loop.invariant.split ∙ sym h.ledger.opens)
          in
          let life : m.ledger.shape.life ≡ m.who.session.shape.life = ap (λ (s : Shape). s.life) h.ledger.shape in
          let room : length c.loop.orders.list.items + 2 ≤ c.loop.orders.room =
          omega (arith, c.loop.invariant.few, c.loop.invariant.room, ap length none, most, c.len-end.ensures.most, c.loop-test.true, life)
          in
          let one : HasOutcome (perform_all me before (orders_of_open me (known me before.state) x)) m c.repeat_once.new.orders =
          c.repeat_once.ensures.stands before (c.loop.invariant.stands log h none most)
          (subst (λ (l : Log). IsRecent me (known me l) x.round) (sym state) recent)
          room
          in
          subst (λ (o : Out). HasOutcome o m c.repeat_once.new.orders)
          ((λ i. perform_all me before (orders_of_open me (known me (state i)) x))
          ∙ sym (all-append me (begun log) (flat_map f done) (f x))
          ∙ ap (perform_all me (begun log)) (flat_map_more f [] done x))
          one;
    }

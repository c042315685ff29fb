-- After each reply, the memory and the orders represent what was said and sent.
use Rattle.std.proofs.Common.{◌≡◌, ◌∙◌, ◌≤◌, ◌+◌, ℕ, true, false, List, [], ◌∷◌, ◌++◌, Some, length, sym, subst, arith}
use Rattle.std.specs.List.{AllByRecursion}
use Rattle.std.proofs.lemmas.List.{map-append}
use Rattle.bar_wire.specs.Datagram.{Datagram}
use Rattle.bar_wire.proofs.Lists.{AllByRecursion-push}
use Rattle.bar_rules.specs.Member.{Member}
use Rattle.bar_rules.specs.Peer.Knowledge.{Knowledge, known}
use Rattle.bar_rules.specs.Peer.Rules.{IsObedient}
use Rattle.bar_rules.specs.Peer.Run.{Out, perform, perform_all}
use Rattle.bar_exchange.specs.declared.say.Say.{Say}
use Rattle.bar_exchange.specs.declared.says.Says.{Says}
use Rattle.bar_exchange.specs.declared.says.Says.TheVariants.{Two}
use Rattle.bar_exchange.specs.Code.Says.{order_by, orders_of_reply, says_in}
use Rattle.bar_peer.specs.declared.credentials.Credentials.{Credentials}
use Rattle.bar_peer.specs.declared.memory.Memory.{Memory}
use Rattle.bar_peer.specs.declared.order.Order.{Order}
use Rattle.bar_peer.specs.declared.order.Order.TheVariants as queued
use Rattle.bar_peer.specs.Code.Orders.{Orders}
use Rattle.bar_peer.specs.Code.Memory.{member_of}
use Rattle.bar_peer.specs.Code.Sending.{order_now, IsOrderTimely, MaySayNow, AreFor, IsCarriedOut, HasOutcome}
use Rattle.bar_laws.proofs.Fitting.{perform-before}
use Rattle.bar_peer.proofs.Orders.Growth.{Grows, grows, sends_stay, timely_still, all_timely_still, own_still}

-- if more is said, the orders are still those of the sent datagrams
pub orders_stay : (me : Member) (old new : Knowledge) (list : List Order) (sends : List (ℕ × Datagram)) → Grows old new
    → AreFor me old list sends → AreFor me new list sends
orders_stay me old new list sends g h =
    record { same = sends_stay me old new g list sends h.same; timely = all_timely_still me old new g list h.timely }

pub orders_pushed : (me : Member) (k : Knowledge) (list : List Order) (sends : List (ℕ × Datagram)) (order : Order) (send : ℕ × Datagram)
    → AreFor me k list sends → order_now me k order ≡ Some send → IsOrderTimely me k order
    → AreFor me k (list ++ order ∷ []) (sends ++ send ∷ [])
orders_pushed me k list sends order send h is timely = record {
  same =
      map-append (order_now me k) list (order ∷ [])
      ∙ (λ i. h.same i ++ is i ∷ [])
      ∙ sym (map-append (λ send. Some send) sends (send ∷ []));
  timely = AllByRecursion-push (IsOrderTimely me k) list order h.timely timely;
}

-- ---- one reply

-- An order is carried out, and its datagram is appended to the queue.
abbrev pub Replies : Credentials → Memory → Orders → Memory → Orders → Say → Type 0
Replies who old orders new pushed say =
    (out : Out) → IsObedient (member_of who) (perform (member_of who) out (order_by say.kind say.x)).state → HasOutcome out old orders
    → MaySayNow (member_of who) (known (member_of who) out.state) say → length orders.list.items + 1 ≤ orders.room
    → HasOutcome (perform (member_of who) out (order_by say.kind say.x)) new pushed

pub stands_sent : (old new : Memory) (orders pushed : Orders) (say : Say) (out : Out) → new.who ≡ old.who → HasOutcome out old orders
    → MaySayNow (member_of old.who) (known (member_of old.who) out.state) say → pushed.list.items ≡ orders.list.items ++ queued.Say say ∷ []
    → IsCarriedOut (member_of old.who) say out (perform (member_of old.who) out (order_by say.kind say.x)) true new
    → HasOutcome (perform (member_of old.who) out (order_by say.kind say.x)) new pushed
stands_sent old new orders pushed say out same stands own put carried = record {
  tells = carried.tells;
  orders =
      subst (λ (who : Credentials). AreFor (member_of who) (known (member_of who) after.state) pushed.list.items after.sends) (sym same)
      (subst (λ (list : List Order). AreFor me (known me after.state) list after.sends) (sym put)
      (subst (AreFor me (known me after.state) (orders.list.items ++ queued.Say say ∷ [])) (sym carried.sends.2)
      (orders_pushed me (known me after.state) orders.list.items out.sends (queued.Say say) carried.sends.0
      (orders_stay me (known me out.state) (known me after.state) orders.list.items out.sends g stands.orders)
      carried.sends.1
      (timely_still me (known me out.state) (known me after.state) g say own.timely))));
}
  where
    me : Member
    me = member_of old.who

    after : Out
    after = perform me out (order_by say.kind say.x)

    g : Grows (known me out.state) (known me after.state)
    g = grows me out (order_by say.kind say.x)

pub stands_unsent : (old new : Memory) (orders : Orders) (say : Say) (out : Out) → new.who ≡ old.who → HasOutcome out old orders
    → IsCarriedOut (member_of old.who) say out (perform (member_of old.who) out (order_by say.kind say.x)) false new
    → HasOutcome (perform (member_of old.who) out (order_by say.kind say.x)) new orders
stands_unsent old new orders say out same stands carried = record {
  tells = carried.tells;
  orders =
      subst (λ (who : Credentials). AreFor (member_of who) (known (member_of who) after.state) orders.list.items after.sends) (sym same)
      (subst (AreFor me (known me after.state) orders.list.items) (sym carried.sends)
      (orders_stay me (known me out.state) (known me after.state) orders.list.items out.sends g stands.orders));
}
  where
    me : Member
    me = member_of old.who

    after : Out
    after = perform me out (order_by say.kind say.x)

    g : Grows (known me out.state) (known me after.state)
    g = grows me out (order_by say.kind say.x)

-- ---- two replies

-- if the second reply is carried out after the first, both are
pub two_stand : (old mid new : Memory) (orders put pushed : Orders) (first second : Say) (says : Says) (out : Out) → says ≡ Two first second
    → mid.who ≡ old.who → put.room ≡ orders.room → length put.list.items ≤ length orders.list.items + 1
    → Replies old.who old orders mid put first → Replies mid.who mid put new pushed second
    → IsObedient (member_of old.who) (perform_all (member_of old.who) out (orders_of_reply says)).state → HasOutcome out old orders
    → AllByRecursion (MaySayNow (member_of old.who) (known (member_of old.who) out.state)) (says_in says)
    → length orders.list.items + 2 ≤ orders.room
    → HasOutcome (perform_all (member_of old.who) out (orders_of_reply says)) new pushed
two_stand old mid new orders put pushed first second says out is who room short one two =
    subst
    (λ (says : Says).
    IsObedient me (perform_all me out (orders_of_reply says)).state → HasOutcome out old orders
    → AllByRecursion (MaySayNow me (known me out.state)) (says_in says) → length orders.list.items + 2 ≤ orders.room
    → HasOutcome (perform_all me out (orders_of_reply says)) new pushed)
    (sym is)
    (λ obeys stands own left.
    subst (λ (who : Credentials). Replies who mid put new pushed second) who two after obeys
    (one out (perform-before me after (order_by second.kind second.x) obeys) stands own.0 (omega (arith, left)))
    (own_still me (known me out.state) (known me after.state) (grows me out (order_by first.kind first.x)) second own.1.0)
    (omega (arith, left, room, short)))
  where
    me : Member
    me = member_of old.who

    after : Out
    after = perform me out (order_by first.kind first.x)

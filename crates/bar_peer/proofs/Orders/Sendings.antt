-- What an order sends, and what queued orders send.
use Rattle.std.proofs.Common.{◌≡◌, ℕ, ◌∙◌, true, false, List, [], ◌∷◌, ◌++◌, Option, Some, None, is_some, sym, refl, ap, subst}
use Rattle.std.specs.Prelude.{option_map}
use Rattle.bar_window.specs.declared.update.UpdateId.{UpdateId}
use Rattle.bar_window.specs.declared.exchange.Exchange.{Exchange}
use Rattle.bar_wire.specs.Datagram.{Datagram, Divulge, Evidence}
use Rattle.bar_wire.specs.declared.kind.Kind.{Kind}
use Rattle.bar_wire.specs.declared.kind.Kind.TheVariants as kinds
use Rattle.bar_rules.specs.Member.{Member}
use Rattle.bar_rules.specs.Runs.{begun, sending}
use Rattle.bar_rules.specs.Values.{unsigned}
use Rattle.bar_rules.specs.Peer.Exchanges.{role_of, partner_in}
use Rattle.bar_rules.specs.Peer.Knowledge.{known}
use Rattle.bar_rules.specs.Peer.Log.{Log}
use Rattle.bar_rules.specs.Peer.Machine.{message_to, send_if}
use Rattle.bar_rules.specs.Peer.Orders.{Report}
use Rattle.bar_rules.specs.Peer.Run.{Out, perform, say_or_repeat}
use Rattle.bar_exchange.specs.Code.Says.{order_again}
use Rattle.bar_peer.specs.declared.memory.Memory.{Memory}
use Rattle.bar_peer.specs.declared.order.Order.{Order as Queued}
use Rattle.bar_peer.specs.Code.Orders.{Orders}
use Rattle.bar_peer.specs.Code.Memory.{member_of, Represents}
use Rattle.bar_peer.specs.Code.Sending.{send_now, report_of, report_now, order_now, IsOrderTimely, AreFor, HasOutcome}
use Rattle.bar_peer.proofs.Orders.Outcomes.{orders_pushed}

-- an outcome with one more datagram, if there is one
abbrev pub sent : Out → Option (ℕ × Datagram) → Out
sent out None = out
sent out (Some send) = sending out send.0 send.1

pub sent_state : (out : Out) (s : Option (ℕ × Datagram)) → (sent out s).state ≡ out.state
sent_state out None = refl
sent_state out (Some send) = refl

resent : (me : Member) (out : Out) (x : Exchange) (o : Option Datagram)
    → say_or_repeat me out x o None ≡ sent out (option_map (λ d. (partner_in me x, d)) o)
resent me out x None = refl
resent me out x (Some d) = refl

revealed_again : (me : Member) (out : Out) (x : Exchange) (o : Option (List ℕ × List UpdateId))
    → send_if me out (partner_in me x) (option_map (λ a. Divulge x.round a.0 a.1) o)
    ≡ sent out (option_map (λ d. (partner_in me x, d))
    (option_map (λ b. unsigned (message_to me x b)) (option_map (λ a. Divulge x.round a.0 a.1) o)))
revealed_again me out x None = refl
revealed_again me out x (Some a) = refl

-- an order of a tick sends the datagram that is available now, if there is one
pub sent_again : (me : Member) (out : Out) (kind : Kind) (x : Exchange)
    → perform me out (order_again kind x) ≡ sent out (send_now me (known me out.state) (record { kind = kind; x = x }))
sent_again me out kinds.Divulge x = revealed_again me out x ((known me out.state).revealed x)
sent_again me out kinds.KeyReq x = refl
sent_again me out kinds.Manifest x = resent me out x ((known me out.state).said kinds.Manifest x (role_of me x))
sent_again me out kinds.Block x = resent me out x ((known me out.state).said kinds.Block x (role_of me x))
sent_again me out kinds.Request x = resent me out x ((known me out.state).said kinds.Request x (role_of me x))
sent_again me out kinds.Response x = resent me out x ((known me out.state).said kinds.Response x (role_of me x))
sent_again me out kinds.Query x = resent me out x ((known me out.state).said kinds.Query x (role_of me x))
sent_again me out kinds.Reply x = resent me out x ((known me out.state).said kinds.Reply x (role_of me x))
sent_again me out kinds.Case x = resent me out x ((known me out.state).said kinds.Case x (role_of me x))
sent_again me out kinds.Key x = resent me out x ((known me out.state).said kinds.Key x (role_of me x))
sent_again me out kinds.Evidence x = resent me out x ((known me out.state).said kinds.Evidence x (role_of me x))
sent_again me out kinds.Evict x = resent me out x ((known me out.state).said kinds.Evict x (role_of me x))

-- so does the order for a report
reported : (me : Member) (out : Out) (o : Option (List (List ℕ)))
    → send_if me out 0 (option_map Evidence o) ≡ sent out (option_map (λ evidence. (0, report_of me evidence)) o)
reported me out None = refl
reported me out (Some evidence) = refl

pub sent_report : (me : Member) (out : Out) (party : ℕ)
    → perform me out (Report party) ≡ sent out (report_now me (known me out.state) party)
sent_report me out party = reported me out ((known me out.state).evidence party)

-- it doesn't change the log
pub state_again : (me : Member) (out : Out) (kind : Kind) (x : Exchange) → (perform me out (order_again kind x)).state ≡ out.state
state_again me out kind x =
    ap (λ (o : Out). o.state) (sent_again me out kind x)
    ∙ sent_state out (send_now me (known me out.state) (record { kind = kind; x = x }))

-- ---- lists of orders

-- ---- queued orders

-- the queue with one more order, if there is a datagram
abbrev pub with_order : Queued → Option (ℕ × Datagram) → List Queued → List Queued
with_order order None list = list
with_order order (Some send) list = list ++ order ∷ []

pub pushed : (order : Queued) (s : Option (ℕ × Datagram)) (list : List Queued) → is_some s ≡ true
    → list ++ order ∷ [] ≡ with_order order s list
pushed order None list h = absurd (cc)
pushed order (Some send) list h = refl

pub not_pushed : (order : Queued) (s : Option (ℕ × Datagram)) (list : List Queued) → is_some s ≡ false → list ≡ with_order order s list
not_pushed order None list h = refl
not_pushed order (Some send) list h = absurd (cc)

pub stands_with : (m : Memory) (o p : Orders) (out : Out) (order : Queued) (s : Option (ℕ × Datagram))
    → order_now (member_of m.who) (known (member_of m.who) out.state) order ≡ s
    → IsOrderTimely (member_of m.who) (known (member_of m.who) out.state) order
    → HasOutcome out m o → p.list.items ≡ with_order order s o.list.items → HasOutcome (sent out s) m p
stands_with m o p out order None is timely h e = record {
  tells = h.tells;
  orders = subst (λ list. AreFor (member_of m.who) (known (member_of m.who) out.state) list out.sends) (sym e) h.orders;
}
stands_with m o p out order (Some send) is timely h e = record {
  tells = h.tells;
  orders = subst (λ list. AreFor (member_of m.who) (known (member_of m.who) out.state) list (out.sends ++ send ∷ [])) (sym e)
      (orders_pushed (member_of m.who) (known (member_of m.who) out.state) o.list.items out.sends order send h.orders is timely);
}

-- nothing was sent yet
pub none_stand : (log : Log) (m : Memory) (o : Orders) → Represents log m → o.list.items ≡ [] → HasOutcome (begun log) m o
none_stand log m o h none = record {
  tells = h;
  orders = subst (λ list. AreFor (member_of m.who) (known (member_of m.who) log) list []) (sym none) (record { same = refl; timely = tt });
}

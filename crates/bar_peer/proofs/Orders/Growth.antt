-- What an order adds to the knowledge: earlier orders still send the same datagrams.
use Rattle.std.proofs.Common.{◌≡◌, ◌∙◌, ◌+◌, ℕ, List, [], ◌∷◌, Option, Some, None, map, refl, ap, arith}
use Rattle.std.specs.Prelude.{option_map}
use Rattle.std.specs.List.{AllByRecursion}
use Rattle.std.specs.Bool.{then_some}
use Rattle.bar_window.specs.declared.exchange.Exchange.{Exchange}
use Rattle.bar_window.specs.declared.exchange.Role.{Role}
use Rattle.bar_window.specs.declared.exchange.Role.TheVariants.{Initiator}
use Rattle.bar_window.specs.declared.update.UpdateId.{UpdateId}
use Rattle.bar_wire.specs.Datagram.{Datagram, Body, is_of}
use Rattle.bar_wire.specs.declared.kind.Kind.{Kind}
use Rattle.bar_wire.specs.declared.kind.Kind.TheVariants as kinds
use Rattle.bar_session.specs.Time.{round_after}
use Rattle.bar_rules.specs.Member.{Member}
use Rattle.bar_rules.specs.Peer.Exchanges.{role_of, partner_in, request_kind, answer_kind, committed}
use Rattle.bar_rules.specs.Peer.Knowledge.{Knowledge, known, this_round}
use Rattle.bar_rules.specs.Peer.Log.{Log, Said, ticks, earliest, kept_in}
use Rattle.bar_rules.specs.Peer.Machine.{send_if}
use Rattle.bar_rules.specs.Peer.Orders.{Order, Ask, Answer, Reveal, GiveCase, AskKey, GiveKey, Resend, Report}
use Rattle.bar_rules.specs.Peer.Run.{Out, say_or_repeat, perform}
use Rattle.bar_exchange.specs.declared.say.Say.{Say}
use Rattle.bar_laws.proofs.Logs.{option_or-some}
use Rattle.bar_peer.specs.declared.order.Order.{Order as Queued}
use Rattle.bar_peer.specs.declared.order.Order.TheVariants as queued
use Rattle.bar_peer.specs.Code.Sending.{send_now, order_now, report_of, IsTimely, IsOrderTimely, Answers, MaySayNow}
use Rattle.bar_bytes.proofs.Options.{or-none}

-- ---- the log after an order

state_if_said : (P : Log → Type 0) (me : Member) (out : Out) (x : Exchange) (d : Option Datagram) (body : Option Body) → P out.state
    → ((d : Datagram) → P (Said d ∷ out.state)) → P (say_or_repeat me out x d body).state
state_if_said P me out x (Some d) body same more = same
state_if_said P me out x None None same more = same
state_if_said P me out x None (Some body) same more = more _

state_if_sent : (P : Log → Type 0) (me : Member) (out : Out) (to : ℕ) (body : Option Body) → P out.state → P (send_if me out to body).state
state_if_sent P me out to None same = same
state_if_sent P me out to (Some body) same = same

-- it is the log before the order, or has one more message
pub state_after_order : (P : Log → Type 0) (me : Member) (out : Out) (o : Order) → P out.state → ((d : Datagram) → P (Said d ∷ out.state))
    → P (perform me out o).state
state_after_order P me out (Ask x) same more =
    state_if_said P me out x ((known me out.state).said (request_kind x.kind) x (role_of me x)) _ same more
state_after_order P me out (Answer x) same more =
    state_if_said P me out x ((known me out.state).said (answer_kind x.kind) x (role_of me x)) _ same more
state_after_order P me out (GiveCase x) same more =
    state_if_said P me out x ((known me out.state).said kinds.Case x (role_of me x)) _ same more
state_after_order P me out (GiveKey x) same more =
    state_if_said P me out x ((known me out.state).said kinds.Key x (role_of me x)) _ same more
state_after_order P me out (Resend kind x) same more =
    state_if_said P me out x ((known me out.state).said kind x (role_of me x)) _ same more
state_after_order P me out (Reveal x) same more = state_if_sent P me out (partner_in me x) _ same
state_after_order P me out (AskKey x) same more = same
state_after_order P me out (Report q) same more = state_if_sent P me out 0 _ same

-- ---- the knowledge after an order

-- The round and the evidence are the same, and all that was said or revealed is still known.
pub record Grows (old new : Knowledge) : Type 0 where
  pub time : this_round new ≡ this_round old
  pub said : (kind : Kind) (x : Exchange) (role : Role) (d : Datagram) → old.said kind x role ≡ Some d → new.said kind x role ≡ Some d
  pub revealed : (x : Exchange) (a : List ℕ × List UpdateId) → old.revealed x ≡ Some a → new.revealed x ≡ Some a
  pub evidence : (party : ℕ) → new.evidence party ≡ old.evidence party

same_ticks : (n : ℕ) → n + 0 ≡ n
same_ticks n = omega arith

pub grows : (me : Member) (out : Out) (o : Order) → Grows (known me out.state) (known me (perform me out o).state)
grows me out o =
    state_after_order (λ log. Grows (known me out.state) (known me log)) me out o
    (record { time = refl; said = λ kind x role d is. is; revealed = λ x a is. is; evidence = λ party. refl })
    (λ d.
    record {
      time = ap round_after (same_ticks (ticks out.state));
      said = λ kind x role e is.
          option_or-some ((known me out.state).said kind x role) (then_some (is_of kind x role d.message) d) e is;
      revealed = λ x a is.
          option_or-some ((known me out.state).revealed x)
          (then_some (is_of kinds.Request x Initiator d.message) (committed me (known me out.state).block x)) a is;
      evidence = λ party. or-none (earliest (λ before e. kept_in party e) out.state);
    })

-- ---- what is sent for an order

mapped_stays : {X Y : Type 0} (f : X → Y) (old new : Option X) → ((v : X) → old ≡ Some v → new ≡ Some v) → (y : Y)
    → option_map f old ≡ Some y → option_map f new ≡ Some y
mapped_stays f None new stays y is = absurd (cc)
mapped_stays f (Some v) new stays y is = ap (option_map f) (stays v refl) ∙ is

send_stays_of : (me : Member) (old new : Knowledge) → Grows old new → (kind : Kind) (x : Exchange) (send : ℕ × Datagram)
    → send_now me old (record { kind = kind; x = x }) ≡ Some send → send_now me new (record { kind = kind; x = x }) ≡ Some send
send_stays_of me old new g kinds.Divulge x send is =
    mapped_stays _ _ _ (mapped_stays _ _ _ (mapped_stays _ (old.revealed x) (new.revealed x) (g.revealed x))) send is
send_stays_of me old new g kinds.KeyReq x send is = is
send_stays_of me old new g kinds.Manifest x send is = mapped_stays _ _ _ (g.said kinds.Manifest x (role_of me x)) send is
send_stays_of me old new g kinds.Block x send is = mapped_stays _ _ _ (g.said kinds.Block x (role_of me x)) send is
send_stays_of me old new g kinds.Request x send is = mapped_stays _ _ _ (g.said kinds.Request x (role_of me x)) send is
send_stays_of me old new g kinds.Response x send is = mapped_stays _ _ _ (g.said kinds.Response x (role_of me x)) send is
send_stays_of me old new g kinds.Query x send is = mapped_stays _ _ _ (g.said kinds.Query x (role_of me x)) send is
send_stays_of me old new g kinds.Reply x send is = mapped_stays _ _ _ (g.said kinds.Reply x (role_of me x)) send is
send_stays_of me old new g kinds.Case x send is = mapped_stays _ _ _ (g.said kinds.Case x (role_of me x)) send is
send_stays_of me old new g kinds.Key x send is = mapped_stays _ _ _ (g.said kinds.Key x (role_of me x)) send is
send_stays_of me old new g kinds.Evidence x send is = mapped_stays _ _ _ (g.said kinds.Evidence x (role_of me x)) send is
send_stays_of me old new g kinds.Evict x send is = mapped_stays _ _ _ (g.said kinds.Evict x (role_of me x)) send is

order_stays : (me : Member) (old new : Knowledge) → Grows old new → (order : Queued) (send : ℕ × Datagram)
    → order_now me old order ≡ Some send → order_now me new order ≡ Some send
order_stays me old new g (queued.Say say) send is = send_stays_of me old new g say.kind say.x send is
order_stays me old new g (queued.Report party) send is =
    (λ i. option_map (λ evidence. (0, report_of me evidence)) (g.evidence party i)) ∙ is

pub sends_stay : (me : Member) (old new : Knowledge) → Grows old new → (list : List Queued) (sends : List (ℕ × Datagram))
    → map (order_now me old) list ≡ map (λ send. Some send) sends → map (order_now me new) list ≡ map (λ send. Some send) sends
sends_stay me old new g [] [] is = refl
sends_stay me old new g [] (send ∷ sends) is = absurd (cc)
sends_stay me old new g (order ∷ list) [] is = absurd (cc)
sends_stay me old new g (order ∷ list) (send ∷ sends) is =
    let first : order_now me old order ≡ Some send = cc in
    let rest : map (order_now me old) list ≡ map (λ send. Some send) sends = cc in
    λ i. order_stays me old new g order send first i ∷ sends_stay me old new g list sends rest i

pub timely_still : (me : Member) (old new : Knowledge) → Grows old new → (say : Say) → IsTimely me old say → IsTimely me new say
timely_still me old new g say timely = omega (arith, g.time, timely)

order_timely_still : (me : Member) (old new : Knowledge) → Grows old new → (order : Queued) → IsOrderTimely me old order
    → IsOrderTimely me new order
order_timely_still me old new g (queued.Say say) timely = timely_still me old new g say timely
order_timely_still me old new g (queued.Report party) timely = tt

pub all_timely_still : (me : Member) (old new : Knowledge) → Grows old new → (list : List Queued)
    → AllByRecursion (IsOrderTimely me old) list → AllByRecursion (IsOrderTimely me new) list
all_timely_still me old new g [] all = tt
all_timely_still me old new g (order ∷ list) all =
    (order_timely_still me old new g order all.0, all_timely_still me old new g list all.1)

-- ---- an order of this member stays one

answers_still : (me : Member) (old new : Knowledge) → Grows old new → (kind : Kind) (x : Exchange) → Answers me old kind x
    → Answers me new kind x
answers_still me old new g kinds.Response x a = record { kind_is = a.kind_is; side = a.side; early = omega (arith, g.time, a.early) }
answers_still me old new g kinds.Reply x a = record { kind_is = a.kind_is; side = a.side; early = omega (arith, g.time, a.early) }
answers_still me old new g kinds.Divulge x a = a
answers_still me old new g kinds.KeyReq x a = a
answers_still me old new g kinds.Manifest x a = a
answers_still me old new g kinds.Block x a = a
answers_still me old new g kinds.Request x a = a
answers_still me old new g kinds.Query x a = a
answers_still me old new g kinds.Case x a = a
answers_still me old new g kinds.Key x a = a
answers_still me old new g kinds.Evidence x a = a
answers_still me old new g kinds.Evict x a = a

pub own_still : (me : Member) (old new : Knowledge) → Grows old new → (say : Say) → MaySayNow me old say → MaySayNow me new say
own_still me old new g say own = record {
  ours = own.ours;
  timely = timely_still me old new g say own.timely;
  answers = answers_still me old new g say.kind say.x own.answers;
}

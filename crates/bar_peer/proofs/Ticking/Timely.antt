-- The messages that are sent again at a tick may still be sent.
use Rattle.std.proofs.Common.{◌≡◌, ℕ, ◌+◌, true, not, List, [], ◌∷◌, map, subst, sym}
use Rattle.std.specs.List.{AllByRecursion}
use Rattle.std.proofs.lemmas.Bool.{leb-true}
use Rattle.bar_bytes.proofs.Tests.{and-second}
use Rattle.bar_window.specs.declared.exchange.Exchange.{Exchange}
use Rattle.bar_window.specs.declared.exchange.XKind.{XKind}
use Rattle.bar_window.specs.declared.exchange.XKind.TheVariants.{Balanced, Push}
use Rattle.bar_wire.specs.declared.kind.Kind.{Kind}
use Rattle.bar_wire.specs.declared.kind.Kind.TheVariants as kinds
use Rattle.bar_rules.specs.Member.{Member}
use Rattle.bar_rules.specs.Peer.Agreement.{IsRecent, IsRepeatable}
use Rattle.bar_rules.specs.Peer.Exchanges.{partner_in, request_kind}
use Rattle.bar_rules.specs.Peer.Knowledge.{Knowledge, this_round, answer_deadline}
use Rattle.bar_rules.specs.Peer.Orders.{Order, Resend, Reveal, AskKey}
use Rattle.bar_rules.specs.Peer.Ticks.{again, lacks_case}
use Rattle.bar_laws.proofs.Logs.{again-all, when-all}
use Rattle.bar_exchange.specs.Code.Says.{order_again}
use Rattle.bar_exchange.specs.declared.say.Say.{Say}
use Rattle.bar_peer.specs.Code.Sending.{IsTimely}
use Rattle.bar_peer.specs.Code.Ticking.{orders_of_open}

-- the message that an order sends again may still be sent
abbrev IsTimelyOrder : Member → Knowledge → Order → Type 0
IsTimelyOrder me k (Resend kind x) = IsRepeatable me k kind x.round
IsTimelyOrder me k (Reveal x) = IsRepeatable me k kinds.Divulge x.round
IsTimelyOrder me k (AskKey x) = IsRepeatable me k kinds.KeyReq x.round
IsTimelyOrder me k _ = ⊥

of_order : (me : Member) (k : Knowledge) (kind : Kind) (x : Exchange) → IsTimelyOrder me k (order_again kind x)
    → IsRepeatable me k kind x.round
of_order me k kinds.Manifest x h = h
of_order me k kinds.Block x h = h
of_order me k kinds.Request x h = h
of_order me k kinds.Response x h = h
of_order me k kinds.Divulge x h = h
of_order me k kinds.Query x h = h
of_order me k kinds.Reply x h = h
of_order me k kinds.Case x h = h
of_order me k kinds.KeyReq x h = h
of_order me k kinds.Key x h = h
of_order me k kinds.Evidence x h = h
of_order me k kinds.Evict x h = h

of_orders : (me : Member) (k : Knowledge) (says : List Say)
    → AllByRecursion (IsTimelyOrder me k) (map (λ say. order_again say.kind say.x) says) → AllByRecursion (IsTimely me k) says
of_orders me k [] h = tt
of_orders me k (say ∷ says) h = (of_order me k say.kind say.x h.0, of_orders me k says h.1)

pub timely_request : (me : Member) (k : Knowledge) (kind : XKind) (round : ℕ) → IsRecent me k round
    → IsRepeatable me k (request_kind kind) round
timely_request me k Balanced round h = h
timely_request me k Push round h = h

timely_case : (me : Member) (k : Knowledge) (x : Exchange) → lacks_case me k x ≡ true → IsRepeatable me k kinds.Case x.round
timely_case me k x h = leb-true (this_round k) (x.round + answer_deadline) (and-second _ _ h)

timely_again : (me : Member) (k : Knowledge) (x : Exchange) → IsRecent me k x.round → AllByRecursion (IsTimelyOrder me k) (again me k x)
timely_again me k x recent =
    again-all (IsTimelyOrder me k) me k x (timely_request me k x.kind x.round recent) (λ h. (recent, timely_case me k x h)) (λ _. recent)

timely_open : (me : Member) (k : Knowledge) (x : Exchange) → IsRecent me k x.round
    → AllByRecursion (IsTimelyOrder me k) (orders_of_open me k x)
timely_open me k x recent =
    when-all (IsTimelyOrder me k) (not (k.is_announced (partner_in me x))) (again me k x) (λ _. timely_again me k x recent)

-- the same holds for the messages of these orders
pub again_is_timely : (me : Member) (k : Knowledge) (x : Exchange) (says : List Say) → IsRecent me k x.round
    → map (λ say. order_again say.kind say.x) says ≡ orders_of_open me k x → AllByRecursion (IsTimely me k) says
again_is_timely me k x says recent is =
    of_orders me k says (subst (λ os. AllByRecursion (IsTimelyOrder me k) os) (sym is) (timely_open me k x recent))

-- What the orders of a peer send, given its knowledge.
use Rattle.std.specs.Prelude.{◌≡◌, ℕ, ◌+◌, ◌≤◌, ◌++◌, ◌∷◌, [], Bool, true, false, List, Option, Some, option_map, map}
use Rattle.std.specs.List.{AllByRecursion}
use Rattle.bar_window.specs.declared.exchange.Exchange.{Exchange}
use Rattle.bar_window.specs.declared.exchange.Role.TheVariants.{Responder}
use Rattle.bar_window.specs.declared.exchange.XKind.{XKind}
use Rattle.bar_window.specs.declared.exchange.XKind.TheVariants.{Balanced, Push}
use Rattle.bar_window.specs.Exchange.{party_on}
use Rattle.bar_wire.specs.Datagram.{Datagram, Evidence}
use Rattle.bar_wire.specs.declared.kind.Kind.{Kind}
use Rattle.bar_wire.specs.declared.kind.Kind.TheVariants as kinds
use Rattle.bar_rules.specs.Member.{Member}
use Rattle.bar_rules.specs.Values.{unsigned}
use Rattle.bar_rules.specs.Peer.Agreement.{IsRepeatable}
use Rattle.bar_rules.specs.Peer.Exchanges.{role_of, partner_in}
use Rattle.bar_rules.specs.Peer.Knowledge.{Knowledge, known, this_round, answer_deadline}
use Rattle.bar_rules.specs.Peer.Machine.{message_to}
use Rattle.bar_rules.specs.Peer.Run.{Out}
use Rattle.bar_rules.specs.Peer.Writing.{body_now}
use Rattle.bar_exchange.specs.declared.say.Say.{Say}
use Rattle.bar_peer.specs.declared.memory.Memory.{Memory}
use Rattle.bar_peer.specs.declared.order.Order.{Order}
use Rattle.bar_peer.specs.declared.order.Order.TheVariants as orders
use Rattle.bar_peer.specs.Code.Orders.{Orders}
use Rattle.bar_peer.specs.Code.Memory.{Represents, member_of}

-- a message of an exchange that isn't signed
abbrev pub unsigned_now : Member → Knowledge → Kind → Exchange → Option Datagram
unsigned_now me k kind x = option_map (λ b. unsigned (message_to me x b)) (body_now me k kind x)

-- the datagram of a kind that this member sends in an exchange: one that it signed before, or one that isn't signed
abbrev pub datagram_now : Member → Knowledge → Kind → Exchange → Option Datagram
datagram_now me k kinds.Divulge x = unsigned_now me k kinds.Divulge x
datagram_now me k kinds.KeyReq x = unsigned_now me k kinds.KeyReq x
datagram_now me k kind x = k.said kind x (role_of me x)

-- the same with its receiver
abbrev pub send_now : Member → Knowledge → Say → Option (ℕ × Datagram)
send_now me k say = option_map (λ d. (partner_in me say.x, d)) (datagram_now me k say.kind say.x)

-- what an order sends may still be sent again
abbrev pub IsTimely : Member → Knowledge → Say → Type 0
IsTimely me k say = IsRepeatable me k say.kind say.x.round

-- the report of the evidence that is kept against a party, which is sent to the broadcaster, party 0
abbrev pub report_of : Member → List (List ℕ) → Datagram
report_of me evidence = unsigned (record { from = me.party; to = 0; body = Evidence evidence })

abbrev pub report_now : Member → Knowledge → ℕ → Option (ℕ × Datagram)
report_now me k party = option_map (λ evidence. (0, report_of me evidence)) (k.evidence party)

-- what an order sends, with its receiver
abbrev pub order_now : Member → Knowledge → Order → Option (ℕ × Datagram)
order_now me k (orders.Say say) = send_now me k say
order_now me k (orders.Report party) = report_now me k party

-- what an order sends may still be sent
abbrev pub IsOrderTimely : Member → Knowledge → Order → Type 0
IsOrderTimely me k (orders.Say say) = IsTimely me k say
IsOrderTimely me k (orders.Report party) = Unit {0}

-- The orders are those of the sent datagrams, in order, and their datagrams may still be sent.
pub record AreFor (me : Member) (k : Knowledge) (list : List Order) (sends : List (ℕ × Datagram)) : Type 0 where
  pub same : map (order_now me k) list ≡ map (λ send. Some send) sends
  pub timely : AllByRecursion (IsOrderTimely me k) list

-- An answer is to a request for an exchange of this kind, this member is the responder, and it is in time.
pub record IsAnswer (me : Member) (k : Knowledge) (x : Exchange) (kind : XKind) : Type 0 where
  pub kind_is : x.kind ≡ kind
  pub side : role_of me x ≡ Responder
  pub early : this_round k ≤ x.round + answer_deadline

-- this holds for a RESPONSE and a REPLY
abbrev pub Answers : Member → Knowledge → Kind → Exchange → Type 0
Answers me k kinds.Response x = IsAnswer me k x Balanced
Answers me k kinds.Reply x = IsAnswer me k x Push
Answers me k kind x = Unit {0}

-- The order is of an exchange of this member, and its message may be sent now. An answer fits its exchange.
pub record MaySayNow (me : Member) (k : Knowledge) (say : Say) : Type 0 where
  pub ours : party_on say.x (role_of me say.x) ≡ me.party
  pub timely : IsTimely me k say
  pub answers : Answers me k say.kind say.x

-- one more datagram is sent, that of the order, or none
abbrev pub Adds : Member → Knowledge → Say → List (ℕ × Datagram) → List (ℕ × Datagram) → Bool → Type 0
Adds me k say old new true = (send : ℕ × Datagram) × (send_now me k say ≡ Some send) × (new ≡ old ++ send ∷ [])
Adds me k say old new false = new ≡ old

-- The memory represents the log after an order, and `is_sent` says whether the order's datagram was sent.
pub record IsCarriedOut (me : Member) (say : Say) (old new : Out) (is_sent : Bool) (m : Memory) : Type 0 where
  pub tells : Represents new.state m
  pub sends : Adds me (known me new.state) say old.sends new.sends is_sent

-- The memory represents the log, and the orders are those of the sent datagrams.
pub record HasOutcome (out : Out) (m : Memory) (o : Orders) : Type 0 where
  pub tells : Represents out.state m
  pub orders : AreFor (member_of m.who) (known (member_of m.who) out.state) o.list.items out.sends

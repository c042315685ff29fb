-- The orders at a tick, one group after another.
use Rattle.std.specs.Prelude.{◌≡◌, ◌≤◌, ℕ, ◌+◌, ◌*◌, Bool, not, ◌&&◌, ◌||◌, ◌==◌, nat_le, List, [], is_some, length}
use Rattle.std.specs.List.{flat_map}
use Rattle.bar_window.specs.declared.exchange.Exchange.{Exchange}
use Rattle.bar_window.specs.declared.exchange.XKind.{XKind}
use Rattle.bar_wire.specs.Limits.{exchanges_a_round}
use Rattle.bar_session.specs.Time.{round_after, slot_after}
use Rattle.bar_rules.specs.Member.{Session, Member}
use Rattle.bar_rules.specs.Peer.Debts.{owes}
use Rattle.bar_rules.specs.Peer.Exchanges.{partner_in}
use Rattle.bar_rules.specs.Peer.Knowledge.{Knowledge, known}
use Rattle.bar_rules.specs.Peer.Log.{Log}
use Rattle.bar_rules.specs.Peer.Orders.{Order}
use Rattle.bar_rules.specs.Peer.Replies.{orders_when}
use Rattle.bar_rules.specs.Peer.Rules.{IsObedient}
use Rattle.bar_rules.specs.Peer.Run.{Out, perform_all}
use Rattle.bar_rules.specs.Peer.Ticks.{again, asking_partner, new_requests, orders_at_tick, reports}
use Rattle.bar_rules.specs.Runs.{begun}
use Rattle.bar_peer.specs.declared.credentials.Credentials.{Credentials}
use Rattle.bar_peer.specs.declared.memory.Memory.{Memory}
use Rattle.bar_peer.specs.Code.Orders.{Orders}
use Rattle.bar_peer.specs.Code.Memory.{member_of, Represents}
use Rattle.bar_peer.specs.Code.Sending.{HasOutcome}

-- what is sent again for an open exchange whose partner isn't announced evicted
abbrev pub orders_of_open : Member → Knowledge → Exchange → List Order
orders_of_open me k x = orders_when (not (k.is_announced (partner_in me x))) (again me k x)

-- the same for all open exchanges
abbrev pub orders_of_opens : Member → Knowledge → List Order
orders_of_opens me k = flat_map (orders_of_open me k) k.opens

-- at most two for each open exchange, two for the requests of a round, and a report for each peer
abbrev pub most_orders : Session → ℕ
most_orders s = 2 * (exchanges_a_round * (s.shape.life + 2)) + 2 + s.shape.peers

-- whether it is the first slot of a round of the session
abbrev pub is_first_slot : Session → ℕ → Bool
is_first_slot s ticks = (slot_after ticks == 0) && (nat_le 1 (round_after ticks) && nat_le (round_after ticks) s.shape.rounds)

-- a party that isn't asked: it is announced evicted, or owes a key
abbrev pub is_unasked : Member → Knowledge → ℕ → Bool
is_unasked me k party = k.is_announced party || owes me k party

-- The partner of a round is asked for an exchange of a kind, unless it was unasked by the knowledge before. The earlier outcome is kept.
abbrev pub AsksPartner : Credentials → ℕ → XKind → Memory → Orders → Memory → Orders → Type 0
AsksPartner who round kind m o n p =
    let me : Member = member_of who in
    (out : Out) (before : Knowledge) → ((party : ℕ) → is_unasked me before party ≡ is_unasked me (known me out.state) party)
    → IsObedient me (perform_all me out (asking_partner me before round kind)).state → HasOutcome out m o
    → length o.list.items + 1 ≤ o.room → HasOutcome (perform_all me out (asking_partner me before round kind)) n p

-- the partners of a round are asked
abbrev pub AsksPartners : Credentials → ℕ → Memory → Orders → Memory → Orders → Type 0
AsksPartners who round m o n p =
    let me : Member = member_of who in
    (out : Out) → IsObedient me (perform_all me out (new_requests me (known me out.state) round)).state → HasOutcome out m o
    → length o.list.items + 2 ≤ o.room → HasOutcome (perform_all me out (new_requests me (known me out.state) round)) n p

-- whether the evidence against a party is to be reported
abbrev pub is_reported : Knowledge → ℕ → Bool
is_reported k party = is_some (k.evidence party) && not (k.is_announced party)

-- The evidence against peers is reported, as kept and announced before. The earlier outcome is kept.
abbrev pub Reports : Memory → Orders → Orders → Type 0
Reports m o p =
    let me : Member = member_of m.who in
    (out : Out) (before : Knowledge) → ((party : ℕ) → before.is_announced party ≡ (known me out.state).is_announced party)
    → ((party : ℕ) → before.evidence party ≡ (known me out.state).evidence party) → HasOutcome out m o
    → length o.list.items + m.who.session.shape.peers ≤ o.room → HasOutcome (perform_all me out (reports me before)) m p

-- after a tick's orders, the memory and the queue have the outcome of the tick
abbrev pub Acts : Memory → Orders → Memory → Orders → Type 0
Acts m o n p =
    let me : Member = member_of m.who in
    (log : Log) → let out : Out = perform_all me (begun log) (orders_at_tick me (known me log)) in
    IsObedient me out.state → Represents log m → o.list.items ≡ [] → most_orders m.who.session ≤ o.room
    → HasOutcome out n p

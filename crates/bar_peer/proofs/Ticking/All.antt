-- All that a tick sends: messages that are sent again, the requests of a round, and reports.
use Rattle.std.proofs.Common.{◌≡◌, ◌≤◌, ◌+◌, ℕ, ◌∙◌, ◌==◌, Bool, true, false, List, ◌++◌, length, refl, sym, ap, subst}
use Rattle.std.proofs.lemmas.List.{append-nil}
use Rattle.bar_session.specs.Time.{round_after, slot_after}
use Rattle.bar_rules.specs.Member.{Member}
use Rattle.bar_rules.specs.Peer.Knowledge.{Knowledge, known, this_round}
use Rattle.bar_rules.specs.Peer.Log.{Log}
use Rattle.bar_rules.specs.Peer.Orders.{Order}
use Rattle.bar_rules.specs.Peer.Replies.{orders_when}
use Rattle.bar_rules.specs.Peer.Rules.{IsObedient}
use Rattle.bar_rules.specs.Peer.Run.{Out, perform_all}
use Rattle.bar_rules.specs.Peer.Ticks.{new_requests, reports, orders_at_tick}
use Rattle.bar_rules.specs.Runs.{begun}
use Rattle.bar_peer.specs.declared.credentials.Credentials.{Credentials}
use Rattle.bar_peer.specs.declared.memory.Memory.{Memory}
use Rattle.bar_peer.specs.Code.Orders.{Orders}
use Rattle.bar_peer.specs.Code.Memory.{member_of}
use Rattle.bar_peer.specs.Code.Sending.{HasOutcome}
use Rattle.bar_peer.specs.Code.Ticking.{orders_of_opens, is_first_slot, AsksPartners, Reports}
use Rattle.bar_laws.proofs.Fitting.{perform_all-before}
use Rattle.bar_peer.proofs.Ticking.Unchanged.{announced_after, evidence_after}
use Rattle.bar_laws.proofs.Repeating.{all-append}
use Rattle.bar_peer.proofs.Orders.Unlogged.{opens_state}

-- the messages that are sent again, and the requests that are due
abbrev first_orders : Member → Knowledge → Bool → List Order
first_orders me k is_first = orders_of_opens me k ++ orders_when is_first (new_requests me k (this_round k))

-- what a tick sends, depending on whether requests and reports are due
at_tick : (me : Member) (log : Log) (is_first is_last : Bool) → is_first_slot me.session (known me log).ticks ≡ is_first
    → (slot_after (known me log).ticks == 7) ≡ is_last
    → perform_all me (perform_all me (begun log) (first_orders me (known me log) is_first))
    (orders_when is_last (reports me (known me log)))
    ≡ perform_all me (begun log) (orders_at_tick me (known me log))
at_tick me log is_first is_last first last =
    let k : Knowledge = known me log in
    sym (all-append me (begun log) (first_orders me k is_first) (orders_when is_last (reports me k)))
    ∙ (λ i. perform_all me (begun log) (first_orders me k (sym first i) ++ orders_when (sym last i) (reports me k)))

-- The outcome has the messages that are sent again, and the requests if they are due.
abbrev pub StandsAsked : Memory → Log → Memory → Orders → Type 0
StandsAsked m log n p =
    let me : Member = member_of m.who in
    HasOutcome (perform_all me (begun log) (first_orders me (known me log) (is_first_slot me.session m.ticks))) n p

-- This outcome holds, the peer and its time are the same, and at most two orders were added.
pub record IsAsked (m n : Memory) (o p : Orders) (log : Log) : Type 0 where
  pub stands : StandsAsked m log n p
  pub who : n.who ≡ m.who
  pub ticks : n.ticks ≡ m.ticks
  pub length : length p.list.items ≤ length o.list.items + 2
  pub room : p.room ≡ o.room

pub asked_at_tick : (m n : Memory) (o p : Orders) (log : Log) → (known (member_of m.who) log).ticks ≡ m.ticks
    → is_first_slot m.who.session m.ticks ≡ true → AsksPartners m.who (round_after m.ticks) m o n p → length o.list.items + 2 ≤ o.room
    → HasOutcome (perform_all (member_of m.who) (begun log) (orders_of_opens (member_of m.who) (known (member_of m.who) log))) m o
    → IsObedient (member_of m.who)
    (perform_all (member_of m.who) (begun log) (orders_at_tick (member_of m.who) (known (member_of m.who) log))).state
    → StandsAsked m log n p
asked_at_tick m n o p log time first asks room h obedient =
    let me : Member = member_of m.who in
    let k : Knowledge = known me log in
    let before : Out = perform_all me (begun log) (orders_of_opens me k) in
    let state : before.state ≡ log = opens_state me k (begun log) k.opens in
    let between : Out = perform_all me (begun log) (first_orders me k true) in
    let is_last : Bool = slot_after k.ticks == 7 in
    let allowed : IsObedient me between.state =
    perform_all-before me (orders_when is_last (reports me k)) between
    (subst (λ (out : Out). IsObedient me out.state) (sym (at_tick me log true is_last (ap (is_first_slot me.session) time ∙ first) refl)) obedient)
    in
    let same : between ≡ perform_all me before (new_requests me (known me before.state) (round_after m.ticks)) =
    all-append me (begun log) (orders_of_opens me k) (new_requests me k (this_round k))
    ∙ (λ i. perform_all me before (new_requests me (known me (sym state i)) (round_after (time i))))
    in
    let asked : HasOutcome between n p =
    subst (λ (out : Out). HasOutcome out n p) (sym same)
    (asks before (subst (λ (out : Out). IsObedient me out.state) same allowed) h room)
    in
    subst (λ (is_first : Bool). HasOutcome (perform_all me (begun log) (first_orders me k is_first)) n p) (sym first) asked

pub unasked_at_tick : (m : Memory) (o : Orders) (log : Log) → is_first_slot m.who.session m.ticks ≡ false
    → HasOutcome (perform_all (member_of m.who) (begun log) (orders_of_opens (member_of m.who) (known (member_of m.who) log))) m o
    → StandsAsked m log m o
unasked_at_tick m o log other h =
    let me : Member = member_of m.who in
    let k : Knowledge = known me log in
    subst (λ (os : List Order). HasOutcome (perform_all me (begun log) os) m o)
    (sym (append-nil (orders_of_opens me k))
    ∙ (λ i. first_orders me k (sym other i)))
    h

-- reports, for a memory with these credentials
abbrev ReportsOf : Credentials → Memory → Orders → Orders → Type 0
ReportsOf who n p q =
    (out : Out) (before : Knowledge)
    → ((party : ℕ) → before.is_announced party ≡ (known (member_of who) out.state).is_announced party)
    → ((party : ℕ) → before.evidence party ≡ (known (member_of who) out.state).evidence party) → HasOutcome out n p
    → length p.list.items + who.session.shape.peers ≤ p.room
    → HasOutcome (perform_all (member_of who) out (reports (member_of who) before)) n q

pub reported_at_tick : (m n : Memory) (p q : Orders) (log : Log) → n.who ≡ m.who → (known (member_of m.who) log).ticks ≡ m.ticks
    → (slot_after m.ticks == 7) ≡ true → Reports n p q → length p.list.items + m.who.session.shape.peers ≤ p.room → StandsAsked m log n p
    → HasOutcome (perform_all (member_of m.who) (begun log) (orders_at_tick (member_of m.who) (known (member_of m.who) log))) n q
reported_at_tick m n p q log who time last all room h =
    let me : Member = member_of m.who in
    let k : Knowledge = known me log in
    let is_first : Bool = is_first_slot me.session m.ticks in
    let os : List Order = first_orders me k is_first in
    let told : ReportsOf m.who n p q = subst (λ (w : Credentials). ReportsOf w n p q) who all in
    subst (λ (out : Out). HasOutcome out n q)
    (at_tick me log is_first true (ap (is_first_slot me.session) time) (ap (λ (ticks : ℕ). slot_after ticks == 7) time ∙ last))
    (told (perform_all me (begun log) os) k (λ party. sym (announced_after me (begun log) os party))
    (λ party. sym (evidence_after me (begun log) os party))
    h
    room)

pub unreported_at_tick : (m n : Memory) (p : Orders) (log : Log) → (known (member_of m.who) log).ticks ≡ m.ticks
    → (slot_after m.ticks == 7) ≡ false → StandsAsked m log n p
    → HasOutcome (perform_all (member_of m.who) (begun log) (orders_at_tick (member_of m.who) (known (member_of m.who) log))) n p
unreported_at_tick m n p log time other h =
    let me : Member = member_of m.who in
    let is_first : Bool = is_first_slot me.session m.ticks in
    subst (λ (out : Out). HasOutcome out n p)
    (at_tick me log is_first false (ap (is_first_slot me.session) time) (ap (λ (ticks : ℕ). slot_after ticks == 7) time ∙ other))
    h

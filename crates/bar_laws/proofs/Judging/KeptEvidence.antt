-- Evidence is tried at each datagram before it is admitted, and what is kept is shown ever after.
use Rattle.bar_rules.specs.Runs.{begun}
use Rattle.bar_rules.specs.Peer.Admission.{is_admitted}
use Rattle.bar_rules.specs.Peer.Evidence.{is_tried, accuses, new_evidence}
use Rattle.bar_rules.specs.Peer.Knowledge.{known}
use Rattle.bar_rules.specs.Peer.Log.{kept, kept_in, Log, Entry, Ticked, Heard, Said, Kept, table, ticks}
use Rattle.bar_rules.specs.Peer.Machine.{send_if}
use Rattle.bar_session.specs.Time.{last_tick}
use Rattle.bar_rules.specs.Member.{Member}
use Rattle.bar_rules.specs.Peer.Orders.{Order, Ask, Answer, Reveal, GiveCase, AskKey, GiveKey, Resend, Report}
use Rattle.bar_rules.specs.Peer.Replies.{repeated, reply_orders}
use Rattle.bar_rules.specs.Peer.Rules.{IsObedient, MayKeep}
use Rattle.bar_rules.specs.Peer.Run.{Out, say_or_repeat, perform, perform_all, answered_to, answer_repeat, report_new, take_datagram, with_evidence, step, take_input, log_after}
use Rattle.bar_rules.specs.Peer.Ticks.{orders_at_tick}
use Rattle.bar_rules.specs.Values.{datagram_of}
use Rattle.bar_rules.specs.Judge.Verdict.{Verdict, Fault, Shown, NotShown, verdict}
use Rattle.bar_rules.specs.Peer.Machine as machine
use Rattle.bar_terms.specs.Table.{Table, Extends}
use Rattle.bar_window.specs.declared.exchange.Exchange.{Exchange}
use Rattle.bar_wire.specs.Datagram.{Datagram, Body}
use Rattle.bar_wire.specs.Inputs.{Input}
use Rattle.bar_wire.specs.Inputs as event
use Rattle.std.proofs.Common.{◌≡◌, ℕ, Bool, true, false, List, [], ◌∷◌, ◌++◌, refl, ap, subst, cond, eqb}
use Rattle.std.specs.Prelude.{Option, Some, None, is_some, nat_le}
use Rattle.std.specs.Bool.{then_some}
use Rattle.std.proofs.lemmas.Bool.{and_parts, eq-eqb, eqb-true, both_ways, false_from_ne_true, not-true}
use Rattle.bar_laws.proofs.Logs.{IsEntry, IsFind, find-of, allowed-at, later-entry, table-later, extends_trans}
use Rattle.bar_laws.proofs.Judging.Accuses.{or-second}
use Rattle.bar_laws.proofs.Judging.ShownStays.{BadStaysBad, verdict-stays}
use Rattle.bar_bytes.proofs.Options.{then-is}

-- no datagram in the log completes evidence that was not kept before it
abbrev pub IsWatchful : Member → Log → Type 0
IsWatchful me [] = Unit {0}
IsWatchful me (Heard d ∷ log) = (new_evidence me (known me log) d ≡ None) × IsWatchful me log
IsWatchful me (Ticked ∷ log) = IsWatchful me log
IsWatchful me (Said d ∷ log) = IsWatchful me log
IsWatchful me (Kept q e ∷ log) = IsWatchful me log

watchful-append : (me : Member) (new log : Log) → IsWatchful me (new ++ log) → IsWatchful me log
watchful-append me [] log h = h
watchful-append me (Heard d ∷ new) log h = watchful-append me new log h.1
watchful-append me (Ticked ∷ new) log h = watchful-append me new log h
watchful-append me (Said d ∷ new) log h = watchful-append me new log h
watchful-append me (Kept q e ∷ new) log h = watchful-append me new log h

pub watchful-at : (me : Member) (log before : Log) (d : Datagram) → IsEntry log before (Heard d) → IsWatchful me log → new_evidence me (known me before) d ≡ None
watchful-at me log before d place h = (watchful-append me place.after (Heard d ∷ before) (subst (λ l. IsWatchful me l) place.split h)).0

-- ---- orders add nothing but what is said

say-watchful : (me : Member) (out : Out) (x : Exchange) (o : Option Datagram) (b : Option Body) → IsWatchful me out.state → IsWatchful me (say_or_repeat me out x o b).state
say-watchful me out x (Some d) b h = h
say-watchful me out x None (Some body) h = h
say-watchful me out x None None h = h

send-watchful : (me : Member) (out : Out) (to : ℕ) (b : Option Body) → IsWatchful me out.state → IsWatchful me (send_if me out to b).state
send-watchful me out to (Some body) h = h
send-watchful me out to None h = h

perform-watchful : (me : Member) (out : Out) (o : Order) → IsWatchful me out.state → IsWatchful me (perform me out o).state
perform-watchful me out (Ask x) h = say-watchful me out x _ _ h
perform-watchful me out (Answer x) h = say-watchful me out x _ _ h
perform-watchful me out (GiveCase x) h = say-watchful me out x _ _ h
perform-watchful me out (GiveKey x) h = say-watchful me out x _ _ h
perform-watchful me out (Resend kind x) h = say-watchful me out x _ _ h
perform-watchful me out (Reveal x) h = send-watchful me out _ _ h
perform-watchful me out (AskKey x) h = h
perform-watchful me out (Report q) h = send-watchful me out _ _ h

perform_all-watchful : (me : Member) (out : Out) (os : List Order) → IsWatchful me out.state → IsWatchful me (perform_all me out os).state
perform_all-watchful me out [] h = h
perform_all-watchful me out (o ∷ os) h = perform_all-watchful me (perform me out o) os (perform-watchful me out o h)

-- ---- a datagram is tried before it is admitted

kept-new : (log : Log) (q : ℕ) (e : List (List ℕ)) → is_some (kept (Kept q e ∷ log) q) ≡ true
kept-new log q e = or-second (kept log q) (then_some (eqb q q) e) (rw (eq-eqb q q refl) refl)

-- if evidence against the sender is kept, none is tried
pub not-tried : (me : Member) (log : Log) (d : Datagram) → is_some (kept log d.message.from) ≡ true → is_tried me (known me log) d ≡ false
not-tried me log d h = false_from_ne_true (is_tried me (known me log) d) (λ t. both_ways _ (not-true _ (and_parts _ _ (and_parts _ _ t).0).1) h)

pub none-completed : (me : Member) (log : Log) (d : Datagram) → is_some (kept log d.message.from) ≡ true → new_evidence me (known me log) d ≡ None
unfolding new_evidence
none-completed me log d h = rw (not-tried me log d h) refl

evidence-watchful : (me : Member) (log : Log) (d : Datagram) → IsWatchful me log
    → IsWatchful me (with_evidence me log d.message.from (new_evidence me (known me log) d)) × (new_evidence me (known me (with_evidence me log d.message.from (new_evidence me (known me log) d))) d ≡ None)
evidence-watchful me log d h = go (new_evidence me (known me log) d) refl
  where
    go : (o : Option (List (List ℕ))) → new_evidence me (known me log) d ≡ o → IsWatchful me (with_evidence me log d.message.from o) × (new_evidence me (known me (with_evidence me log d.message.from o)) d ≡ None)
    go None e = (h, e)
    go (Some f) e = (h, none-completed me (Kept d.message.from f ∷ log) d (kept-new log d.message.from f))

repeat-watchful : (me : Member) (log : Log) (o : Option Datagram) → IsWatchful me log → IsWatchful me (answer_repeat me log o).state
repeat-watchful me log None h = h
repeat-watchful me log (Some d) h = perform_all-watchful me (begun log) (reply_orders me (known me log) false d) h

answered-watchful : (me : Member) (log : Log) (d : Datagram) → IsWatchful me log → new_evidence me (known me log) d ≡ None → IsWatchful me (answered_to me log d).state
answered-watchful me log d h e = go (is_admitted me (known me log) d)
  where
    go : (b : Bool) → IsWatchful me (cond b (perform_all me (begun (Heard d ∷ log)) (reply_orders me (known me (Heard d ∷ log)) true d)) (answer_repeat me log (repeated me (known me log) d))).state
    go true = perform_all-watchful me (begun (Heard d ∷ log)) (reply_orders me (known me (Heard d ∷ log)) true d) (e, h)
    go false = repeat-watchful me log (repeated me (known me log) d) h

report-watchful : (me : Member) (out : Out) (q : ℕ) (o : Option (List (List ℕ))) → IsWatchful me out.state → IsWatchful me (report_new me out q o).state
report-watchful me out q None h = h
report-watchful me out q (Some f) h = perform-watchful me out (Report q) h

datagram-watchful : (me : Member) (log : Log) (o : Option Datagram) → IsWatchful me log → IsWatchful me (take_datagram me log o).state
datagram-watchful me log None h = h
datagram-watchful me log (Some d) h =
    let p = evidence-watchful me log d h in
    report-watchful me (answered_to me (with_evidence me log d.message.from (new_evidence me (known me log) d)) d) d.message.from (new_evidence me (known me log) d)
    (answered-watchful me (with_evidence me log d.message.from (new_evidence me (known me log) d)) d p.0 p.1)

input-watchful : (me : Member) (log : Log) (input : Input) → IsWatchful me log → IsWatchful me (take_input me log input).state
input-watchful me log event.Tick h = perform_all-watchful me (begun (Ticked ∷ log)) (orders_at_tick me (known me (Ticked ∷ log))) h
input-watchful me log (event.Datagram bytes) h = datagram-watchful me log (datagram_of me.session bytes) h

step-watchful : (me : Member) (log : Log) (input : Input) → IsWatchful me log → IsWatchful me (step me log input).state
unfolding machine.step
step-watchful me log input h = go (nat_le (last_tick me.session) (ticks log))
  where
    go : (b : Bool) → IsWatchful me (cond b (begun log) (take_input me log input)).state
    go true = h
    go false = input-watchful me log input h

pub run-watchful : (me : Member) (log : Log) (inputs : List Input) → IsWatchful me log → IsWatchful me (log_after me log inputs)
run-watchful me log [] h = h
run-watchful me log (input ∷ inputs) h = run-watchful me (step me log input).state inputs (step-watchful me log input h)

-- ---- what is kept is shown

pub named-shown : (v : Verdict) (q : ℕ) → accuses q v ≡ true → (fault : Fault) × (v ≡ Shown q fault)
named-shown (Shown p fault) q e = (fault, ap (λ z. Shown z fault) (eqb-true p q e))
named-shown (NotShown why) q e = cc

-- each evidence kept is shown against its party under every table that extends the log's
pub kept-shown : BadStaysBad → (me : Member) (log : Log) (q : ℕ) (e : List (List ℕ)) (two : Table) → IsObedient me log → kept log q ≡ Some e → Extends (table log) two
    → (fault : Fault) × (verdict me.session two e ≡ Shown q fault)
kept-shown law me log q e two h k extends = at (find-of (λ before y. kept_in q y) log e k)
  where
    entry : (before : Log) (p : ℕ) (f : List (List ℕ)) → IsEntry log before (Kept p f) → (p ≡ q) → f ≡ e → (fault : Fault) × (verdict me.session two e ≡ Shown q fault)
    entry before p f place party same =
        let may : MayKeep me before p f = (allowed-at me log before (Kept p f) place h).0 in
        let shown = named-shown (verdict me.session (table before) f) p may.shown in
        let further : Extends (table before) two = extends_trans _ _ _ (table-later log before (later-entry log before (Kept p f) place)) extends in
        (shown.0, subst (λ z. verdict me.session two z ≡ Shown q shown.0) same (verdict-stays law me.session (table before) two f q shown.0 further (subst (λ z. verdict me.session (table before) f ≡ Shown z shown.0) party shown.1)))

    by : (before : Log) (y : Entry) → IsEntry log before y → kept_in q y ≡ Some e → (fault : Fault) × (verdict me.session two e ≡ Shown q fault)
    by before (Kept p f) place found = let is = then-is (eqb p q) f e found in entry before p f place (eqb-true p q is.0) is.1
    by before Ticked place found = cc
    by before (Heard d) place found = cc
    by before (Said d) place found = cc

    at : IsFind (λ before y. kept_in q y) log e → (fault : Fault) × (verdict me.session two e ≡ Shown q fault)
    at w = by w.before w.entry w.place w.found

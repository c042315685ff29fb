-- The outcome for a datagram: evidence is kept first, which doesn't affect admission, and its report is sent last.
use Rattle.std.proofs.Common.{◌≡◌, ◌≤◌, ◌==◌, ◌&&◌, ◌∙◌, ℕ, Bool, true, false, not, List, [], ◌∷◌, ◌++◌, length, Option, Some, None, is_some, refl, sym, ap, subst, arith}
use Rattle.std.specs.Prelude.{if◌then◌else◌}
use Rattle.std.specs.Bool.{then_some}
use Rattle.std.specs.Option.{option_or}
use Rattle.std.proofs.lemmas.Bool.{eq-eqb, false≢true}
use Rattle.std.proofs.lemmas.Option.{same_Some}
use Rattle.bar_window.specs.declared.exchange.XKind.{XKind}
use Rattle.bar_window.specs.declared.exchange.XKind.TheVariants.{Balanced, Push}
use Rattle.bar_window.specs.declared.exchange.Exchange.{Exchange}
use Rattle.bar_window.specs.Exchange.{other_role}
use Rattle.bar_wire.specs.Datagram.{Datagram, Body, Manifest, Block, Request, Response, Divulge, Query, Reply, Case, KeyReq, Key, Evidence, Evict, Place, place_of, exchange_by, is_signed}
use Rattle.bar_wire.specs.Evidence.{evidence_bytes}
use Rattle.bar_wire.specs.Grammar.{AreDatagramsInRange}
use Rattle.bar_wire.specs.Code.Views.{datagram}
use Rattle.bar_wire.specs.declared.kind.Kind.TheVariants as kinds
use Rattle.bar_wire.specs.declared.view.View.{View}
use Rattle.bar_rules.specs.Member.{Member}
use Rattle.bar_rules.specs.Runs.{begun}
use Rattle.bar_rules.specs.Values.{counts_ok, datagram_bytes}
use Rattle.bar_rules.specs.Peer.Admission.{is_admitted, is_for, is_named_again, is_row_met, has_valid_signature, are_terms}
use Rattle.bar_rules.specs.Peer.Evidence.{is_tried, new_evidence, if_accuses, pairs_of}
use Rattle.bar_rules.specs.Peer.Knowledge.{Knowledge, known, with_kept, has_said_of, is_in_time, table_of}
use Rattle.bar_rules.specs.Peer.Log.{Log, Heard, Kept, earliest, kept, kept_in as entry_keeps}
use Rattle.bar_rules.specs.Peer.Orders.{Report}
use Rattle.bar_rules.specs.Peer.Replies.{reply_orders, repeated}
use Rattle.bar_rules.specs.Peer.Rules.{IsObedient}
use Rattle.bar_rules.specs.Peer.Run.{Out, perform_all, answer_repeat, answered_to, with_evidence, report_new}
use Rattle.bar_rules.specs.Peer.Terms.{terms_by}
use Rattle.bar_store.specs.declared.store.Store.{Store}
use Rattle.bar_store.specs.Code.Holds.{Holds}
use Rattle.bar_bytes.specs.Code.Rooms.{kept_in}
use Rattle.bar_bytes.proofs.Options.{or-none, some-mapped}
use Rattle.bar_ledger.specs.declared.ledger.Ledger.{Ledger}
use Rattle.bar_ledger.specs.Code.Recalls.{Recalls}
use Rattle.bar_laws.specs.Knowing.{EntryIsLearned}
use Rattle.bar_laws.specs.Sizes.{LogKeepsShortEvidence}
use Rattle.bar_peer.specs.declared.credentials.Credentials.{Credentials}
use Rattle.bar_peer.specs.declared.memory.Memory.{Memory}
use Rattle.bar_peer.specs.declared.order.Order.TheVariants as queued
use Rattle.bar_peer.specs.Code.Orders.{Orders}
use Rattle.bar_peer.specs.Code.Evictions.{was_heard, is_named}
use Rattle.bar_peer.specs.Code.Memory.{member_of, HasOtherEvidence, IsMemoryOf, Represents}
use Rattle.bar_peer.specs.Code.Sending.{HasOutcome, report_now}
use Rattle.bar_peer.proofs.Replying.Answering.{answered-before}
use Rattle.bar_laws.proofs.Fitting.{perform-before}
use Rattle.bar_peer.proofs.Ticking.Unchanged.{evidence_after}
use Rattle.bar_peer.proofs.Hearing.FromBroadcaster.{kept_more}
use Rattle.bar_peer.proofs.Orders.Sendings.{sent_report, stands_with, pushed}

-- ---- admission doesn't depend on kept evidence

terms-kept : (me : Member) (k : Knowledge) (q : ℕ) (e : List (List ℕ)) (kind : XKind) (x : Exchange)
    → terms_by kind me (with_kept q e k) x ≡ terms_by kind me k x
terms-kept me k q e Balanced x = refl
terms-kept me k q e Push x = refl

row-kept : (me : Member) (k : Knowledge) (q : ℕ) (e : List (List ℕ)) (from to : ℕ) (b : Body)
    → is_row_met me (with_kept q e k) from to b ≡ is_row_met me k from to b
row-kept me k q e from to (Manifest r ds) = refl
row-kept me k q e from to (Block u b) = refl
row-kept me k q e from to (Request r s c) = refl
row-kept me k q e from to (Response r hb) = refl
row-kept me k q e from to (Divulge r n ha) = refl
row-kept me k q e from to (Query r s y o) = refl
row-kept me k q e from to (Reply r w g z) = refl
row-kept me k q e from to (Case c) =
    let x : Exchange = exchange_by c.round c.kind c.role from to in
    λ i. has_said_of k kinds.Case x (other_role c.role)
    && are_terms c.terms (terms-kept me k q e x.kind x i)
    && counts_ok me.session c
    && is_in_time me.session k kinds.Case c.round
row-kept me k q e from to (KeyReq r kind role) = refl
row-kept me k q e from to (Key g) = refl
row-kept me k q e from to (Evidence ds) = refl
row-kept me k q e from to (Evict r ps) = refl

again-kept : (k : Knowledge) (q : ℕ) (e : List (List ℕ)) (p : Option Place) (b : Body) → is_named_again (with_kept q e k) p b ≡ is_named_again k p b
again-kept k q e (Some p) b = refl
again-kept k q e None (Manifest r ds) = refl
again-kept k q e None (Block u b) = refl
again-kept k q e None (Request r s c) = refl
again-kept k q e None (Response r hb) = refl
again-kept k q e None (Divulge r n ha) = refl
again-kept k q e None (Query r s y o) = refl
again-kept k q e None (Reply r w g z) = refl
again-kept k q e None (Case c) = refl
again-kept k q e None (KeyReq r kind role) = refl
again-kept k q e None (Key g) = refl
again-kept k q e None (Evidence ds) = refl
again-kept k q e None (Evict r ps) = refl

admitted-kept : (me : Member) (k : Knowledge) (q : ℕ) (e : List (List ℕ)) (d : Datagram)
    → is_admitted me (with_kept q e k) d ≡ is_admitted me k d
unfolding is_admitted
admitted-kept me k q e d =
    λ i. is_for me d.message
    && not (k.is_announced d.message.from)
    && has_valid_signature me.session d
    && not (is_signed d.message.body && again-kept k q e (place_of d.message) d.message.body i)
    && row-kept me k q e d.message.from d.message.to d.message.body i

pub admitted-still : EntryIsLearned → (me : Member) (log : Log) (q : ℕ) (ev : Option (List (List ℕ))) (d : Datagram)
    → is_admitted me (known me log) d ≡ is_admitted me (known me (with_evidence me log q ev)) d
admitted-still learned me log q None d = refl
admitted-still learned me log q (Some e) d =
    sym (ap (λ (k : Knowledge). is_admitted me k d) (learned me log (Kept q e)) ∙ admitted-kept me (known me log) q e d)

-- ---- a memory with other evidence

holds-kept : (me : Member) (k : Knowledge) (s : Store) (q : ℕ) (e : List (List ℕ)) → Holds me k s → Holds me (with_kept q e k) s
holds-kept me k s q e h = record {
  rounds = h.rounds;
  per_round = h.per_round;
  wide = h.wide;
  life = h.life;
  round = h.round;
  table = h.table;
  blocks = h.blocks;
}

recalls-kept : (me : Member) (k : Knowledge) (l : Ledger) (q : ℕ) (e : List (List ℕ)) → Recalls me k l → Recalls me (with_kept q e k) l
recalls-kept me k l q e h = record {
  party = h.party;
  cap = h.cap;
  shape = h.shape;
  round = h.round;
  heard = h.heard;
  said = h.said;
  seats = h.seats;
  asked = h.asked;
  revealed = h.revealed;
  answers = h.answers;
  offers = h.offers;
  replies = h.replies;
  terms = λ x recent. terms-kept me k q e x.kind x ∙ h.terms x recent;
  kept = h.kept;
  opens = h.opens;
}

-- evidence is stored in the room of a party, if it fits
abbrev pub KeepsIn : Memory → Memory → ℕ → List (List ℕ) → Type 0
KeepsIn m n q e =
    AreDatagramsInRange e → length (evidence_bytes e) ≤ m.evidence.size → (party : ℕ)
    → kept_in n.evidence party ≡ (if party == q then Some (evidence_bytes e) else kept_in m.evidence party)

memory-kept : (me : Member) (k : Knowledge) (m n : Memory) (q : ℕ) (e : List (List ℕ)) → HasOtherEvidence m n → k.evidence q ≡ None
    → AreDatagramsInRange e → length (evidence_bytes e) ≤ m.evidence.size → KeepsIn m n q e → IsMemoryOf me k m → IsMemoryOf me (with_kept q e k) n
memory-kept me k m n q e same none range fits keeps h = record {
  time = h.time ∙ sym same.ticks;
  store = subst (Holds me (with_kept q e k)) (sym same.store) (holds-kept me k m.store q e h.store);
  ledger = subst (Recalls me (with_kept q e k)) (sym same.ledger) (recalls-kept me k m.ledger q e h.ledger);
  manifests = λ round. h.manifests round ∙ (λ i. kept_in (sym same.manifests i) round);
  evictions = λ round. h.evictions round ∙ (λ i. was_heard (sym same.evictions i) round);
  announced = λ party. h.announced party ∙ (λ i. is_named (sym same.evictions i) party);
  evidence = λ party. kept_more evidence_bytes k.evidence e q party _ none (h.evidence party) ∙ sym (keeps range fits party);
}

-- evidence that the log keeps first against a party is its kept evidence
pub kept-now : (me : Member) (log : Log) (q : ℕ) (e : List (List ℕ)) → kept log q ≡ None → kept (Kept q e ∷ log) q ≡ Some e
kept-now me log q e none = λ i. option_or (none i) (then_some (eq-eqb q q refl i) e)

-- found evidence is kept in the memory
pub found-tells : EntryIsLearned → LogKeepsShortEvidence → (m n : Memory) (log : Log) (q : ℕ) (e : List (List ℕ)) → HasOtherEvidence m n
    → IsObedient (member_of m.who) (Kept q e ∷ log) → Represents log m → KeepsIn m n q e → Represents (Kept q e ∷ log) n
found-tells learned short m n log q e same obeys h keeps =
    let me : Member = member_of m.who in
    let none : kept log q ≡ None = obeys.0.new in
    let few = short me (Kept q e ∷ log) q e m.who.is_member.session obeys (kept-now me log q e none) in
    let fits : length (evidence_bytes e) ≤ m.evidence.size = omega (arith, few.short, m.evidence_size) in
    subst (λ (w : Credentials). IsMemoryOf (member_of w) (known (member_of w) (Kept q e ∷ log)) n) (sym same.who)
    (subst (λ (k : Knowledge). IsMemoryOf me k n) (sym (learned me log (Kept q e))) (memory-kept me (known me log) m n q e same none few.range fits keeps h))

-- found evidence is kept, and the memory represents the log with it
pub found-kept : EntryIsLearned → LogKeepsShortEvidence → (m n : Memory) (log : Log) (q : ℕ) (ev : Option (List (List ℕ))) (e : List (List ℕ))
    → ev ≡ Some e → HasOtherEvidence m n → IsObedient (member_of m.who) (with_evidence (member_of m.who) log q ev) → Represents log m → KeepsIn m n q e
    → (true ≡ is_some ev) × Represents (with_evidence (member_of m.who) log q ev) n
found-kept learned short m n log q None e is same obeys h keeps = absurd (cc)
found-kept learned short m n log q (Some f) e is same obeys h keeps =
    (refl, found-tells learned short m n log q f same obeys h (subst (KeepsIn m n q) (sym (same_Some f e is)) keeps))

-- if no evidence is found, none is kept
pub none-kept : (m n : Memory) (log : Log) (q : ℕ) (ev : Option (List (List ℕ))) → ev ≡ None → HasOtherEvidence m n → n.evidence ≡ m.evidence
    → Represents log m → (false ≡ is_some ev) × Represents (with_evidence (member_of m.who) log q ev) n
none-kept m n log q None is same alike h =
    let me : Member = member_of m.who in
    let k : Knowledge = known me log in (
      refl,
      subst (λ (w : Credentials). IsMemoryOf (member_of w) (known (member_of w) log) n) (sym same.who) (record {
        time = h.time ∙ sym same.ticks;
        store = subst (Holds me k) (sym same.store) h.store;
        ledger = subst (Recalls me k) (sym same.ledger) h.ledger;
        manifests = λ round. h.manifests round ∙ (λ i. kept_in (sym same.manifests i) round);
        evictions = λ round. h.evictions round ∙ (λ i. was_heard (sym same.evictions i) round);
        announced = λ party. h.announced party ∙ (λ i. is_named (sym same.evictions i) party);
        evidence = λ party. h.evidence party ∙ (λ i. kept_in (sym alike i) party);
      }),
    )
none-kept m n log q (Some f) is same alike h = absurd (cc)

-- ---- no evidence without a search

pub none-new : (me : Member) (k : Knowledge) (d : Datagram) → is_tried me k d ≡ false → new_evidence me k d ≡ None
unfolding new_evidence
none-new me k d is =
    λ i. if is i
    then option_or (if_accuses me.session (table_of k) d.message.from (datagram_bytes me.session d ∷ []))
    (pairs_of me k d (place_of d.message)) else None

-- ---- the log was obedient before

pub report-before : (me : Member) (out : Out) (q : ℕ) (ev : Option (List (List ℕ))) → IsObedient me (report_new me out q ev).state → IsObedient me out.state
report-before me out q None h = h
report-before me out q (Some e) h = perform-before me out (Report q) h

evidence-before : (me : Member) (log : Log) (q : ℕ) (ev : Option (List (List ℕ))) → IsObedient me (with_evidence me log q ev) → IsObedient me log
evidence-before me log q None h = h
evidence-before me log q (Some e) h = h.1

-- every log on the way to the outcome of a datagram was obedient
pub record AreObedient (me : Member) (log : Log) (d : Datagram) (q : ℕ) (ev : Option (List (List ℕ))) : Type 0 where
  pub first : IsObedient me log
  pub kept : IsObedient me (with_evidence me log q ev)
  pub answered : IsObedient me (answered_to me (with_evidence me log q ev) d).state

pub obeyed : (me : Member) (log : Log) (d : Datagram) (q : ℕ) (ev : Option (List (List ℕ)))
    → IsObedient me (report_new me (answered_to me (with_evidence me log q ev) d) q ev).state → AreObedient me log d q ev
obeyed me log d q ev h =
    let answered = report-before me (answered_to me (with_evidence me log q ev) d) q ev h in
    let between = answered-before me (with_evidence me log q ev) d answered in
    record { first = evidence-before me log q ev between; kept = between; answered = answered }

-- ---- the report

heard-keeps : (log : Log) (d : Datagram) (q : ℕ) → kept (Heard d ∷ log) q ≡ kept log q
heard-keeps log d q = or-none (earliest (λ before e. entry_keeps q e) log)

repeat-keeps : (me : Member) (log : Log) (o : Option Datagram) (q : ℕ)
    → (known me (answer_repeat me log o).state).evidence q ≡ (known me log).evidence q
repeat-keeps me log None q = refl
repeat-keeps me log (Some d) q = evidence_after me (begun log) (reply_orders me (known me log) false d) q

-- answering a datagram doesn't change the evidence
answer-keeps : (me : Member) (log : Log) (d : Datagram) (q : ℕ)
    → (known me (answered_to me log d).state).evidence q ≡ (known me log).evidence q
answer-keeps me log d q = go (is_admitted me (known me log) d)
  where
    go : (b : Bool)
        → (known me (if b then perform_all me (begun (Heard d ∷ log)) (reply_orders me (known me (Heard d ∷ log)) true d) else answer_repeat me log (repeated me (known me log) d)).state).evidence q
        ≡ (known me log).evidence q
    go true = evidence_after me (begun (Heard d ∷ log)) (reply_orders me (known me (Heard d ∷ log)) true d) q ∙ heard-keeps log d q
    go false = repeat-keeps me log (repeated me (known me log) d) q

-- the report of the kept evidence is sent after the answers
pub report-stands : (m : Memory) (o p : Orders) (log : Log) (d : Datagram) (q : ℕ) (e : List (List ℕ)) → kept log q ≡ None
    → HasOutcome (answered_to (member_of m.who) (Kept q e ∷ log) d) m o → p.list.items ≡ o.list.items ++ queued.Report q ∷ []
    → HasOutcome (report_new (member_of m.who) (answered_to (member_of m.who) (Kept q e ∷ log) d) q (Some e)) m p
report-stands m o p log d q e none h put =
    let me : Member = member_of m.who in
    let out : Out = answered_to me (Kept q e ∷ log) d in
    let s : Option (ℕ × Datagram) = report_now me (known me out.state) q in
    let has : (known me out.state).evidence q ≡ Some e = answer-keeps me (Kept q e ∷ log) d q ∙ kept-now me log q e none in
    let some : is_some s ≡ true = some-mapped _ ((known me out.state).evidence q) ∙ ap (λ o. is_some o) has in
    subst (λ (after : Out). HasOutcome after m p) (sym (sent_report me out q))
    (stands_with m o p out (queued.Report q) s refl tt h (put ∙ pushed (queued.Report q) s o.list.items some))

-- a datagram is answered, for every log that the memory represents
abbrev pub Answers : Credentials → View → Memory → Orders → Bool → Memory → Orders → Type 0
Answers who v m o admits n p =
    (log : Log) → IsObedient (member_of who) (answered_to (member_of who) log (datagram who.session.shape v)).state → Represents log m
    → admits ≡ is_admitted (member_of who) (known (member_of who) log) (datagram who.session.shape v) → o.list.items ≡ [] → 2 ≤ o.room
    → HasOutcome (answered_to (member_of who) log (datagram who.session.shape v)) n p

-- the outcome of a datagram that was searched for evidence
pub tried-stands : (m n : Memory) (o p : Orders) (log : Log) (d : Datagram) (q : ℕ) (ev : Option (List (List ℕ)))
    → n.who ≡ m.who
    → HasOutcome (answered_to (member_of m.who) (with_evidence (member_of m.who) log q ev) d) n o
    → AreObedient (member_of m.who) log d q ev → is_some ev ≡ true → p.list.items ≡ o.list.items ++ queued.Report q ∷ []
    → HasOutcome (report_new (member_of m.who) (answered_to (member_of m.who) (with_evidence (member_of m.who) log q ev) d) q ev) n p
tried-stands m n o p log d q None who h obeys some put = absurd (false≢true some)
tried-stands m n o p log d q (Some e) who h obeys some put =
    let same : member_of n.who ≡ member_of m.who = ap member_of who in
    subst (λ (me : Member). HasOutcome (report_new me (answered_to me (Kept q e ∷ log) d) q (Some e)) n p) same
    (report-stands n o p log d q e obeys.kept.0.new (subst (λ (me : Member). HasOutcome (answered_to me (Kept q e ∷ log) d) n o) (sym same) h) put)

-- the outcome if nothing was found or no search was made
pub untried-stands : (me : Member) (n : Memory) (o : Orders) (log : Log) (d : Datagram) (q : ℕ) (ev : Option (List (List ℕ)))
    → HasOutcome (answered_to me (with_evidence me log q ev) d) n o → is_some ev ≡ false
    → HasOutcome (report_new me (answered_to me (with_evidence me log q ev) d) q ev) n o
untried-stands me n o log d q None h none = h
untried-stands me n o log d q (Some e) h none = absurd (false≢true (sym none))

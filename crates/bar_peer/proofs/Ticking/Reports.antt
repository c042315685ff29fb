-- The reports of evidence, one by one.
use Rattle.std.proofs.Common.{◌≡◌, ◌∙◌, ◌+◌, ◌<◌, ◌≤◌, ◌&&◌, ℕ, Bool, true, false, not, is_some, List, [], ◌∷◌, ◌++◌, Option, length, map, filter, sym, ap, refl, subst, arith}
use Rattle.std.specs.Prelude.{if◌then◌else◌}
use Rattle.std.specs.List.{range_with_len}
use Rattle.std.proofs.lemmas.Bool.{and_parts}
use Rattle.std.proofs.lemmas.List.{map-append, append-nil}
use Rattle.std.proofs.lemmas.List.Elements.{filter-append}
use Rattle.bar_window.proofs.Ranges.{range_more}
use Rattle.bar_wire.specs.Datagram.{Datagram}
use Rattle.bar_rules.specs.Member.{Member}
use Rattle.bar_rules.specs.Peer.Knowledge.{Knowledge, known}
use Rattle.bar_rules.specs.Peer.Orders.{Order, Report}
use Rattle.bar_rules.specs.Peer.Run.{Out, perform_all}
use Rattle.bar_peer.specs.declared.memory.Memory.{Memory}
use Rattle.bar_peer.specs.declared.order.Order.TheVariants as queued
use Rattle.bar_peer.specs.Code.Orders.{Orders}
use Rattle.bar_peer.specs.Code.Memory.{member_of}
use Rattle.bar_peer.specs.Code.Sending.{report_now, HasOutcome}
use Rattle.bar_peer.specs.Code.Ticking.{is_reported}
use Rattle.bar_peer.proofs.Ticking.Unchanged.{evidence_after, announced_after}
use Rattle.bar_laws.proofs.Repeating.{all-append}
use Rattle.bar_peer.proofs.Orders.Sendings.{sent_report, stands_with, pushed}
use Rattle.bar_bytes.proofs.Options.{some-mapped}

-- the reports against the first `peers` peers
abbrev pub reports_to : Knowledge → ℕ → List Order
reports_to k peers = map Report (filter (is_reported k) (range_with_len 1 peers))

-- the report against one party, if it is due
abbrev report_if : Bool → ℕ → List Order
report_if is_due party = if is_due then Report party ∷ [] else []

one_if : (is_due : Bool) (party : ℕ) → map Report (if is_due then party ∷ [] else []) ≡ report_if is_due party
one_if true party = refl
one_if false party = refl

-- the reports with one more peer
reports_more : (k : Knowledge) (done party : ℕ) (is_due : Bool) → 1 + done ≡ party → is_reported k party ≡ is_due
    → reports_to k (done + 1) ≡ reports_to k done ++ report_if is_due party
reports_more k done party is_due at is =
    ap (λ (qs : List ℕ). map Report (filter (is_reported k) qs)) (range_more 1 done)
    ∙ ap (map Report) (filter-append (is_reported k) (range_with_len 1 done) ((1 + done) ∷ []))
    ∙ map-append Report (filter (is_reported k) (range_with_len 1 done)) (filter (is_reported k) ((1 + done) ∷ []))
    ∙ ap (λ (party : ℕ). reports_to k done ++ map Report (filter (is_reported k) (party ∷ []))) at
    ∙ (λ i. reports_to k done ++ map Report (if is i then party ∷ [] else []))
    ∙ ap (λ (os : List Order). reports_to k done ++ os) (one_if is_due party)

-- whether a report is due doesn't depend on earlier orders, as these don't change evidence and announcements
pub same_reported : (me : Member) (out : Out) (before : Knowledge) (os : List Order) (party : ℕ)
    → before.is_announced party ≡ (known me out.state).is_announced party → before.evidence party ≡ (known me out.state).evidence party
    → is_reported before party ≡ is_reported (known me (perform_all me out os).state) party
same_reported me out before os party announced evidence =
    λ i. is_some ((evidence ∙ sym (evidence_after me out os party)) i)
    && not ((announced ∙ sym (announced_after me out os party)) i)

-- If it is due, an order is appended to the queue.
pub record IsPushed (old new : Orders) (party : ℕ) (is_due : Bool) : Type 0 where
  pub list : length old.list.items < old.room
      → new.list.items ≡ (if is_due then old.list.items ++ queued.Report party ∷ [] else old.list.items)
  pub length : length new.list.items ≤ length old.list.items + 1
  pub room : new.room ≡ old.room
  pub given : new.given ≡ old.given

pub not_due : (o : Orders) (party : ℕ) (is_due : Bool) → is_due ≡ false → IsPushed o o party is_due
not_due o party is_due is = record {
  list = λ left. ap (λ (b : Bool). if b then o.list.items ++ queued.Report party ∷ [] else o.list.items) (sym is);
  length = omega arith;
  room = refl;
  given = refl;
}

-- the outcome with one more report, if it is due
pub one_reported : (m : Memory) (o p : Orders) (out : Out) (before : Knowledge) (done party : ℕ) (is_due : Bool) → 1 + done ≡ party
    → before.evidence party ≡ (known (member_of m.who) out.state).evidence party → is_reported before party ≡ is_due
    → HasOutcome (perform_all (member_of m.who) out (reports_to before done)) m o
    → p.list.items ≡ (if is_due then o.list.items ++ queued.Report party ∷ [] else o.list.items)
    → HasOutcome (perform_all (member_of m.who) out (reports_to before (done + 1))) m p
one_reported m o p out before done party true at same due h e =
    let me : Member = member_of m.who in
    let between : Out = perform_all me out (reports_to before done) in
    let s : Option (ℕ × Datagram) = report_now me (known me between.state) party in
    let now : (known me between.state).evidence party ≡ before.evidence party = evidence_after me out (reports_to before done) party ∙ sym same in
    let some : is_some s ≡ true =
    some-mapped _ ((known me between.state).evidence party) ∙ ap (λ o. is_some o) now
    ∙ (and_parts (is_some (before.evidence party)) (not (before.is_announced party)) due).0
    in
    subst (λ (after : Out). HasOutcome after m p)
    (sym (sent_report me between party)
    ∙ sym (all-append me out (reports_to before done) (Report party ∷ []))
    ∙ ap (perform_all me out) (sym (reports_more before done party true at due)))
    (stands_with m o p between (queued.Report party) s refl tt h (e ∙ pushed (queued.Report party) s o.list.items some))
one_reported m o p out before done party false at same due h e =
    let me : Member = member_of m.who in
    let is : reports_to before done ≡ reports_to before (done + 1) =
    sym (append-nil (reports_to before done)) ∙ sym (reports_more before done party false at due)
    in
    let stays : HasOutcome (perform_all me out (reports_to before (done + 1))) m o =
    subst (λ (os : List Order). HasOutcome (perform_all me out os) m o) is h
    in
    record { tells = stays.tells; orders = rw e stays.orders }

-- A CASE, a KEYREQ or a KEY is heard.
use Rattle.std.proofs.Common.{◌≡◌, ◌∙◌, ℕ, Bool, true, false, ◌&&◌, List, Option, Some, None, is_some, refl, sym, ap, subst}
use Rattle.std.specs.Prelude.{option_map, option_and_then, IfSome, if◌then◌else◌}
use Rattle.std.specs.Bool.{then_some}
use Rattle.std.proofs.lemmas.Bool.{and_parts, false≢true}
use Rattle.std.proofs.lemmas.Option.{same_Some}
use Rattle.bar_window.specs.declared.exchange.Exchange.{Exchange}
use Rattle.bar_window.specs.declared.exchange.Role.{Role}
use Rattle.bar_window.specs.declared.exchange.Role.TheVariants.{Initiator, Responder}
use Rattle.bar_window.specs.declared.exchange.XKind.{XKind}
use Rattle.bar_window.specs.Exchange.{same_role, other_role}
use Rattle.bar_window.specs.Terms.{Terms, plain_terms}
use Rattle.bar_wire.specs.Bodies.{history_in, offer_in, reply_in}
use Rattle.bar_wire.specs.Datagram.{Datagram, Body, Manifest, Block, Request, Response, Divulge, Query, Reply, Case, KeyReq, Key, Evidence, Evict, Place, place_by, part_of, kind_of, is_of, exchange_of}
use Rattle.bar_wire.specs.declared.kind.Kind.{Kind}
use Rattle.bar_wire.specs.declared.kind.Kind.TheVariants as kinds
use Rattle.bar_wire.specs.Code.Views.{AreTermWindows}
use Rattle.bar_rules.specs.Member.{Member}
use Rattle.bar_rules.specs.Values.{datagram_bytes}
use Rattle.bar_rules.specs.Peer.Admission.{is_row_met}
use Rattle.bar_rules.specs.Peer.Agreement.{IsRecent}
use Rattle.bar_rules.specs.Peer.Knowledge.{Knowledge, has_said_of, with_heard}
use Rattle.bar_rules.specs.Peer.Terms.{body_on}
use Rattle.bar_ledger.specs.declared.entry.Entry.{Entry}
use Rattle.bar_ledger.specs.declared.ledger.Ledger.{Ledger}
use Rattle.bar_ledger.specs.Code.Hearing.{same_datagram, hears}
use Rattle.bar_ledger.specs.Code.Kept.{Kept, with_bytes}
use Rattle.bar_ledger.specs.Code.Lookups.{is_said, seat_by, knows_commit, knows_answer, knows_offer, if_known, commit_of, history_of, offer_of, reply_of}
use Rattle.bar_ledger.specs.Code.Memory.{MayHear, find_in, can_hear}
use Rattle.bar_ledger.specs.Code.Recalls.{Recalls, IsKeptBy, kind_of_terms}
use Rattle.bar_exchange.specs.Code.Keeping.{IsAdmittedNow, is_later}
use Rattle.bar_exchange.specs.Code.Parts.{ChangesKept}
use Rattle.bar_exchange.proofs.Admitted.{IsAdmittedOf, admitted_of}
use Rattle.bar_exchange.proofs.Hearing.{HearsFirst, hears_first, first_of, keeps_bytes}
use Rattle.bar_exchange.proofs.KindCases.{each_kind}
use Rattle.bar_exchange.proofs.KeptChanges.{KnowsOthers, there, recalls_kept, recalls_stale, said_kept, may_hear_of}
use Rattle.bar_exchange.proofs.Learned.{AddsHeard, adds_heard, only_heard, learned_other, stays_ticks, stays_open}
use Rattle.bar_exchange.proofs.One.{RecallsOne}
use Rattle.bar_exchange.proofs.Places.{IsAt, not_of_kind}
use Rattle.bar_exchange.proofs.Same.{SameParts, body_same, terms_same}
use Rattle.bar_bytes.proofs.Options.{or-untold}

-- ---- what follows from its row

pub later_said : (me : Member) (k : Knowledge) (from to : ℕ) (b : Body) (x : Exchange) (side : Role) → is_later (kind_of b) ≡ true
    → option_map (place_by from to) (part_of b) ≡ Some (record { exchange = x; role = side }) → is_row_met me k from to b ≡ true
    → has_said_of k kinds.Case x (other_role side) ≡ true
later_said me k from to (Case c) x side e at row =
    (λ i. let p : Place = sym (same_Some _ _ at) i in has_said_of k kinds.Case p.exchange (other_role p.role)) ∙ (and_parts _ _ (and_parts _ _ (and_parts _ _ row).0).0).0
later_said me k from to (KeyReq r kind role) x side e at row =
    (λ i. let p : Place = sym (same_Some _ _ at) i in has_said_of k kinds.Case p.exchange (other_role p.role)) ∙ (and_parts _ _ (and_parts _ _ (and_parts _ _ row).0).0).0
later_said me k from to (Key g) x side e at row =
    (λ i. let p : Place = sym (same_Some _ _ at) i in has_said_of k kinds.Case p.exchange (other_role p.role)) ∙ (and_parts _ _ (and_parts _ _ row).0).0
later_said me k from to (Manifest r ds) x side e at row = absurd (false≢true e)
later_said me k from to (Block u bytes) x side e at row = absurd (false≢true e)
later_said me k from to (Request r s c) x side e at row = absurd (false≢true e)
later_said me k from to (Response r hb) x side e at row = absurd (false≢true e)
later_said me k from to (Divulge r n ha) x side e at row = absurd (false≢true e)
later_said me k from to (Query r s y o) x side e at row = absurd (false≢true e)
later_said me k from to (Reply r w g z) x side e at row = absurd (false≢true e)
later_said me k from to (Evidence ds) x side e at row = absurd (false≢true e)
later_said me k from to (Evict r ps) x side e at row = absurd (false≢true e)

later_only : (b : Body) → is_later (kind_of b) ≡ true → only_heard b ≡ true
later_only (Case c) e = refl
later_only (KeyReq r kind role) e = refl
later_only (Key g) e = refl
later_only (Response r hb) e = refl
later_only (Reply r w g z) e = refl
later_only (Manifest r ds) e = e
later_only (Block u bytes) e = e
later_only (Request r s c) e = e
later_only (Divulge r n ha) e = e
later_only (Query r s y o) e = e
later_only (Evidence ds) e = e
later_only (Evict r ps) e = e

pub later_others : (me : Member) (k : Knowledge) (d : Datagram) (y : Exchange) (side : Role) → IsAt d.message y side → only_heard d.message.body ≡ true → KnowsOthers k (with_heard me d k) y
later_others me k d y side at e = record {
  ticks = stays_ticks me k d d.message.body;
  opens = stays_open me k d d.message.body;
  asked = (adds_heard me k d d.message.body e).asked;
  others = learned_other me k d y side at;
}

-- ---- the kept state after it

-- All kept state is the same, except the datagrams that follow the terms.
record SameKept (old new : Kept) : Type 0 where
  entry : new.entry ≡ old.entry
  first : new.first ≡ old.first
  divulge : new.divulge ≡ old.divulge

later_kept : (kind : Kind) → is_later kind ≡ true → (bytes : List ℕ) (kept : Kept) → SameKept kept (with_bytes kind bytes kept)
later_kept kind e bytes kept = each_kind (λ kind. is_later kind ≡ true → SameKept kept (with_bytes kind bytes kept)) no no no no no no no
    (λ e. record { entry = refl; first = refl; divulge = refl }) (λ e. record { entry = refl; first = refl; divulge = refl }) (λ e. record { entry = refl; first = refl; divulge = refl })
    no no kind e
  where
    no : {A : Type 0} → false ≡ true → A
    no e = absurd (false≢true e)

commit_same : (role : Role) (old new : Kept) → SameKept old new → knows_commit role new ≡ knows_commit role old
commit_same Initiator old new s = ap (λ (e : Entry). e.first_said) s.entry
commit_same Responder old new s = ap (λ o. is_some o) s.divulge

answer_same : (role : Role) (old new : Kept) → SameKept old new → knows_answer role new ≡ knows_answer role old
answer_same Initiator old new s = ap (λ o. is_some o) s.first
answer_same Responder old new s = ap (λ (e : Entry). e.first_said) s.entry

offer_same : (role : Role) (old new : Kept) → SameKept old new → knows_offer role new ≡ knows_offer role old
offer_same Initiator old new s = ap (λ (e : Entry). e.first_said) s.entry
offer_same Responder old new s = ap (λ o. is_some o) s.first

-- the known parts of the terms depend only on this state
part_same : {X : Type 0} (part : Terms → Option X) (knows : Role → Kept → Bool) (old new : Kept) → SameKept old new → ((role : Role) → knows role new ≡ knows role old)
    → if_known (knows new.entry.role new) part new ≡ if_known (knows old.entry.role old) part old
part_same part knows old new s same =
    (λ i. if knows (s.entry i).role new then part (plain_terms (s.entry i).terms) else None) ∙ ap (λ b. if b then part (plain_terms old.entry.terms) else None) (same old.entry.role)

-- these kinds contain no part of the terms
later_apart : (kind : Kind) → is_later kind ≡ true → (same_datagram kind kinds.Response ≡ false) × (same_datagram kind kinds.Query ≡ false) × (same_datagram kind kinds.Reply ≡ false)
later_apart kind e = each_kind (λ kind. is_later kind ≡ true → (same_datagram kind kinds.Response ≡ false) × (same_datagram kind kinds.Query ≡ false) × (same_datagram kind kinds.Reply ≡ false))
    no no no no no no no (λ e. (refl, refl, refl)) (λ e. (refl, refl, refl)) (λ e. (refl, refl, refl)) no no kind e
  where
    no : {A : Type 0} → false ≡ true → A
    no e = absurd (false≢true e)

pub later_one : (me : Member) (k new : Knowledge) (d : Datagram) (y : Exchange) (side : Role) (kind : Kind) (bytes : List ℕ) (kept : Kept) → is_later kind ≡ true
    → AddsHeard k new d → HearsFirst me.session k.heard d y side kind bytes kept (with_bytes kind bytes kept) → RecallsOne me k y (Some kept)
    → RecallsOne me new y (Some (with_bytes kind bytes kept))
later_one me k new d y side kind bytes kept e a first h = record {
  heard = λ other role. ap (option_map (datagram_bytes me.session)) (a.heard other y role) ∙ hears_first me.session k.heard d y side kind bytes kept after first other role;
  said = λ other role. ap (λ o. is_some o) (a.said other y role) ∙ h.said other role ∙ ap (λ (e : Entry). same_role role e.role && is_said other e) (sym s.entry);
  seats = a.seats y ∙ h.seats ∙ ap (λ (e : Entry). seat_by e.role e.seat) (sym s.entry);
  revealed = a.revealed y ∙ h.revealed ∙ sym (part_same commit_of knows_commit kept after s (λ role. commit_same role kept after s));
  answers = ap (option_and_then history_in) parts.answers ∙ h.answers ∙ sym (part_same history_of knows_answer kept after s (λ role. answer_same role kept after s));
  offers = ap (option_and_then offer_in) parts.offers ∙ h.offers ∙ sym (part_same offer_of knows_offer kept after s (λ role. offer_same role kept after s));
  replies = ap (option_and_then reply_in) parts.replies ∙ h.replies ∙ sym (part_same reply_of knows_answer kept after s (λ role. answer_same role kept after s));
  terms = terms_same me k new y parts y.kind ∙ h.terms ∙ ap (λ (e : Entry). then_some e.complete (plain_terms e.terms)) (sym s.entry);
}
  where
    after : Kept
    after = with_bytes kind bytes kept

    s : SameKept kept after
    s = later_kept kind e bytes kept

    stays : (other : Kind) (role : Role) → same_datagram kind other ≡ false → body_on me new other y role ≡ body_on me k other y role
    stays other role apart =
        body_same me k new other y role (a.said other y role)
        (a.heard other y role ∙ or-untold (k.heard other y role) (is_of other y role d.message) d (not_of_kind d.message other (ap (λ kind. same_datagram kind other) first.kind_is ∙ apart) y role))

    parts : SameParts me k new y
    parts = record {
      revealed = a.revealed y;
      answers = stays kinds.Response Responder (later_apart kind e).0;
      offers = stays kinds.Query Initiator (later_apart kind e).1;
      replies = stays kinds.Reply Responder (later_apart kind e).2;
    }

-- each side hears them
pub later_hears : (kind : Kind) (xkind : XKind) (role : Role) → is_later kind ≡ true → hears kind xkind role ≡ true
later_hears kind xkind role e = each_kind (λ kind. is_later kind ≡ true → hears kind xkind role ≡ true) no no no no no no no (λ e. refl) (λ e. refl) (λ e. refl) no no kind e
  where
    no : {A : Type 0} → false ≡ true → A
    no e = absurd (false≢true e)

pub later_by : (me : Member) (x : Exchange) (kind : Kind) → is_later kind ≡ true → (bytes : List ℕ) (kept : Kept) → IsKeptBy me x kept → IsKeptBy me x (with_bytes kind bytes kept)
later_by me x kind e bytes kept by =
    let s = later_kept kind e bytes kept in
    record {
      side = ap (λ (e : Entry). e.role) s.entry ∙ by.side;
      form = ap (λ (e : Entry). kind_of_terms (plain_terms e.terms)) s.entry ∙ by.form;
      windows = subst (λ (e : Entry). AreTermWindows me.session.shape x.round e.terms) (sym s.entry) by.windows;
      asked = λ r. ap (λ (e : Entry). e.first_said) s.entry ∙ by.asked (ap (λ (e : Entry). e.role) (sym s.entry) ∙ r);
      opened = λ r. ap (λ (e : Entry). e.first_said) s.entry ∙ by.opened (ap (λ (e : Entry). e.case_said) (sym s.entry) ∙ r);
    }

-- ---- the datagram is kept

pub later_learned : (me : Member) (k : Knowledge) (old l : Ledger) (d : Datagram) (bytes : List ℕ) (x : Exchange) (kind : Kind) → Recalls me k old → IsAdmittedNow me k d bytes
    → is_later kind ≡ true → kind ≡ kind_of d.message.body → exchange_of d.message ≡ Some x → MayHear old x kind bytes → ChangesKept old l x (with_bytes kind bytes)
    → Recalls me (with_heard me d k) l
later_learned me k old l d bytes x kind h now e is of may changes =
    let o = admitted_of me k d bytes x now of in
    let only : only_heard d.message.body ≡ true = later_only d.message.body (ap is_later (sym is) ∙ e) in
    let found = there me k old x h may.kept in
    let kept : Kept = found.0 in
    let first = first_of me k old d bytes x o.side kind kept (with_bytes kind bytes kept) now o.is is found.1 (keeps_bytes old x kind bytes kept may found.1.found) in
    recalls_kept me k (with_heard me d k) old l x (with_bytes kind bytes) kept h changes (later_others me k d x o.side o.is.at only) found.1 (record {
      one = later_one me k (with_heard me d k) d x o.side kind bytes kept e (adds_heard me k d d.message.body only) first found.1.one;
      by = later_by me x kind e bytes kept found.1.by;
    })

-- it may be heard
later_may : (me : Member) (k : Knowledge) (l : Ledger) (d : Datagram) (bytes : List ℕ) (x : Exchange) (side : Role) (kind : Kind) → Recalls me k l → IsAdmittedNow me k d bytes
    → is_later kind ≡ true → kind ≡ kind_of d.message.body → IsAdmittedOf me k d x side → IsRecent me k x.round → MayHear l x kind bytes
later_may me k l d bytes x side kind h now e is of recent =
    let said = later_said me k d.message.from d.message.to d.message.body x side (ap is_later (sym is) ∙ e) of.at of.row in
    may_hear_of me k l d bytes x side kind h now of is recent (said_kept me k l x kinds.Case (other_role side) h recent said) (each (find_in l x))
  where
    each : (o : Option Kept) → IfSome o (λ kept. can_hear kind kept ≡ true)
    each None = tt
    each (Some kept) = later_hears kind kept.entry.x.kind kept.entry.role e

pub later_stays : (me : Member) (k : Knowledge) (l : Ledger) (d : Datagram) (bytes : List ℕ) (x : Exchange) (kind : Kind) → Recalls me k l → IsAdmittedNow me k d bytes
    → is_later kind ≡ true → kind ≡ kind_of d.message.body → exchange_of d.message ≡ Some x → (MayHear l x kind bytes → ⊥) → Recalls me (with_heard me d k) l
later_stays me k l d bytes x kind h now e is of not_may =
    let o = admitted_of me k d bytes x now of in
    let only : only_heard d.message.body ≡ true = later_only d.message.body (ap is_later (sym is) ∙ e) in
    recalls_stale me k (with_heard me d k) l x h (later_others me k d x o.side o.is.at only)
    (λ recent. not_may (later_may me k l d bytes x o.side kind h now e is o.is recent))

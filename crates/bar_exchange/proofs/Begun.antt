-- What a ledger recalls of an exchange after this peer asked for it or answered.
use Rattle.std.proofs.Common.{◌≡◌, ℕ, ◌+◌, ◌≤◌, List, Bool, true, false, ◌&&◌, ◌||◌, ◌==◌, Option, Some, None, is_some, refl, sym, ap, subst, ◌∙◌}
use Rattle.std.specs.Prelude.{option_and_then, if◌then◌else◌}
use Rattle.std.specs.Bool.{then_some}
use Rattle.std.specs.Option.{option_or}
use Rattle.std.proofs.Math.Bool.{or-false}
use Rattle.std.proofs.lemmas.Bool.{and_right}
use Rattle.bar_window.specs.declared.update.UpdateId.{UpdateId}
use Rattle.bar_window.specs.declared.exchange.Exchange.{Exchange}
use Rattle.bar_window.specs.declared.exchange.Role.{Role}
use Rattle.bar_window.specs.declared.exchange.Role.TheVariants.{Initiator, Responder}
use Rattle.bar_window.specs.declared.exchange.XKind.{XKind}
use Rattle.bar_window.specs.declared.exchange.XKind.TheVariants.{Balanced, Push}
use Rattle.bar_window.specs.declared.terms.Terms.{Terms as WindowTerms}
use Rattle.bar_window.specs.Exchange.{same_role}
use Rattle.bar_window.specs.Terms.{Terms, plain_terms}
use Rattle.bar_window.specs.Terms as forms
use Rattle.bar_window.proofs.Exchanges.{same_exchange_refl}
use Rattle.bar_wire.specs.Bodies.{history_in, offer_in, reply_in}
use Rattle.bar_wire.specs.Datagram.{Datagram, is_of}
use Rattle.bar_wire.specs.Kinds.{code_of}
use Rattle.bar_wire.specs.declared.kind.Kind.{Kind}
use Rattle.bar_wire.specs.declared.kind.Kind.TheVariants as kinds
use Rattle.bar_rules.specs.Member.{Member}
use Rattle.bar_rules.specs.Peer.Exchanges.{role_of, request_kind, answer_kind, opening_kind, committed}
use Rattle.bar_rules.specs.Peer.Knowledge.{Knowledge, with_said}
use Rattle.bar_rules.specs.Peer.Terms.{body_on, terms_of, terms_by, trade_terms, offer_terms}
use Rattle.bar_ledger.specs.declared.entry.Entry.{Entry}
use Rattle.bar_ledger.specs.declared.ledger.Ledger.{Ledger}
use Rattle.bar_ledger.specs.Code.Hearing.{same_datagram, is_opening}
use Rattle.bar_ledger.specs.Code.Kept.{Kept, newly, with_new, heard_of}
use Rattle.bar_ledger.specs.Code.Lookups.{is_said, knows_commit, knows_answer, knows_offer, if_known, commit_of, history_of, offer_of, reply_of}
use Rattle.bar_ledger.specs.Code.Memory.{bytes_in}
use Rattle.bar_ledger.specs.Code.Recalls.{Recalls, IsKeptBy, kind_of_terms}
use Rattle.bar_exchange.specs.Code.Answering.{telling_kind, IsAnsweredWith}
use Rattle.bar_exchange.specs.Code.Keeping.{IsSaidNow, IsBegunWith, IsCommittedTo}
use Rattle.bar_exchange.proofs.One.{RecallsOne}
use Rattle.bar_exchange.proofs.Said.{said_is_of, body_same, body_first, revealed_same, marks_more}
use Rattle.bar_exchange.proofs.Changed.{IsSet, IsAdded, set_changes, add_changes, changed_recalls}
use Rattle.bar_exchange.proofs.Marks.{IsFound, one_found, kept_found, heard_same, or_true}

-- ---- what the marks of an entry mean

abbrev marks_of : Kind → XKind → Role → Bool → Bool → Bool → Bool
marks_of kinds.Case xkind role first case key = case
marks_of kinds.Key xkind role first case key = key
marks_of kind xkind role first case key = same_datagram kind (opening_kind xkind role) && first

marks_are : (kind : Kind) (e : Entry) → is_said kind e ≡ marks_of kind e.x.kind e.role e.first_said e.case_said e.key_said
marks_are kinds.Case e = refl
marks_are kinds.Key e = refl
marks_are kind e = refl

request_mark : (kind : Kind) (xkind : XKind) → marks_of kind xkind Initiator true false false ≡ (code_of (request_kind xkind) == code_of kind)
request_mark kinds.Case Balanced = refl
request_mark kinds.Case Push = refl
request_mark kind Balanced = refl
request_mark kind Push = refl

answer_mark : (kind : Kind) (xkind : XKind) (first case key : Bool)
    → marks_of kind xkind Responder true case key ≡ (marks_of kind xkind Responder first case key || (code_of (answer_kind xkind) == code_of kind))
answer_mark kinds.Case Balanced first case key = sym (or-false case)
answer_mark kinds.Case Push first case key = sym (or-false case)
answer_mark kinds.Key Balanced first case key = sym (or-false key)
answer_mark kinds.Key Push first case key = sym (or-false key)
answer_mark kinds.Response Balanced first case key = or_true first
answer_mark kinds.Reply Push first case key = or_true first
answer_mark kind Balanced first case key = refl
answer_mark kind Push first case key = refl

-- ---- terms of one form

pub no_commit : (t : Terms) → kind_of_terms t ≡ Push → commit_of t ≡ None
no_commit (forms.Balanced nonce ha hb) e = absurd (cc)
no_commit (forms.Push young aged want give junk) e = refl

pub no_history : (t : Terms) → kind_of_terms t ≡ Push → history_of t ≡ None
no_history (forms.Balanced nonce ha hb) e = absurd (cc)
no_history (forms.Push young aged want give junk) e = refl

pub no_offer : (t : Terms) → kind_of_terms t ≡ Balanced → offer_of t ≡ None
no_offer (forms.Balanced nonce ha hb) e = refl
no_offer (forms.Push young aged want give junk) e = absurd (cc)

pub no_reply : (t : Terms) → kind_of_terms t ≡ Balanced → reply_of t ≡ None
no_reply (forms.Balanced nonce ha hb) e = refl
no_reply (forms.Push young aged want give junk) e = absurd (cc)

pub if_none : {X : Type 0} (b : Bool) (o : Option X) → o ≡ None → (if b then o else None) ≡ None
if_none true o e = e
if_none false o e = refl

no_trade : (a : Option (List ℕ × List UpdateId)) → trade_terms a None ≡ None
no_trade (Some v) = refl
no_trade None = refl

pub no_push : (a : Option (List UpdateId × List UpdateId)) → offer_terms a None ≡ None
no_push (Some v) = refl
no_push None = refl

-- ---- asking

-- the entry of an exchange that this peer asks for
abbrev pub asked_entry : Exchange → WindowTerms → Entry
asked_entry x terms = record {
  x = x;
  role = Initiator;
  seat = 0;
  terms = terms;
  complete = false;
  first_said = true;
  case_said = false;
  key_said = false;
}

nothing_heard : (kind : Kind) (e : Entry) → heard_of kind (newly e) ≡ None
nothing_heard kinds.Divulge e = refl
nothing_heard kinds.Case e = refl
nothing_heard kinds.KeyReq e = refl
nothing_heard kinds.Key e = refl
nothing_heard kind e = if_none (is_opening kind e.x.kind e.role) None refl

request_answers : (xkind : XKind) → (code_of (request_kind xkind) == code_of kinds.Response) ≡ false
request_answers Balanced = refl
request_answers Push = refl

request_replies : (xkind : XKind) → (code_of (request_kind xkind) == code_of kinds.Reply) ≡ false
request_replies Balanced = refl
request_replies Push = refl

one_asked : (me : Member) (k : Knowledge) (d : Datagram) (x : Exchange) (terms : WindowTerms) → IsSaidNow me k d (request_kind x.kind) x → role_of me x ≡ Initiator
    → IsBegunWith me d x terms → IsCommittedTo me k x terms → RecallsOne me k x None
    → RecallsOne me (with_said me d k) x (Some (newly (asked_entry x terms)))
one_asked me k d x terms s own b commit h = record {
  heard = λ kind role. h.heard kind role ∙ sym (if_none (same_role role Responder) _ (nothing_heard kind (asked_entry x terms)));
  said = λ kind role.
      marks_more me k d (request_kind x.kind) x s (λ other. false) (λ other. is_said other (asked_entry x terms))
      (λ other role. h.said other role ∙ sym (and_right (same_role role (role_of me x)) false refl))
      (λ other. marks_are other (asked_entry x terms) ∙ request_mark other x.kind) kind role
      ∙ ap (λ (own : Role). same_role role own && is_said kind (asked_entry x terms)) own;
  seats = h.seats;
  revealed = revealed x.kind refl;
  answers = ap (option_and_then history_in) (body_same me k d (request_kind x.kind) x s kinds.Response Responder (request_answers x.kind)) ∙ h.answers;
  offers = offers x.kind refl;
  replies = ap (option_and_then reply_in) (body_same me k d (request_kind x.kind) x s kinds.Reply Responder (request_replies x.kind)) ∙ h.replies;
  terms = known x.kind;
}
  where
    is_request : (xkind : XKind) → x.kind ≡ xkind → is_of kinds.Request x Initiator d.message ≡ (code_of (request_kind xkind) == code_of kinds.Request) && true
    is_request xkind e =
        said_is_of me k d (request_kind x.kind) x s kinds.Request x Initiator
        ∙ (λ i. (code_of (request_kind (e i)) == code_of kinds.Request) && (same_exchange_refl x i && same_role (own i) Initiator))

    revealed : (xkind : XKind) → x.kind ≡ xkind → (with_said me d k).revealed x ≡ commit_of (plain_terms terms)
    revealed Balanced e = (λ i. option_or (h.revealed i) (then_some (is_request Balanced e i) (committed me k.block x))) ∙ sym (commit e)
    revealed Push e = (λ i. option_or (h.revealed i) (then_some (is_request Push e i) (committed me k.block x))) ∙ sym (no_commit (plain_terms terms) (b.form ∙ e))

    offers : (xkind : XKind) → x.kind ≡ xkind → option_and_then offer_in (body_on me (with_said me d k) kinds.Query x Initiator) ≡ offer_of (plain_terms terms)
    offers Balanced e =
        ap (option_and_then offer_in) (body_same me k d (request_kind x.kind) x s kinds.Query Initiator (ap (λ xkind. code_of (request_kind xkind) == code_of kinds.Query) e))
        ∙ h.offers ∙ sym (no_offer (plain_terms terms) (b.form ∙ e))
    offers Push e =
        (λ i. option_and_then offer_in (body_on me (with_said me d k) (request_kind (sym e i)) x Initiator))
        ∙ ap (option_and_then offer_in) (body_first me k d (request_kind x.kind) x s Initiator own (ap (λ xkind. code_of (request_kind xkind) == code_of (request_kind xkind)) e))
        ∙ b.offer

    known : (xkind : XKind) → terms_by xkind me (with_said me d k) x ≡ None
    known Balanced =
        ap (trade_terms ((with_said me d k).revealed x))
        (ap (option_and_then history_in) (body_same me k d (request_kind x.kind) x s kinds.Response Responder (request_answers x.kind)) ∙ h.answers)
        ∙ no_trade ((with_said me d k).revealed x)
    known Push =
        ap (offer_terms (option_and_then offer_in (body_on me (with_said me d k) kinds.Query x Initiator)))
        (ap (option_and_then reply_in) (body_same me k d (request_kind x.kind) x s kinds.Reply Responder (request_replies x.kind)) ∙ h.replies)
        ∙ no_push (option_and_then offer_in (body_on me (with_said me d k) kinds.Query x Initiator))

-- ---- answering

-- an entry with the terms of the answer
abbrev pub answered_entry : Entry → WindowTerms → Bool → Entry
answered_entry e terms complete = record e { terms = terms; complete = complete; first_said = true }

answer_requests : (xkind : XKind) → (code_of (answer_kind xkind) == code_of kinds.Request) ≡ false
answer_requests Balanced = refl
answer_requests Push = refl

answer_queries : (xkind : XKind) → (code_of (answer_kind xkind) == code_of kinds.Query) ≡ false
answer_queries Balanced = refl
answer_queries Push = refl

trade_is : (known : Bool) (t : Terms) → kind_of_terms t ≡ Balanced → trade_terms (if known then commit_of t else None) (history_of t) ≡ then_some known t
trade_is true (forms.Balanced nonce ha hb) e = refl
trade_is false (forms.Balanced nonce ha hb) e = refl
trade_is known (forms.Push young aged want give junk) e = absurd (cc)

push_is : (known : Bool) (t : Terms) → kind_of_terms t ≡ Push → offer_terms (if known then offer_of t else None) (reply_of t) ≡ then_some known t
push_is known (forms.Balanced nonce ha hb) e = absurd (cc)
push_is true (forms.Push young aged want give junk) e = refl
push_is false (forms.Push young aged want give junk) e = refl

-- whether the initiator's part of the terms is known
abbrev pub is_told : XKind → Kept → Bool
is_told xkind kept = is_some (heard_of (telling_kind xkind) kept)

offer_told : (kept : Kept) → kept.entry.role ≡ Responder → kept.entry.x.kind ≡ Push → is_told Push kept ≡ is_some kept.first
offer_told kept role kind = λ i. is_some (if is_opening kinds.Query (kind i) (role i) then kept.first else None)

one_answered : (me : Member) (k : Knowledge) (d : Datagram) (x : Exchange) (kept : Kept) (terms : WindowTerms) (complete : Bool)
    → IsSaidNow me k d (answer_kind x.kind) x → role_of me x ≡ Responder → kept.entry.x ≡ x → IsKeptBy me x kept → IsAnsweredWith me d x kept.entry.terms terms
    → complete ≡ is_told x.kind kept → RecallsOne me k x (Some kept)
    → RecallsOne me (with_said me d k) x (Some (with_new (answered_entry kept.entry terms complete) kept))
one_answered me k d x kept terms complete s own named was a full h = record {
  heard = λ other role. h.heard other role ∙ heard_same other role kept (answered_entry kept.entry terms complete) refl refl;
  said = λ other role.
      marks_more me k d (answer_kind x.kind) x s (λ other. is_said other kept.entry) (λ other. is_said other (answered_entry kept.entry terms complete))
      (λ other role. h.said other role ∙ ap (λ (own : Role). same_role role own && is_said other kept.entry) was.side) marks other role
      ∙ ap (λ (own : Role). same_role role own && is_said other (answered_entry kept.entry terms complete)) (sym was.side);
  seats = h.seats;
  revealed = commits ∙ (λ i. if_known (knows_commit (sym side i) after) commit_of after);
  answers = answers x.kind refl ∙ (λ i. if_known (knows_answer (sym side i) after) history_of after);
  offers = offers ∙ (λ i. if_known (knows_offer (sym side i) after) offer_of after);
  replies = replies x.kind refl ∙ (λ i. if_known (knows_answer (sym side i) after) reply_of after);
  terms = known x.kind refl;
}
  where
    after : Kept
    after = with_new (answered_entry kept.entry terms complete) kept

    side : kept.entry.role ≡ Responder
    side = was.side ∙ own

    marks : (other : Kind) → is_said other (answered_entry kept.entry terms complete) ≡ (is_said other kept.entry || (code_of (answer_kind x.kind) == code_of other))
    marks other =
        marks_are other (answered_entry kept.entry terms complete)
        ∙ (λ i. marks_of other (named i).kind (side i) true kept.entry.case_said kept.entry.key_said)
        ∙ answer_mark other x.kind kept.entry.first_said kept.entry.case_said kept.entry.key_said
        ∙ (λ i. marks_of other (sym named i).kind (sym side i) kept.entry.first_said kept.entry.case_said kept.entry.key_said || (code_of (answer_kind x.kind) == code_of other))
        ∙ ap (λ b. b || (code_of (answer_kind x.kind) == code_of other)) (sym (marks_are other kept.entry))

    commits : (with_said me d k).revealed x ≡ (if is_some kept.divulge then commit_of (plain_terms terms) else None)
    commits =
        revealed_same me k d (answer_kind x.kind) x s (answer_requests x.kind) ∙ h.revealed
        ∙ (λ i. if_known (knows_commit (side i) kept) commit_of kept)
        ∙ (λ i. if is_some kept.divulge then sym a.commit i else None)

    offers : option_and_then offer_in (body_on me (with_said me d k) kinds.Query x Initiator) ≡ (if is_some kept.first then offer_of (plain_terms terms) else None)
    offers =
        ap (option_and_then offer_in) (body_same me k d (answer_kind x.kind) x s kinds.Query Initiator (answer_queries x.kind)) ∙ h.offers
        ∙ (λ i. if_known (knows_offer (side i) kept) offer_of kept)
        ∙ (λ i. if is_some kept.first then sym a.offer i else None)

    says : (xkind : XKind) → x.kind ≡ xkind → (code_of (answer_kind xkind) == code_of (answer_kind xkind)) ≡ true
        → body_on me (with_said me d k) (answer_kind xkind) x Responder ≡ Some d.message.body
    says xkind e t =
        (λ i. body_on me (with_said me d k) (answer_kind (sym e i)) x Responder)
        ∙ body_first me k d (answer_kind x.kind) x s Responder own (ap (λ xkind. code_of (answer_kind xkind) == code_of (answer_kind xkind)) e ∙ t)

    answers : (xkind : XKind) → x.kind ≡ xkind → option_and_then history_in (body_on me (with_said me d k) kinds.Response x Responder) ≡ history_of (plain_terms terms)
    answers Balanced e = ap (option_and_then history_in) (says Balanced e refl) ∙ a.history
    answers Push e =
        ap (option_and_then history_in) (body_same me k d (answer_kind x.kind) x s kinds.Response Responder (ap (λ xkind. code_of (answer_kind xkind) == code_of kinds.Response) e))
        ∙ h.answers ∙ if_none (knows_answer kept.entry.role kept) _ (no_history (plain_terms kept.entry.terms) (was.form ∙ e))
        ∙ sym (no_history (plain_terms terms) (a.form ∙ e))

    replies : (xkind : XKind) → x.kind ≡ xkind → option_and_then reply_in (body_on me (with_said me d k) kinds.Reply x Responder) ≡ reply_of (plain_terms terms)
    replies Balanced e =
        ap (option_and_then reply_in) (body_same me k d (answer_kind x.kind) x s kinds.Reply Responder (ap (λ xkind. code_of (answer_kind xkind) == code_of kinds.Reply) e))
        ∙ h.replies ∙ if_none (knows_answer kept.entry.role kept) _ (no_reply (plain_terms kept.entry.terms) (was.form ∙ e))
        ∙ sym (no_reply (plain_terms terms) (a.form ∙ e))
    replies Push e = ap (option_and_then reply_in) (says Push e refl) ∙ a.reply

    known : (xkind : XKind) → x.kind ≡ xkind → terms_of me (with_said me d k) x ≡ then_some complete (plain_terms terms)
    known Balanced e =
        ap (λ xkind. terms_by xkind me (with_said me d k) x) e ∙ (λ i. trade_terms (commits i) (answers Balanced e i))
        ∙ trade_is (is_some kept.divulge) (plain_terms terms) (a.form ∙ e)
        ∙ ap (λ b. then_some b (plain_terms terms)) (sym (full ∙ ap (λ xkind. is_told xkind kept) e))
    known Push e =
        ap (λ xkind. terms_by xkind me (with_said me d k) x) e ∙ (λ i. offer_terms (offers i) (replies Push e i))
        ∙ push_is (is_some kept.first) (plain_terms terms) (a.form ∙ e)
        ∙ ap (λ b. then_some b (plain_terms terms))
        (sym (full ∙ ap (λ xkind. is_told xkind kept) e ∙ offer_told kept side (ap (λ (x : Exchange). x.kind) named ∙ e)))

-- ---- the ledger

pub answer_recalls : (me : Member) (k : Knowledge) (d : Datagram) (x : Exchange) (old new : Ledger) (e : Entry) (terms : WindowTerms) (complete : Bool) → Recalls me k old
    → IsSaidNow me k d (answer_kind x.kind) x → role_of me x ≡ Responder → (f : IsFound old x e) → IsAnsweredWith me d x e.terms terms
    → complete ≡ is_some (bytes_in old x (telling_kind x.kind)) → IsSet old new (answered_entry e terms complete) → Recalls me (with_said me d k) new
answer_recalls me k d x old new e terms complete h s own f a full set =
    let was = kept_found me k old x e h f in
    let kept : Kept = with_new e f.rest in
    changed_recalls me k d (answer_kind x.kind) x (Some (with_new (answered_entry e terms complete) f.rest)) old new h s
    (set_changes old new x (answered_entry e terms complete) kept set f.is f.named f.named refl refl)
    (one_answered me k d x kept terms complete s own f.named was a (full ∙ ap (λ o. is_some (option_and_then (heard_of (telling_kind x.kind)) o)) f.is) (one_found me k old x e h s.recent f))
    (record { side = was.side; form = a.form; windows = a.windows; asked = λ initiator. refl; opened = λ said. refl })

pub ask_recalls : (me : Member) (k : Knowledge) (d : Datagram) (x : Exchange) (old new : Ledger) (terms : WindowTerms) → Recalls me k old
    → IsSaidNow me k d (request_kind x.kind) x → role_of me x ≡ Initiator → IsBegunWith me d x terms → IsCommittedTo me k x terms → RecallsOne me k x None
    → IsAdded old new (asked_entry x terms) → Recalls me (with_said me d k) new
ask_recalls me k d x old new terms h s own b commit none add =
    let recent : old.round ≤ x.round + old.shape.life =
    subst (λ (life : ℕ). old.round ≤ x.round + life) (ap (λ s. s.life) (sym h.shape)) (subst (λ (now : ℕ). now ≤ x.round + me.session.shape.life) (sym h.round) s.recent) in
    changed_recalls me k d (request_kind x.kind) x (Some (newly (asked_entry x terms))) old new h s
    (add_changes old new (asked_entry x terms) add recent refl refl)
    (one_asked me k d x terms s own b commit none)
    (record { side = sym own; form = b.form; windows = b.windows; asked = λ initiator. refl; opened = λ said. refl })

-- What a ledger recalls of an exchange after a CASE or a KEY of it is said.
use Rattle.std.proofs.Common.{◌≡◌, ℕ, List, Bool, true, false, ◌&&◌, ◌||◌, ◌==◌, Option, Some, None, Bor, is_some, refl, sym, ap, subst, ◌∙◌, inl, inr}
use Rattle.std.specs.Prelude.{option_map, option_and_then, IfSome, if◌then◌else◌}
use Rattle.std.specs.Bool.{then_some}
use Rattle.std.specs.Option.{option_copied}
use Rattle.std.proofs.Math.Bool.{or-false}
use Rattle.std.proofs.lemmas.Bool.{cases_Bool, and_parts, or_right, both_ways, false≢true}
use Rattle.std.proofs.lemmas.Option.{none-some}
use Rattle.bar_window.specs.declared.update.UpdateId.{UpdateId}
use Rattle.bar_window.specs.declared.exchange.Exchange.{Exchange}
use Rattle.bar_window.specs.declared.exchange.Role.{Role}
use Rattle.bar_window.specs.declared.exchange.Role.TheVariants.{Initiator, Responder}
use Rattle.bar_window.specs.declared.exchange.XKind.{XKind}
use Rattle.bar_window.specs.declared.exchange.XKind.TheVariants.{Balanced, Push}
use Rattle.bar_window.specs.Exchange.{same_role, other_role}
use Rattle.bar_window.specs.Terms.{Terms, plain_terms}
use Rattle.bar_wire.specs.Bodies.{history_in, offer_in, reply_in}
use Rattle.bar_wire.specs.Datagram.{Datagram}
use Rattle.bar_wire.specs.Kinds.{code_of}
use Rattle.bar_wire.specs.declared.kind.Kind.{Kind}
use Rattle.bar_wire.specs.declared.kind.Kind.TheVariants as kinds
use Rattle.bar_rules.specs.Member.{Member}
use Rattle.bar_rules.specs.Peer.Agreement.{IsRecent}
use Rattle.bar_rules.specs.Peer.Exchanges.{role_of}
use Rattle.bar_rules.specs.Peer.Knowledge.{Knowledge, with_said, has_said_of}
use Rattle.bar_rules.specs.Peer.Terms.{body_on, terms_of, terms_by, trade_terms, offer_terms}
use Rattle.bar_ledger.specs.declared.entry.Entry.{Entry}
use Rattle.bar_ledger.specs.declared.ledger.Ledger.{Ledger}
use Rattle.bar_ledger.specs.Code.Hearing.{is_opening}
use Rattle.bar_ledger.specs.Code.Kept.{Kept, IsKeptFor, with_new, heard_of}
use Rattle.bar_ledger.specs.Code.Lookups.{heard_by, is_said, knows_commit, knows_answer, knows_offer, if_known, commit_of, history_of, offer_of, reply_of}
use Rattle.bar_ledger.specs.Code.Memory.{find_in}
use Rattle.bar_ledger.specs.Code.Recalls.{Recalls, IsKeptBy}
use Rattle.bar_ledger.proofs.Changes.{found-own}
use Rattle.bar_exchange.specs.Code.Keeping.{IsSaidNow}
use Rattle.bar_exchange.proofs.One.{RecallsOne, one_of}
use Rattle.bar_exchange.proofs.Said.{body_same, revealed_same, marks_more}
use Rattle.bar_exchange.proofs.Changed.{IsSet, set_changes, changed_recalls}

-- ---- the kept state with its entry

-- The entry is that of the exchange.
pub record IsFound (l : Ledger) (x : Exchange) (e : Entry) : Type 0 where
  pub rest : Kept
  pub is : find_in l x ≡ Some (with_new e rest)
  pub named : e.x ≡ x

pub found_by : (l : Ledger) (x : Exchange) (e : Entry) → Some e ≡ option_map (λ kept. kept.entry) (find_in l x) → IsFound l x e
found_by l x e same = go (find_in l x) refl same
  where
    go : (o : Option Kept) → find_in l x ≡ o → Some e ≡ option_map (λ kept. kept.entry) o → IsFound l x e
    go None at s = absurd (none-some e (sym s))
    go (Some kept) at s =
        let entry : kept.entry ≡ e = cc in
        let is : find_in l x ≡ Some (with_new e kept) = at ∙ (λ i. Some (with_new (entry i) kept)) in
        let own : IsKeptFor x l.shape.life l.round (with_new e kept) =
        subst (λ (o : Option Kept). IfSome o (IsKeptFor x l.shape.life l.round)) is (found-own x l.shape.life l.round l.slots.items) in
        record { rest = kept; is = is; named = own.named }

-- what is recalled of the exchange
pub one_found : (me : Member) (k : Knowledge) (l : Ledger) (x : Exchange) (e : Entry) → Recalls me k l → IsRecent me k x.round → (f : IsFound l x e)
    → RecallsOne me k x (Some (with_new e f.rest))
one_found me k l x e h recent f = subst (RecallsOne me k x) f.is (one_of me k l h x recent)

pub kept_found : (me : Member) (k : Knowledge) (l : Ledger) (x : Exchange) (e : Entry) → Recalls me k l → (f : IsFound l x e) → IsKeptBy me x (with_new e f.rest)
kept_found me k l x e h f = subst (λ (o : Option Kept). IfSome o (IsKeptBy me x)) f.is (h.kept x)

-- ---- what was heard is unchanged

heard_entry : (kind : Kind) (kept : Kept) (e : Entry) → e.x ≡ kept.entry.x → e.role ≡ kept.entry.role → heard_of kind (with_new e kept) ≡ heard_of kind kept
heard_entry kinds.Divulge kept e x role = refl
heard_entry kinds.Case kept e x role = refl
heard_entry kinds.KeyReq kept e x role = refl
heard_entry kinds.Key kept e x role = refl
heard_entry kind kept e x role = λ i. if is_opening kind (x i).kind (role i) then kept.first else None

pub heard_same : (kind : Kind) (side : Role) (kept : Kept) (e : Entry) → e.x ≡ kept.entry.x → e.role ≡ kept.entry.role
    → heard_by kind side kept ≡ heard_by kind side (with_new e kept)
heard_same kind side kept e x role = λ i. if same_role side (other_role (sym role i)) then sym (heard_entry kind kept e x role) i else None

-- ---- the known terms are unchanged if the mark of the first message is

pub commit_known : (role : Role) (kept : Kept) (e : Entry) → e.first_said ≡ kept.entry.first_said → knows_commit role kept ≡ knows_commit role (with_new e kept)
commit_known Initiator kept e first = sym first
commit_known Responder kept e first = refl

pub answer_known : (role : Role) (kept : Kept) (e : Entry) → e.first_said ≡ kept.entry.first_said → knows_answer role kept ≡ knows_answer role (with_new e kept)
answer_known Initiator kept e first = refl
answer_known Responder kept e first = sym first

pub offer_known : (role : Role) (kept : Kept) (e : Entry) → e.first_said ≡ kept.entry.first_said → knows_offer role kept ≡ knows_offer role (with_new e kept)
offer_known Initiator kept e first = sym first
offer_known Responder kept e first = refl

pub if_same : {X : Type 0} (part : Terms → Option X) (kept : Kept) (a b : Bool) → a ≡ b → if_known a part kept ≡ if_known b part kept
if_same part kept a b e = ap (λ b. if_known b part kept) e

-- ---- the marks

abbrev with_marks : Entry → Bool → Bool → Entry
with_marks e case key = record e { case_said = case; key_said = key }

pub or_true : (b : Bool) → true ≡ (b || true)
or_true b = sym (or_right b true refl)

case_mark : (kind : Kind) (e : Entry) → is_said kind (with_marks e true e.key_said) ≡ (is_said kind e || (code_of kinds.Case == code_of kind))
case_mark kinds.Case e = or_true e.case_said
case_mark kind e = sym (or-false _)

key_mark : (kind : Kind) (e : Entry) → is_said kind (with_marks e e.case_said true) ≡ (is_said kind e || (code_of kinds.Key == code_of kind))
key_mark kinds.Key e = or_true e.key_said
key_mark kind e = sym (or-false _)

-- The kind is neither that of a request nor that of an answer.
record IsLater (kind : Kind) : Type 0 where
  request : (code_of kind == code_of kinds.Request) ≡ false
  response : (code_of kind == code_of kinds.Response) ≡ false
  query : (code_of kind == code_of kinds.Query) ≡ false
  reply : (code_of kind == code_of kinds.Reply) ≡ false

one_marked : (me : Member) (k : Knowledge) (d : Datagram) (kind : Kind) (x : Exchange) (kept : Kept) (case key : Bool) → IsSaidNow me k d kind x → IsLater kind
    → IsKeptBy me x kept
    → ((other : Kind) → is_said other (with_marks kept.entry case key) ≡ (is_said other kept.entry || (code_of kind == code_of other)))
    → RecallsOne me k x (Some kept) → RecallsOne me (with_said me d k) x (Some (with_new (with_marks kept.entry case key) kept))
one_marked me k d kind x kept case key s later own marks h = record {
  heard = λ other role. h.heard other role ∙ heard_same other role kept (with_marks kept.entry case key) refl refl;
  said = λ other role.
      marks_more me k d kind x s (λ other. is_said other kept.entry) (λ other. is_said other (with_marks kept.entry case key))
      (λ other role. h.said other role ∙ ap (λ (own : Role). same_role role own && is_said other kept.entry) own.side) marks other role
      ∙ ap (λ (own : Role). same_role role own && is_said other (with_marks kept.entry case key)) (sym own.side);
  seats = h.seats;
  revealed = revealed_same me k d kind x s later.request ∙ h.revealed ∙ if_same commit_of kept _ _ (commit_known kept.entry.role kept (with_marks kept.entry case key) refl);
  answers = ap (option_and_then history_in) (bodies kinds.Response Responder later.response) ∙ h.answers
      ∙ if_same history_of kept _ _ (answer_known kept.entry.role kept (with_marks kept.entry case key) refl);
  offers = ap (option_and_then offer_in) (bodies kinds.Query Initiator later.query) ∙ h.offers
      ∙ if_same offer_of kept _ _ (offer_known kept.entry.role kept (with_marks kept.entry case key) refl);
  replies = ap (option_and_then reply_in) (bodies kinds.Reply Responder later.reply) ∙ h.replies
      ∙ if_same reply_of kept _ _ (answer_known kept.entry.role kept (with_marks kept.entry case key) refl);
  terms = terms x.kind ∙ h.terms;
}
  where
    bodies : (other : Kind) (role : Role) → (code_of kind == code_of other) ≡ false → body_on me (with_said me d k) other x role ≡ body_on me k other x role
    bodies = body_same me k d kind x s

    terms : (xkind : XKind) → terms_by xkind me (with_said me d k) x ≡ terms_by xkind me k x
    terms Balanced = λ i. trade_terms (revealed_same me k d kind x s later.request i) (option_and_then history_in (bodies kinds.Response Responder later.response i))
    terms Push = λ i. offer_terms (option_and_then offer_in (bodies kinds.Query Initiator later.query i)) (option_and_then reply_in (bodies kinds.Reply Responder later.reply i))

mark_recalls : (me : Member) (k : Knowledge) (d : Datagram) (kind : Kind) (x : Exchange) (old new : Ledger) (e : Entry) (case key : Bool) → Recalls me k old
    → IsSaidNow me k d kind x → IsLater kind → IsFound old x e → e.first_said ≡ true
    → ((other : Kind) → is_said other (with_marks e case key) ≡ (is_said other e || (code_of kind == code_of other)))
    → IsSet old new (with_marks e case key) → Recalls me (with_said me d k) new
mark_recalls me k d kind x old new e case key h s later f first marks set =
    let own = kept_found me k old x e h f in
    let kept : Kept = with_new e f.rest in
    changed_recalls me k d kind x (Some (with_new (with_marks e case key) f.rest)) old new h s
    (set_changes old new x (with_marks e case key) kept set f.is f.named f.named refl first)
    (one_marked me k d kind x kept case key s later own marks (one_found me k old x e h s.recent f))
    (record { side = own.side; form = own.form; windows = own.windows; asked = own.asked; opened = λ said. first })

pub case_recalls : (me : Member) (k : Knowledge) (d : Datagram) (x : Exchange) (old new : Ledger) (e : Entry) → Recalls me k old → IsSaidNow me k d kinds.Case x
    → IsFound old x e → e.first_said ≡ true → IsSet old new (record e { case_said = true }) → Recalls me (with_said me d k) new
case_recalls me k d x old new e h s f first set =
    mark_recalls me k d kinds.Case x old new e true e.key_said h s (record { request = refl; response = refl; query = refl; reply = refl }) f first
    (λ other. case_mark other e) set

pub key_recalls : (me : Member) (k : Knowledge) (d : Datagram) (x : Exchange) (old new : Ledger) (e : Entry) → Recalls me k old → IsSaidNow me k d kinds.Key x
    → IsFound old x e → e.first_said ≡ true → IsSet old new (record e { key_said = true }) → Recalls me (with_said me d k) new
key_recalls me k d x old new e h s f first set =
    mark_recalls me k d kinds.Key x old new e e.case_said true h s (record { request = refl; response = refl; query = refl; reply = refl }) f first
    (λ other. key_mark other e) set

-- ---- what was said before

-- if an exchange isn't kept, nothing is recalled of it
pub one_none : (me : Member) (k : Knowledge) (l : Ledger) (x : Exchange) → Recalls me k l → IsRecent me k x.round → is_some (find_in l x) ≡ false
    → RecallsOne me k x None
one_none me k l x h recent none = go (find_in l x) refl none
  where
    go : (o : Option Kept) → find_in l x ≡ o → is_some o ≡ false → RecallsOne me k x None
    go None at s = subst (RecallsOne me k x) at (one_of me k l h x recent)
    go (Some kept) at s = absurd (false≢true (sym s))

-- an entry is found if and only if the exchange is kept
pub some_found : (r : Option (Bor Entry)) (o : Option Kept) → option_copied r ≡ option_map (λ kept. kept.entry) o → is_some o ≡ is_some r
some_found None None e = refl
some_found (Some b) (Some kept) e = refl
some_found None (Some kept) e = absurd (none-some kept.entry e)
some_found (Some b) None e = absurd (none-some b.now (sym e))

no_trade : (a : Option (List ℕ × List UpdateId)) (b : Option (List UpdateId)) → b ≡ None → is_some (trade_terms a b) ≡ false
no_trade (Some v) b e = ap (λ b. is_some (trade_terms (Some v) b)) e
no_trade None b e = refl

no_offer : (a : Option (List UpdateId × List UpdateId)) (b : Option (List UpdateId × List UpdateId × ℕ)) → b ≡ None → is_some (offer_terms a b) ≡ false
no_offer (Some v) b e = ap (λ b. is_some (offer_terms (Some v) b)) e
no_offer None b e = refl

-- a responder that said nothing doesn't know the terms
silent : (me : Member) (k : Knowledge) (x : Exchange) (kept : Kept) → RecallsOne me k x (Some kept) → kept.entry.role ≡ Responder → kept.entry.first_said ≡ false
    → (kind : XKind) → is_some (terms_by kind me k x) ≡ false
silent me k x kept h role f Balanced =
    no_trade (k.revealed x) _
    (h.answers ∙ (λ i. if_known (knows_answer (role i) kept) history_of kept) ∙ ap (λ b. if b then history_of (plain_terms kept.entry.terms) else None) f)
silent me k x kept h role f Push =
    no_offer (option_and_then offer_in (body_on me k kinds.Query x Initiator)) _
    (h.replies ∙ (λ i. if_known (knows_answer (role i) kept) reply_of kept) ∙ ap (λ b. if b then reply_of (plain_terms kept.entry.terms) else None) f)

-- if the terms are known, this peer's first message is said
pub first_by_terms : (me : Member) (k : Knowledge) (x : Exchange) (kept : Kept) → RecallsOne me k x (Some kept) → IsKeptBy me x kept → is_some (terms_of me k x) ≡ true
    → kept.entry.first_said ≡ true
first_by_terms me k x kept h own known = elim (cases_Bool kept.entry.first_said) [
  | inl t ↦ t
  | inr f ↦ go kept.entry.role refl f
]
  where
    go : (role : Role) → kept.entry.role ≡ role → kept.entry.first_said ≡ false → kept.entry.first_said ≡ true
    go Initiator is f = own.asked is
    go Responder is f = absurd (both_ways (is_some (terms_of me k x)) (silent me k x kept h is f x.kind) known)

-- if this peer's CASE is said, so is its first message
pub first_by_case : (me : Member) (k : Knowledge) (x : Exchange) (kept : Kept) → RecallsOne me k x (Some kept) → IsKeptBy me x kept
    → has_said_of k kinds.Case x (role_of me x) ≡ true → kept.entry.first_said ≡ true
first_by_case me k x kept h own said = own.opened (and_parts _ _ (sym (h.said kinds.Case (role_of me x)) ∙ said)).1

-- if the terms are known, the entry is complete
pub complete_by_terms : (me : Member) (k : Knowledge) (x : Exchange) (kept : Kept) → RecallsOne me k x (Some kept) → is_some (terms_of me k x) ≡ true
    → kept.entry.complete ≡ true
complete_by_terms me k x kept h known = is_known kept.entry.complete _ (sym (ap (λ o. is_some o) h.terms) ∙ known)
  where
    is_known : (b : Bool) (t : Terms) → is_some (then_some b t) ≡ true → b ≡ true
    is_known true t e = refl
    is_known false t e = e

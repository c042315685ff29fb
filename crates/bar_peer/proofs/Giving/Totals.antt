-- The totals that are reported of an exchange.
use Rattle.std.proofs.Common.{◌≡◌, ◌∙◌, ℕ, ◌+◌, Bool, true, false, ◌&&◌, Option, Some, None, sym, ap, refl, subst, arith, length}
use Rattle.std.specs.Prelude.{nat_le, is_some, option_map, option_and_then, IfSome, if◌then◌else◌}
use Rattle.std.specs.Option.{option_map_or}
use Rattle.std.proofs.lemmas.Bool.{and_parts, false≢true}
use Rattle.std.proofs.lemmas.Bool.Decides.{nat_tests}
use Rattle.std.proofs.lemmas.Option.{same_Some}
use Rattle.bar_window.specs.declared.exchange.Exchange.{Exchange}
use Rattle.bar_window.specs.declared.exchange.Role.{Role}
use Rattle.bar_window.specs.Exchange.{other_role, same_role}
use Rattle.bar_window.specs.Terms.{Terms, plain_terms}
use Rattle.bar_window.proofs.Exchanges.{same_role_refl}
use Rattle.bar_terms.specs.Terms.{promise, can_promise}
use Rattle.bar_rules.proofs.TermWindows.{aligned_of}
use Rattle.bar_wire.specs.Bodies.{briefcase_in}
use Rattle.bar_wire.specs.Datagram.{Datagram, Briefcase}
use Rattle.bar_wire.specs.declared.kind.Kind.{Kind}
use Rattle.bar_wire.specs.declared.kind.Kind.TheVariants as kinds
use Rattle.bar_wire.specs.declared.shape.Shape.{Shape}
use Rattle.bar_rules.specs.Member.{Member}
use Rattle.bar_rules.specs.Values.{datagram_bytes}
use Rattle.bar_rules.specs.Peer.Agreement.{IsRecent}
use Rattle.bar_rules.specs.Peer.Exchanges.{role_of}
use Rattle.bar_rules.specs.Peer.Holdings.{case_in}
use Rattle.bar_rules.specs.Peer.Knowledge.{Knowledge, this_round, has_said_of}
use Rattle.bar_rules.specs.Peer.Orders.{case_body}
use Rattle.bar_rules.specs.Peer.Terms.{terms_of, totals, promise_size, case_said, case_heard}
use Rattle.bar_rules.specs.Peer.Writing.{written}
use Rattle.bar_laws.specs.Rewriting.{IsRewritten}
use Rattle.bar_laws.specs.Soundness.{IsSound}
use Rattle.bar_ledger.specs.declared.entry.Entry.{Entry}
use Rattle.bar_ledger.specs.declared.ledger.Ledger.{Ledger}
use Rattle.bar_ledger.specs.Code.Kept.{Kept, IsKeptFor}
use Rattle.bar_ledger.specs.Code.Lookups.{is_said, said_by, heard_by}
use Rattle.bar_ledger.specs.Code.Memory.{find_in}
use Rattle.bar_ledger.specs.Code.Recalls.{Recalls, IsKeptBy, complete_terms}
use Rattle.bar_ledger.specs.Code.Totals.{AreSound, totals_by}
use Rattle.bar_ledger.specs.declared.totals.Totals.{Totals as Told}
use Rattle.bar_laws.proofs.Logs.{some-is}
use Rattle.bar_peer.specs.Code.Telling.{HasTotals, AreTotals, no_totals}
use Rattle.bar_peer.proofs.Hearing.Keys.{is_case}
use Rattle.bar_bytes.proofs.Options.{some-mapped, none-of, then-value}

-- ---- the CASE that was said

-- The terms of an exchange whose CASE this member said, and the size of its promise.
record IsPromised (me : Member) (k : Knowledge) (x : Exchange) : Type 0 where
  pub agreed : Terms
  pub terms : terms_of me k x ≡ Some agreed
  pub size : promise_size me.session (case_said me k x) ≡ length (promise me.session.cap agreed (role_of me x))

promised_by : (me : Member) (k : Knowledge) (x : Exchange) (d : Datagram) (o : Option Terms) → terms_of me k x ≡ o
    → k.said kinds.Case x (role_of me x) ≡ Some d → written me k x (option_map (case_body me k x) o) ≡ Some d → IsPromised me k x
promised_by me k x d None e said is = absurd (cc)
promised_by me k x d (Some t) e said is =
    record { agreed = t; terms = e; size = ap (λ o. promise_size me.session (case_in o)) (said ∙ sym is) }

promised : (me : Member) (k : Knowledge) (x : Exchange) → IsRewritten me k → has_said_of k kinds.Case x (role_of me x) ≡ true
    → IsPromised me k x
promised me k x rewritten said =
    let d = some-is (k.said kinds.Case x (role_of me x)) said in
    promised_by me k x d.0 (terms_of me k x) refl d.1 (rewritten.same kinds.Case x d.0 d.1)

-- ---- the CASE that was heard

received : (me : Member) (k : Knowledge) (x : Exchange) (t : Terms) (o : Option Datagram) → IsSound me k → terms_of me k x ≡ Some t
    → k.heard kinds.Case x (other_role (role_of me x)) ≡ o
    → promise_size me.session (case_heard me k x)
    ≡ (if is_some o then length (promise me.session.cap t (other_role (role_of me x))) else 0)
received me k x t None sound terms e = ap (λ o. promise_size me.session (case_in o)) e
received me k x t (Some d) sound terms e =
    let c = is_case d.message.body (and_parts _ _ (sound.heard kinds.Case x (other_role (role_of me x)) d e)).0 in
    let found : case_heard me k x ≡ Some c.0 = ap case_in e ∙ ap briefcase_in c.1 in
    let theirs = sound.theirs x c.0 found in
    let same : c.0.terms ≡ t = same_Some c.0.terms t (sym theirs.terms ∙ terms) in
    ap (promise_size me.session) found ∙ (λ i. length (promise me.session.cap (same i) (theirs.side i)))

-- ---- if no CASE was said

no_case : (me : Member) (k : Knowledge) (x : Exchange) (o : Option Briefcase) → IsSound me k
    → has_said_of k kinds.Case x (role_of me x) ≡ false → case_heard me k x ≡ o → o ≡ None
no_case me k x None sound none e = refl
no_case me k x (Some c) sound none e = absurd (false≢true (sym none ∙ (sound.theirs x c e).said))

if_zero : (b : Bool) (n : ℕ) → n ≡ 0 → (if b then n else 0) ≡ 0
if_zero true n zero = zero
if_zero false n zero = refl

-- if no CASE was said, the totals are zeros
nothing_told : (me : Member) (k : Knowledge) (x : Exchange) (told : Told) → IsSound me k
    → has_said_of k kinds.Case x (role_of me x) ≡ false → told ≡ record { promised = 0; received = 0; opened = 0 }
    → HasTotals (totals me k x) told
nothing_told me k x told sound none zeros =
    let mine : promise_size me.session (case_said me k x) ≡ 0 =
    ap (λ o. promise_size me.session (case_in o)) (none-of (k.said kinds.Case x (role_of me x)) none)
    in
    let theirs : promise_size me.session (case_heard me k x) ≡ 0 =
    ap (promise_size me.session) (no_case me k x (case_heard me k x) sound none refl)
    in
    record {
      promised = ap (λ (t : Told). t.promised) zeros ∙ sym mine;
      received = ap (λ (t : Told). t.received) zeros ∙ sym theirs;
      opened = ap (λ (t : Told). t.opened) zeros
          ∙ sym (if_zero (has_said_of k kinds.Key x (role_of me x)) (promise_size me.session (case_said me k x)) mine);
    }

recent_told : (me : Member) (k : Knowledge) (x : Exchange) (told : Told) (b : Bool)
    → nat_le (this_round k) (x.round + me.session.shape.life) ≡ b → (b ≡ true → HasTotals (totals me k x) told)
    → (b ≡ false → HasTotals no_totals told) → AreTotals me k x told
recent_told me k x told true e recent past =
    subst (λ (b : Bool). HasTotals (if b then totals me k x else no_totals) told) (sym e) (recent refl)
recent_told me k x told false e recent past =
    subst (λ (b : Bool). HasTotals (if b then totals me k x else no_totals) told) (sym e) (past refl)

-- zeros are reported for an exchange whose CASE wasn't said
pub none_told : (me : Member) (k : Knowledge) (x : Exchange) (told : Told) → IsSound me k
    → (IsRecent me k x.round → has_said_of k kinds.Case x (role_of me x) ≡ false)
    → told ≡ record { promised = 0; received = 0; opened = 0 } → AreTotals me k x told
none_told me k x told sound none zeros =
    let here : nat_le (this_round k) (x.round + me.session.shape.life) ≡ true → IsRecent me k x.round = λ t. grind (arith, nat_tests, t) in
    recent_told me k x told (nat_le (this_round k) (x.round + me.session.shape.life)) refl
    (λ t. nothing_told me k x told sound (none (here t)) zeros)
    (λ f. record {
      promised = ap (λ (t : Told). t.promised) zeros;
      received = ap (λ (t : Told). t.received) zeros;
      opened = ap (λ (t : Told). t.opened) zeros;
    })

-- ---- the kept state

-- A kept exchange may still be asked about, and its side is this member's.
pub record IsFound (me : Member) (k : Knowledge) (l : Ledger) (x : Exchange) (e : Entry) : Type 0 where
  pub kept : Kept
  pub found : find_in l x ≡ Some kept
  pub entry : kept.entry ≡ e
  pub recent : IsRecent me k x.round
  pub own : IsKeptBy me x kept

found_by : (me : Member) (k : Knowledge) (l : Ledger) (x : Exchange) (e : Entry) (o : Option Kept) → find_in l x ≡ o → Recalls me k l
    → Some e ≡ option_map (λ kept. kept.entry) o → IfSome o (IsKeptFor x l.shape.life l.round) → IfSome o (IsKeptBy me x) → IsFound me k l x e
found_by me k l x e None is recalls entry live own = absurd (cc)
found_by me k l x e (Some kept) is recalls entry live own =
    let life : l.shape.life ≡ me.session.shape.life = ap (λ (s : Shape). s.life) recalls.shape in
    record {
      kept = kept;
      found = is;
      entry = sym (same_Some e kept.entry entry);
      recent = omega (arith, live.recent, recalls.round, life);
      own = own;
    }

pub found : (me : Member) (k : Knowledge) (l : Ledger) (x : Exchange) (e : Entry) → Recalls me k l
    → Some e ≡ option_map (λ kept. kept.entry) (find_in l x) → IfSome (find_in l x) (IsKeptFor x l.shape.life l.round) → IsFound me k l x e
found me k l x e recalls entry live = found_by me k l x e (find_in l x) refl recalls entry live (recalls.kept x)

said_kept : (me : Member) (k : Knowledge) (l : Ledger) (x : Exchange) (e : Entry) (kind : Kind) → Recalls me k l → (f : IsFound me k l x e)
    → has_said_of k kind x (role_of me x) ≡ is_said kind f.kept.entry
said_kept me k l x e kind recalls f =
    recalls.said kind x (role_of me x) f.recent
    ∙ ap (λ o. option_map_or (said_by kind (role_of me x)) o false) f.found
    ∙ ap (λ (r : Role). same_role (role_of me x) r && is_said kind f.kept.entry) f.own.side
    ∙ ap (λ (b : Bool). b && is_said kind f.kept.entry) (same_role_refl (role_of me x))

heard_kept : (me : Member) (k : Knowledge) (l : Ledger) (x : Exchange) (e : Entry) → Recalls me k l → (f : IsFound me k l x e)
    → is_some (k.heard kinds.Case x (other_role (role_of me x))) ≡ is_some f.kept.case
heard_kept me k l x e recalls f =
    let other : Role = other_role (role_of me x) in
    sym (some-mapped (datagram_bytes me.session) (k.heard kinds.Case x other))
    ∙ ap (λ o. is_some o) (recalls.heard kinds.Case x other f.recent)
    ∙ ap (λ o. is_some (option_and_then (heard_by kinds.Case other) o)) f.found
    ∙ ap (λ (r : Role). is_some (if same_role other (other_role r) then f.kept.case else None)) f.own.side
    ∙ ap (λ (b : Bool). is_some (if b then f.kept.case else None)) (same_role_refl other)

terms_kept : (me : Member) (k : Knowledge) (l : Ledger) (x : Exchange) (e : Entry) (t : Terms) → Recalls me k l → (f : IsFound me k l x e)
    → terms_of me k x ≡ Some t → plain_terms f.kept.entry.terms ≡ t
terms_kept me k l x e t recalls f terms =
    then-value f.kept.entry.complete (plain_terms f.kept.entry.terms) t
    (sym (recalls.terms x f.recent ∙ ap (option_and_then complete_terms) f.found) ∙ terms)

-- ---- the reported totals

-- if no CASE is marked as said, or the exchange isn't kept, no CASE was said
pub no_case_said : (me : Member) (k : Knowledge) (l : Ledger) (x : Exchange) (e : Entry) → Recalls me k l → IsFound me k l x e
    → e.case_said ≡ false → has_said_of k kinds.Case x (role_of me x) ≡ false
no_case_said me k l x e recalls f none =
    said_kept me k l x e kinds.Case recalls f ∙ ap (λ (y : Entry). y.case_said) f.entry ∙ none

pub nothing_kept : (me : Member) (k : Knowledge) (l : Ledger) (x : Exchange) → Recalls me k l → IsRecent me k x.round
    → find_in l x ≡ None → has_said_of k kinds.Case x (role_of me x) ≡ false
nothing_kept me k l x recalls recent none =
    recalls.said kinds.Case x (role_of me x) recent ∙ ap (λ o. option_map_or (said_by kinds.Case (role_of me x)) o false) none

-- if the CASE of an exchange was said, each side can promise something by its terms
pub said_soundly : (me : Member) (k : Knowledge) (l : Ledger) (x : Exchange) (e : Entry) → Recalls me k l → IsSound me k → IsRewritten me k
    → IsFound me k l x e → e.case_said ≡ true → AreSound l.cap e.terms
said_soundly me k l x e recalls sound rewritten f said =
    let marked : has_said_of k kinds.Case x (role_of me x) ≡ true =
    said_kept me k l x e kinds.Case recalls f ∙ ap (λ (y : Entry). y.case_said) f.entry ∙ said
    in
    let p = promised me k x rewritten marked in
    let same : plain_terms f.kept.entry.terms ≡ p.agreed = terms_kept me k l x e p.agreed recalls f p.terms in
    subst (λ (y : Entry). AreSound l.cap y.terms) f.entry (record {
      aligned = aligned_of me.session.shape x.round f.kept.entry.terms f.own.windows;
      valid = (λ i. can_promise (recalls.cap i) (same i)) ∙ (sound.cases x p.agreed marked p.terms).valid;
    })

-- if the CASE of an exchange was said, the reported totals are those of the rules
pub kept_told : (me : Member) (k : Knowledge) (l : Ledger) (x : Exchange) (e : Entry) (told : Told) → Recalls me k l → IsSound me k
    → IsRewritten me k → IsFound me k l x e → e.case_said ≡ true
    → told ≡ option_map_or (totals_by l.cap) (find_in l x) (record { promised = 0; received = 0; opened = 0 })
    → AreTotals me k x told
kept_told me k l x e told recalls sound rewritten f said is =
    recent_told me k x told true recent (λ t. all) (λ t. absurd (false≢true (sym t)))
  where
    kept : Kept
    kept = f.kept

    recent : nat_le (this_round k) (x.round + me.session.shape.life) ≡ true
    recent = grind (arith, nat_tests, f.recent)

    here : kept.entry.case_said ≡ true
    here = ap (λ (y : Entry). y.case_said) f.entry ∙ said

    p : IsPromised me k x
    p = promised me k x rewritten (said_kept me k l x e kinds.Case recalls f ∙ here)

    same : plain_terms kept.entry.terms ≡ p.agreed
    same = terms_kept me k l x e p.agreed recalls f p.terms

    mine : length (promise l.cap (plain_terms kept.entry.terms) kept.entry.role) ≡ promise_size me.session (case_said me k x)
    mine = (λ i. length (promise (recalls.cap i) (same i) (f.own.side i))) ∙ sym p.size

    as_kept : told ≡ totals_by l.cap kept
    as_kept = is ∙ ap (λ o. option_map_or (totals_by l.cap) o (record { promised = 0; received = 0; opened = 0 })) f.found

    all : HasTotals (totals me k x) told
    all = record {
      promised = ap (λ (t : Told). t.promised) as_kept
          ∙ ap (λ (b : Bool). if b then length (promise l.cap (plain_terms kept.entry.terms) kept.entry.role) else 0) here
          ∙ mine;
      received = ap (λ (t : Told). t.received) as_kept
          ∙ (λ i. if sym (heard_kept me k l x e recalls f) i
          then length (promise (recalls.cap i) (same i) (other_role (f.own.side i))) else 0)
          ∙ sym (received me k x p.agreed (k.heard kinds.Case x (other_role (role_of me x))) sound p.terms refl);
      opened = ap (λ (t : Told). t.opened) as_kept
          ∙ (λ i. if sym (said_kept me k l x e kinds.Key recalls f) i then mine i else 0);
    }

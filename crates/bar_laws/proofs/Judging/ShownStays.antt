-- What is shown under a table is shown under each table that extends it.
use Rattle.bar_wire.specs.Bodies.{briefcase_in, choice_in, key_in}
use Rattle.bar_case.specs.Opened.{opening, is_bad}
use Rattle.bar_rules.specs.Member.{Session}
use Rattle.bar_rules.specs.Values.{terms_ok, counts_ok, is_signed_by}
use Rattle.bar_rules.specs.Judge.Verdict.{Fault, BadOpening, BadTerms, Shown, NotShown, bad_terms, fault_of_one, fault_of_messages, fault_of_two, is_leaf_twice, LeafTwice, bad_opening, fault_of, judged, verdict_on, verdict, fault_by_words, wrong_partner, WrongPartner, all_read, are_of_one_peer, Malformed, NotSigned}
use Rattle.bar_terms.specs.Table.{Table, Extends, digest_of, NoManifest, none_past_end, is_past_end}
use Rattle.bar_terms.specs.Terms.{offer_ok}
use Rattle.bar_window.specs.Terms.{Terms}
use Rattle.bar_window.specs.Terms as forms
use Rattle.bar_window.specs.declared.exchange.Exchange.{Exchange}
use Rattle.bar_window.specs.declared.exchange.Role.{Role}
use Rattle.bar_window.specs.declared.update.UpdateId.{UpdateId}
use Rattle.bar_wire.specs.Datagram.{Message, Datagram, Body, Case, Key, Briefcase, KeyGiven, exchange_by}
use Rattle.std.specs.Option.{option_or, option_map_or}
use Rattle.std.proofs.Common.{◌≡◌, ℕ, Bool, true, false, List, [], ◌∷◌, refl, sym, ap, ◌∙◌, ◌&&◌, not, inl, inr, cond}
use Rattle.std.specs.Prelude.{Option, Some, None, ◌⊎◌, if◌then◌else◌}
use Rattle.std.specs.List.{list_all}
use Rattle.std.specs.Bool.{then_some}
use Rattle.bar_laws.proofs.Logs.{no-value, digest-extends, briefcase-is}
use Rattle.std.proofs.lemmas.Bool.{and_parts, and_from, both_ways, not-true, not_from_false, cases_Bool}

-- a bar_case law of a bad opening: it stays bad under longer tables
abbrev pub BadStaysBad : Type 0
BadStaysBad =
    (id : List ℕ) (x : Exchange) (cap : ℕ) (terms : Terms) (role : Role) (cipher key : List ℕ) (old new : Table) → Extends old new
    → is_bad (opening id x cap terms role cipher key old) ≡ true → is_bad (opening id x cap terms role cipher key new) ≡ true

pub past_end-extends : (old new : Table) (u : UpdateId) → Extends old new → is_past_end (digest_of new u) ≡ false → is_past_end (digest_of old u) ≡ false
past_end-extends old new u h e = go (digest-extends old new u h)
  where
    go : (digest_of old u ≡ NoManifest) ⊎ (digest_of new u ≡ digest_of old u) → is_past_end (digest_of old u) ≡ false
    go (inl none) = ap is_past_end none
    go (inr same) = ap is_past_end (sym same) ∙ e

pub none_past_end-extends : (old new : Table) (us : List UpdateId) → Extends old new → none_past_end new us ≡ true → none_past_end old us ≡ true
none_past_end-extends old new [] h e = refl
none_past_end-extends old new (u ∷ us) h e =
    let p : (not (is_past_end (digest_of new u)) ≡ true) × (none_past_end new us ≡ true) = and_parts _ _ e in
    and_from _ _ (not_from_false _ (past_end-extends old new u h (not-true _ p.0))) (none_past_end-extends old new us h p.1)

and_first : (a b c : Bool) → (a ≡ true → b ≡ true) → (a && c) ≡ true → (b && c) ≡ true
and_first a b c f e = let p = and_parts a c e in and_from b c (f p.0) p.1

both_past_end-extend : (old new : Table) (us vs : List UpdateId) → Extends old new → (none_past_end new us && none_past_end new vs) ≡ true
    → (none_past_end old us && none_past_end old vs) ≡ true
both_past_end-extend old new us vs h e =
    let p = and_parts _ _ e in and_from _ _ (none_past_end-extends old new us h p.0) (none_past_end-extends old new vs h p.1)

pub offer_ok-extends : (cap life : ℕ) (old new : Table) (round : ℕ) (young aged : List UpdateId) → Extends old new → offer_ok cap life new round young aged ≡ true → offer_ok cap life old round young aged ≡ true
offer_ok-extends cap life old new round young aged h e = let p = and_parts _ _ e in and_from _ _ p.0 (both_past_end-extend old new young aged h p.1)

-- terms that a longer table allows are allowed by a shorter one
pub terms_ok-extends : (s : Session) (old new : Table) (x : Exchange) (terms : Terms) → Extends old new → terms_ok s new x terms ≡ true → terms_ok s old x terms ≡ true
terms_ok-extends s old new x (forms.Balanced nonce ha hb) h e = let p = and_parts _ _ e in and_from _ _ p.0 (both_past_end-extend old new ha hb h p.1)
terms_ok-extends s old new x (forms.Push young aged want give junk) h e =
    and_first _ _ _ (offer_ok-extends s.cap s.shape.life old new x.round young aged h) e

pub bad_terms-extends : (s : Session) (old new : Table) (m : Message) (c : Briefcase) → Extends old new → bad_terms s old m c ≡ true → bad_terms s new m c ≡ true
bad_terms-extends s old new m c h e = go (cases_Bool (terms_ok s new x c.terms && counts_ok s c))
  where
    x : Exchange
    x = exchange_by c.round c.kind c.role m.from m.to

    go : ((terms_ok s new x c.terms && counts_ok s c) ≡ true) ⊎ ((terms_ok s new x c.terms && counts_ok s c) ≡ false) → bad_terms s new m c ≡ true
    go (inr f) = not_from_false _ f
    go (inl t) =
        let ok : (terms_ok s old x c.terms && counts_ok s c) ≡ true = and_first _ _ _ (terms_ok-extends s old new x c.terms h) t in
        let no : (terms_ok s old x c.terms && counts_ok s c) ≡ false = not-true _ e in
        absurd (both_ways _ no ok)

-- ---- verdicts

pub bad_opening-stays : BadStaysBad → (s : Session) (old new : Table) (m n : Message) (oc : Option Briefcase) (ok : Option KeyGiven) → Extends old new
    → bad_opening s old m n oc ok ≡ true → bad_opening s new m n oc ok ≡ true
bad_opening-stays law s old new m n None ok h e = e
bad_opening-stays law s old new m n (Some c) None h e = e
bad_opening-stays law s old new m n (Some c) (Some k) h e =
    let p = and_parts _ _ e in
    let q = and_parts _ _ p.1 in
    and_from _ _ p.0
    (and_from _ _ q.0 (law s.shape.id (exchange_by c.round c.kind c.role m.from m.to) s.cap c.terms c.role c.cipher k.key old new h q.1))

pub key_of-is : (b : Body) (k : KeyGiven) → key_in b ≡ Some k → b ≡ Key k
key_of-is (Key d) k e = cc
key_of-is b k e = absurd (no-value (key_in b) k refl e)

-- a fault by opening needs a briefcase first and a key second
bad_opening-kinds : (s : Session) (table : Table) (m n : Message) → bad_opening s table m n (briefcase_in m.body) (key_in n.body) ≡ true
    → ((c : Briefcase) × (m.body ≡ Case c)) × ((k : KeyGiven) × (n.body ≡ Key k))
bad_opening-kinds s table m n e = go (briefcase_in m.body) (key_in n.body) refl refl e
  where
    go : (oc : Option Briefcase) (ok : Option KeyGiven) → briefcase_in m.body ≡ oc → key_in n.body ≡ ok → bad_opening s table m n oc ok ≡ true
        → ((c : Briefcase) × (m.body ≡ Case c)) × ((k : KeyGiven) × (n.body ≡ Key k))
    go (Some c) (Some k) p q e = ((c, briefcase-is m.body c p), (k, key_of-is n.body k q))
    go (Some c) None p q e = cc
    go None ok p q e = cc

if_same : (b : Bool) → ◌≡◌ {A = Option Fault} (cond b None None) None
if_same true = refl
if_same false = refl

-- a briefcase and a key show nothing else, in either order
words-case_key : (s : Session) (m n : Message) (c : Briefcase) (k : KeyGiven) → m.body ≡ Case c → n.body ≡ Key k → fault_by_words s m n ≡ None
words-case_key s m n c k p q = rw (p, q) refl

words-key_case : (s : Session) (m n : Message) (c : Briefcase) (k : KeyGiven) → m.body ≡ Case c → n.body ≡ Key k → fault_by_words s n m ≡ None
words-key_case s m n c k p q = rw (p, q) (if_same _)

no_opening : (s : Session) (table : Table) (m n : Message) (c : Briefcase) (k : KeyGiven) → m.body ≡ Case c → n.body ≡ Key k
    → bad_opening s table n m (briefcase_in n.body) (key_in m.body) ≡ false
no_opening s table m n c k p q = rw (p, q) refl

-- one order of a pair: what it shows by opening is tested first, and then what it shows by contents
pair_stays : (a a' b b' : Bool) (r q : Option Fault) (f : Fault) → (a ≡ true → a' ≡ true) → (b ≡ true → b' ≡ true)
    → (a' ≡ true → (r ≡ None) × (b ≡ false) × (q ≡ None)) → (b' ≡ true → (a ≡ false) × (r ≡ None) × (q ≡ None))
    → option_or (option_or (then_some a BadOpening) r) (option_or (then_some b BadOpening) q) ≡ Some f
    → option_or (option_or (then_some a' BadOpening) r) (option_or (then_some b' BadOpening) q) ≡ Some f
pair_stays true a' b b' r q f ka kb na nb e = rw (ka refl) e
pair_stays false true b b' r q f ka kb na nb e = let z = na refl in let w = rw (z.0, z.1, z.2) at e in cc
pair_stays false false b b' (Some g) q f ka kb na nb e = e
pair_stays false false true b' None q f ka kb na nb e = rw (kb refl) e
pair_stays false false false false None q f ka kb na nb e = e
pair_stays false false false true None q f ka kb na nb e = let z = nb refl in let w = rw z.2 at e in cc

messages_stay : BadStaysBad → (s : Session) (old new : Table) (m n : Message) (f : Fault) → Extends old new → fault_of_messages s old m n ≡ Some f → fault_of_messages s new m n ≡ Some f
messages_stay law s old new m n f h e =
    pair_stays _ _ _ _ _ _ f
    (bad_opening-stays law s old new m n (briefcase_in m.body) (key_in n.body) h)
    (bad_opening-stays law s old new n m (briefcase_in n.body) (key_in m.body) h)
    (λ t. let z = bad_opening-kinds s new m n t in
    (words-case_key s m n z.0.0 z.1.0 z.0.1 z.1.1, no_opening s old m n z.0.0 z.1.0 z.0.1 z.1.1, words-key_case s m n z.0.0 z.1.0 z.0.1 z.1.1))
    (λ t. let z = bad_opening-kinds s new n m t in
    (no_opening s old n m z.0.0 z.1.0 z.0.1 z.1.1, words-key_case s n m z.0.0 z.1.0 z.0.1 z.1.1, words-case_key s n m z.0.0 z.1.0 z.0.1 z.1.1))
    e

-- leaves need no table, and are tested first
leaves_first : (b : Bool) (o p : Option Fault) (f : Fault) → (o ≡ Some f → p ≡ Some f) → option_or (then_some b LeafTwice) o ≡ Some f → option_or (then_some b LeafTwice) p ≡ Some f
leaves_first true o p f k e = e
leaves_first false o p f k e = k e

pub fault_of_two-stays : BadStaysBad → (s : Session) (old new : Table) (d e : Datagram) (f : Fault) → Extends old new → fault_of_two s old d e ≡ Some f → fault_of_two s new d e ≡ Some f
fault_of_two-stays law s old new d g f h e =
    leaves_first (is_leaf_twice s d g) _ _ f (messages_stay law s old new d.message g.message f h) e

-- a fault of one message
one_stays : (a a' b : Bool) (f : Fault) → (a ≡ true → a' ≡ true) → (a' ≡ true → b ≡ false) → option_or (then_some a BadTerms) (then_some b WrongPartner) ≡ Some f → option_or (then_some a' BadTerms) (then_some b WrongPartner) ≡ Some f
one_stays true a' b f k n e = rw (k refl) e
one_stays false false b f k n e = e
one_stays false true b f k n e = let w = rw (n refl) at e in cc

map_or-stays : (P Q : Briefcase → Bool) (o : Option Briefcase) → ((c : Briefcase) → P c ≡ true → Q c ≡ true) → option_map_or P o false ≡ true → option_map_or Q o false ≡ true
map_or-stays P Q (Some c) k e = k c e
map_or-stays P Q None k e = e

not_asked : (s : Session) (m : Message) (P : Briefcase → Bool) → option_map_or P (briefcase_in m.body) false ≡ true → option_map_or (wrong_partner s m) (choice_in m.body) false ≡ false
not_asked s m P e = go (briefcase_in m.body) refl e
  where
    go : (o : Option Briefcase) → briefcase_in m.body ≡ o → option_map_or P o false ≡ true → option_map_or (wrong_partner s m) (choice_in m.body) false ≡ false
    go None p e = cc
    go (Some c) p e = let q : m.body ≡ Case c = briefcase-is m.body c p in rw q refl

pub fault_of_one-stays : (s : Session) (old new : Table) (d : Datagram) (f : Fault) → Extends old new → fault_of_one s old d ≡ Some f → fault_of_one s new d ≡ Some f
fault_of_one-stays s old new d f h e =
    let m : Message = d.message in
    one_stays _ _ _ f (map_or-stays (bad_terms s old m) (bad_terms s new m) (briefcase_in m.body) (λ c. bad_terms-extends s old new m c h)) (not_asked s m (bad_terms s new m)) e

pub fault_of-stays : BadStaysBad → (s : Session) (old new : Table) (ds : List Datagram) (f : Fault) → Extends old new → fault_of s old ds ≡ Some f → fault_of s new ds ≡ Some f
fault_of-stays law s old new [] f h e = cc
fault_of-stays law s old new (d ∷ []) f h e = fault_of_one-stays s old new d f h e
fault_of-stays law s old new (d ∷ g ∷ []) f h e = fault_of_two-stays law s old new d g f h e
fault_of-stays law s old new (d ∷ g ∷ k ∷ ds) f h e = cc

-- a fault that is shown under a table is shown under each longer one
pub verdict-stays : BadStaysBad → (s : Session) (old new : Table) (evidence : List (List ℕ)) (party : ℕ) (f : Fault) → Extends old new
    → verdict s old evidence ≡ Shown party f → verdict s new evidence ≡ Shown party f
verdict-stays law s old new evidence party f h e = go (all_read s evidence) e
  where
    go : (o : Option (List Datagram)) → verdict_on s old o ≡ Shown party f → verdict_on s new o ≡ Shown party f
    go None e = cc
    go (Some ds) e = checked (are_of_one_peer ds) (list_all (is_signed_by s) ds) (fault_of s old ds) refl e
      where
        checked : (a b : Bool) (o : Option Fault) → fault_of s old ds ≡ o
            → (if not a then NotShown Malformed else (if not b then NotShown NotSigned else judged s old ds o)) ≡ Shown party f
            → (if not a then NotShown Malformed else (if not b then NotShown NotSigned else judged s new ds (fault_of s new ds))) ≡ Shown party f
        checked false b o p e = cc
        checked true false o p e = cc
        checked true true None p e = cc
        checked true true (Some g) p e = rw (fault_of-stays law s old new ds g h p) e

-- The contents of two messages that a member signed show no fault.
use Rattle.bar_wire.specs.Bodies.{briefcase_in, divulge_in, history_in, offer_in, reply_in}
use Rattle.bar_wire.specs.Kinds.{code_of}
use Rattle.bar_wire.specs.declared.kind.Kind.{Kind}
use Rattle.bar_rules.specs.Peer.Exchanges.{role_of, revealed, revealed_in}
use Rattle.bar_rules.specs.Peer.Holdings.{history, block_of}
use Rattle.bar_rules.specs.Peer.Knowledge.{known}
use Rattle.bar_rules.specs.Peer.Log.{Log, Entry, Ticked, Heard, Said, Kept}
use Rattle.bar_rules.specs.Member.{Session, Member}
use Rattle.bar_rules.specs.Peer.Rules.{IsObedient}
use Rattle.bar_rules.specs.Secrets.{nonce_of, commitment_of}
use Rattle.bar_rules.specs.Peer.Signing.{MayRequest, asking, MaySign, MaySay}
use Rattle.bar_rules.specs.Peer.Terms.{body_on, terms_of, terms_by, trade_terms, offer_terms}
use Rattle.bar_rules.specs.Values.{window_bytes}
use Rattle.bar_rules.specs.Judge.Verdict.{answer_differs, offer_differs, reply_differs, differs, broken_commit, breaks_commit, other_window, same_place, fault_by_case, fault_by_words, BrokenCommit, OtherHistory}
use Rattle.bar_window.specs.Exchange.{same_exchange, same_role, party_on}
use Rattle.bar_window.specs.Terms.{Terms}
use Rattle.bar_window.specs.Terms as forms
use Rattle.bar_window.specs.declared.exchange.Exchange.{Exchange}
use Rattle.bar_window.specs.declared.exchange.Role.{Role}
use Rattle.bar_window.specs.declared.exchange.Role.TheVariants.{Initiator, Responder}
use Rattle.bar_window.specs.declared.exchange.XKind.{XKind}
use Rattle.bar_window.specs.declared.exchange.XKind.TheVariants.{Balanced, Push}
use Rattle.bar_window.specs.declared.update.UpdateId.{UpdateId}
use Rattle.bar_window.proofs.Exchanges.{same_role-is, same_exchange-is}
use Rattle.bar_wire.specs.declared.kind.Kind.TheVariants as kinds
use Rattle.bar_wire.specs.Datagram.{Message, Datagram, Body, Request, Response, Query, Reply, Briefcase, Case, is_of, kind_number, part_of, exchange_by, exchange_of, Place, place_by}
use Rattle.std.proofs.Common.{◌≡◌, ℕ, Bool, true, false, List, refl, sym, ap, ◌∙◌, subst, ◌&&◌, not, cond}
use Rattle.std.specs.Prelude.{Option, Some, None, option_map, option_and_then}
use Rattle.std.specs.Bool.{then_some}
use Rattle.std.specs.Option.{option_map_or}
use Rattle.std.proofs.lemmas.Bool.{eq-eqb, or_from}
use Rattle.bar_laws.proofs.Logs.{IsEntry, find-of, WasSaid, said-rule, SaidIn, said-in, never_twice, parts-of, receiver-on, own-unheard, is_of-part, briefcase-is}
use Rattle.bar_laws.proofs.Runs.{names-itself}
use Rattle.bar_laws.proofs.Judging.SaidOnce.{said-same, told-said, SaidBriefcase, said-briefcase}
use Rattle.bar_bytes.proofs.Tests.{bytes_eq-refl}

-- ---- the parts of the terms that a log contains

trade-parts : (a : Option (List ℕ × List UpdateId)) (b : Option (List UpdateId)) (nonce : List ℕ) (ha hb : List UpdateId) → trade_terms a b ≡ Some (forms.Balanced nonce ha hb) → (a ≡ Some (nonce, ha)) × (b ≡ Some hb)
trade-parts (Some a) (Some b) nonce ha hb e = let p : a.0 ≡ nonce = cc in let q : a.1 ≡ ha = cc in let r : b ≡ hb = cc in (λ i. Some (p i, q i), ap Some r)
trade-parts (Some a) None nonce ha hb e = cc
trade-parts None b nonce ha hb e = cc

offer-no_trade : (a : Option (List UpdateId × List UpdateId)) (b : Option (List UpdateId × List UpdateId × ℕ)) (nonce : List ℕ) (ha hb : List UpdateId) → offer_terms a b ≡ Some (forms.Balanced nonce ha hb) → ⊥
offer-no_trade (Some a) (Some b) nonce ha hb e = cc
offer-no_trade (Some a) None nonce ha hb e = cc
offer-no_trade None b nonce ha hb e = cc

-- balanced terms: what was revealed, and what was answered
pub trade-of : (me : Member) (log : Log) (x : Exchange) (nonce : List ℕ) (ha hb : List UpdateId) → terms_of me (known me log) x ≡ Some (forms.Balanced nonce ha hb)
    → (revealed me log x ≡ Some (nonce, ha)) × (option_and_then history_in (body_on me (known me log) kinds.Response x Responder) ≡ Some hb)
trade-of me log x nonce ha hb e = go x.kind e
  where
    go : (k : XKind) → terms_by k me (known me log) x ≡ Some (forms.Balanced nonce ha hb) → (revealed me log x ≡ Some (nonce, ha)) × (option_and_then history_in (body_on me (known me log) kinds.Response x Responder) ≡ Some hb)
    go Balanced e = trade-parts _ _ nonce ha hb e
    go Push e = absurd (offer-no_trade _ _ nonce ha hb e)

offer-parts : (a : Option (List UpdateId × List UpdateId)) (b : Option (List UpdateId × List UpdateId × ℕ)) (young aged want give : List UpdateId) (junk : ℕ) → offer_terms a b ≡ Some (forms.Push young aged want give junk)
    → (a ≡ Some (young, aged)) × (b ≡ Some (want, give, junk))
offer-parts (Some a) (Some b) young aged want give junk e =
    let p : a.0 ≡ young = cc in let q : a.1 ≡ aged = cc in let r : b.0 ≡ want = cc in let s : b.1 ≡ give = cc in let t : b.2 ≡ junk = cc in
    (λ i. Some (p i, q i), λ i. Some (r i, s i, t i))
offer-parts (Some a) None young aged want give junk e = cc
offer-parts None b young aged want give junk e = cc

trade-no_offer : (a : Option (List ℕ × List UpdateId)) (b : Option (List UpdateId)) (young aged want give : List UpdateId) (junk : ℕ) → trade_terms a b ≡ Some (forms.Push young aged want give junk) → ⊥
trade-no_offer (Some a) (Some b) young aged want give junk e = cc
trade-no_offer (Some a) None young aged want give junk e = cc
trade-no_offer None b young aged want give junk e = cc

-- push terms: what was offered, and what was taken
pub offer-of : (me : Member) (log : Log) (x : Exchange) (young aged want give : List UpdateId) (junk : ℕ) → terms_of me (known me log) x ≡ Some (forms.Push young aged want give junk)
    → (option_and_then offer_in (body_on me (known me log) kinds.Query x Initiator) ≡ Some (young, aged)) × (option_and_then reply_in (body_on me (known me log) kinds.Reply x Responder) ≡ Some (want, give, junk))
offer-of me log x young aged want give junk e = go x.kind e
  where
    go : (k : XKind) → terms_by k me (known me log) x ≡ Some (forms.Push young aged want give junk) → (option_and_then offer_in (body_on me (known me log) kinds.Query x Initiator) ≡ Some (young, aged)) × (option_and_then reply_in (body_on me (known me log) kinds.Reply x Responder) ≡ Some (want, give, junk))
    go Balanced e = absurd (trade-no_offer _ _ young aged want give junk e)
    go Push e = offer-parts _ _ young aged want give junk e

-- ---- another history

other_window_refl : (s : Session) (r : ℕ) (us : List UpdateId) → other_window s r us us ≡ false
other_window_refl s r us = ap not (bytes_eq-refl (window_bytes s r us))

window-same : (s : Session) (r : ℕ) (us vs : List UpdateId) → us ≡ vs → other_window s r us vs ≡ false
window-same s r us vs e = rw e (other_window_refl s r vs)

pub when-false : (a b : Bool) → (a ≡ true → b ≡ false) → (a && b) ≡ false
when-false true b f = f refl
when-false false b f = refl

-- a message that names an exchange is of that exchange
own-exchange : (m : Message) (x : Exchange) (r : ℕ) (k : XKind) (a : Role) (kind : Kind) → exchange_of m ≡ Some x → kind_number m.body ≡ code_of kind → part_of m.body ≡ Some (r, k, a) → is_of kind x a m ≡ true
own-exchange m x r k a kind e n part =
    let z : exchange_of m ≡ Some (exchange_by r k a m.from m.to) = ap (λ o. option_map (λ (q : Place). q.exchange) (option_map (place_by m.from m.to) o)) part in
    let same : exchange_by r k a m.from m.to ≡ x = cc in
    subst (λ y. is_of kind y a m ≡ true) same (names-itself m kind r k a n part)

-- A said message of this member's side of an exchange.
pub record IsOwnWord (me : Member) (log : Log) (m : Datagram) (x : Exchange) (role : Role) : Type 0 where
  pub said : SaidIn log m
  pub at : exchange_of m.message ≡ Some x
  pub own : party_on x role ≡ me.party
  pub side : role_of me x ≡ role

answer-same : (me : Member) (log : Log) (m : Datagram) (x : Exchange) (r : ℕ) (us : List UpdateId) (terms : Terms) → IsObedient me log → IsOwnWord me log m x Responder → m.message.body ≡ Response r us
    → terms_of me (known me log) x ≡ Some terms → answer_differs me.session r us terms ≡ false
answer-same me log m x r us (forms.Push young aged want give junk) h w e t = refl
answer-same me log m x r us (forms.Balanced nonce ha hb) h w e t =
    let i : is_of kinds.Response x Responder m.message ≡ true = own-exchange m.message x r Balanced Responder kinds.Response w.at (ap kind_number e) (ap part_of e) in
    let f : history_in m.message.body ≡ Some hb = told-said me log x Responder kinds.Response history_in m hb h w.said i w.side (trade-of me log x nonce ha hb t).1 in
    let g : history_in (Response r us) ≡ Some hb = subst (λ z. history_in z ≡ Some hb) e f in
    let same : us ≡ hb = cc in
    window-same me.session r us hb same

offer-same : (me : Member) (log : Log) (m : Datagram) (x : Exchange) (r : ℕ) (seed : List ℕ) (us vs : List UpdateId) (terms : Terms) → IsObedient me log → IsOwnWord me log m x Initiator → m.message.body ≡ Query r seed us vs
    → terms_of me (known me log) x ≡ Some terms → offer_differs me.session r us vs terms ≡ false
offer-same me log m x r seed us vs (forms.Balanced nonce ha hb) h w e t = refl
offer-same me log m x r seed us vs (forms.Push young aged want give junk) h w e t =
    let i : is_of kinds.Query x Initiator m.message ≡ true = own-exchange m.message x r Push Initiator kinds.Query w.at (ap kind_number e) (ap part_of e) in
    let f : offer_in m.message.body ≡ Some (young, aged) = told-said me log x Initiator kinds.Query offer_in m (young, aged) h w.said i w.side (offer-of me log x young aged want give junk t).0 in
    let g : offer_in (Query r seed us vs) ≡ Some (young, aged) = subst (λ z. offer_in z ≡ Some (young, aged)) e f in
    let pair : ◌≡◌ {A = List UpdateId × List UpdateId} (us, vs) (young, aged) = cc in
    let a : us ≡ young = ap (λ (z : List UpdateId × List UpdateId). z.0) pair in
    let b : vs ≡ aged = ap (λ (z : List UpdateId × List UpdateId). z.1) pair in
    or_from _ _ (window-same me.session r us young a) (window-same me.session r vs aged b)

reply-same : (me : Member) (log : Log) (m : Datagram) (x : Exchange) (r : ℕ) (us vs : List UpdateId) (z : ℕ) (terms : Terms) → IsObedient me log → IsOwnWord me log m x Responder → m.message.body ≡ Reply r us vs z
    → terms_of me (known me log) x ≡ Some terms → reply_differs me.session r us vs z terms ≡ false
reply-same me log m x r us vs z (forms.Balanced nonce ha hb) h w e t = refl
reply-same me log m x r us vs z (forms.Push young aged want give junk) h w e t =
    let i : is_of kinds.Reply x Responder m.message ≡ true = own-exchange m.message x r Push Responder kinds.Reply w.at (ap kind_number e) (ap part_of e) in
    let f : reply_in m.message.body ≡ Some (want, give, junk) = told-said me log x Responder kinds.Reply reply_in m (want, give, junk) h w.said i w.side (offer-of me log x young aged want give junk t).1 in
    let g : reply_in (Reply r us vs z) ≡ Some (want, give, junk) = subst (λ y. reply_in y ≡ Some (want, give, junk)) e f in
    let triple : ◌≡◌ {A = List UpdateId × List UpdateId × ℕ} (us, vs, z) (want, give, junk) = cc in
    let a : us ≡ want = ap (λ (y : List UpdateId × List UpdateId × ℕ). y.0) triple in
    let b : vs ≡ give = ap (λ (y : List UpdateId × List UpdateId × ℕ). y.1) triple in
    let c : z ≡ junk = ap (λ (y : List UpdateId × List UpdateId × ℕ). y.2) triple in
    or_from _ _ (or_from _ _ (window-same me.session r us want a) (window-same me.session r vs give b)) (ap not (eq-eqb z junk c))

word-on : (me : Member) (log : Log) (m : Datagram) (x : Exchange) (role a : Role) → IsOwnWord me log m x role → same_role role a ≡ true → IsOwnWord me log m x a
word-on me log m x role a w e = subst (λ z. IsOwnWord me log m x z) (same_role-is role a e) w

-- the contents of a said message don't differ from the terms that the log has of its exchange
never-differs : (me : Member) (log : Log) (m : Datagram) (x : Exchange) (role : Role) (terms : Terms) → IsObedient me log → IsOwnWord me log m x role → terms_of me (known me log) x ≡ Some terms
    → differs me.session role m.message.body terms ≡ false
never-differs me log m x role terms h w t = go m.message.body refl
  where
    go : (b : Body) → m.message.body ≡ b → differs me.session role b terms ≡ false
    go (Response r us) e = when-false _ _ (λ z. answer-same me log m x r us terms h (word-on me log m x role Responder w z) e t)
    go (Query r seed us vs) e = when-false _ _ (λ z. offer-same me log m x r seed us vs terms h (word-on me log m x role Initiator w z) e t)
    go (Reply r us vs n) e = when-false _ _ (λ z. reply-same me log m x r us vs n terms h (word-on me log m x role Responder w z) e t)
    go _ e = refl

-- ---- a commitment

-- a said REQUEST commits to what is revealed
request-commits : (me : Member) (log before : Log) (m d : Datagram) (x : Exchange) (r : ℕ) (seed c : List ℕ) → IsObedient me log → IsOwnWord me log m x Initiator → m.message.body ≡ Request r seed c
    → IsEntry log before (Said d) → is_of kinds.Request x Initiator d.message ≡ true → c ≡ commitment_of me.session x (nonce_of me x) (history me.session (block_of me.session before) x.round)
request-commits me log before m d x r seed c h w e place j =
    let i : is_of kinds.Request x Initiator m.message ≡ true = own-exchange m.message x r Balanced Initiator kinds.Request w.at (ap kind_number e) (ap part_of e) in
    let v : WasSaid log d = record { before = before; place = place } in
    let same : d ≡ m = said-same me log kinds.Request x Initiator d m h (said-in log d v) w.said j i in
    let sign : MaySign me before d.message = (said-rule me log d v h).rule in
    let rule : MayRequest me (known me before) d.message.to r seed c = subst (λ b. MaySay me (known me before) d.message.to b) (ap (λ z. z.message.body) same ∙ e) sign.rule in
    let to : d.message.to ≡ x.responder = receiver-on kinds.Request x Initiator d.message j in
    let names = parts-of (r, Balanced, Initiator) (x.round, x.kind, Initiator) (sym (ap part_of e) ∙ is_of-part kinds.Request x Initiator m.message i) in
    let round : r ≡ x.round = names.0 in
    let kind : Balanced ≡ x.kind = names.1 in
    let own : x.initiator ≡ me.party = w.own in
    let name : asking me r Balanced d.message.to ≡ x = (λ i. record { round = round i; kind = kind i; initiator = sym own i; responder = to i }) in
    rule.committed
    ∙ ap (λ y. commitment_of me.session y (nonce_of me y) (history me.session (block_of me.session before) r)) name
    ∙ ap (λ z. commitment_of me.session x (nonce_of me x) (history me.session (block_of me.session before) z)) round

-- what is revealed of its exchange is what it commits to
pub commits-revealed : (me : Member) (log : Log) (m : Datagram) (x : Exchange) (r : ℕ) (seed c : List ℕ) (a : List ℕ × List UpdateId) → IsObedient me log → IsOwnWord me log m x Initiator
    → m.message.body ≡ Request r seed c → revealed me log x ≡ Some a → c ≡ commitment_of me.session x a.0 a.1
commits-revealed me log m x r seed c a h w e t = (let f = find-of (λ before e. revealed_in me before x e) log a t in by f.before f.entry f.place f.found)
  where
    said : (before : Log) (d : Datagram) (b : Bool) → is_of kinds.Request x Initiator d.message ≡ b → IsEntry log before (Said d) → then_some {T = List ℕ × List UpdateId} b (nonce_of me x, history me.session (block_of me.session before) x.round) ≡ Some a → c ≡ commitment_of me.session x a.0 a.1
    said before d true j place f =
        let pair : ◌≡◌ {A = List ℕ × List UpdateId} (nonce_of me x, history me.session (block_of me.session before) x.round) a = cc in
        request-commits me log before m d x r seed c h w e place j ∙ ap (λ (z : List ℕ × List UpdateId). commitment_of me.session x z.0 z.1) pair
    said before d false j place f = cc

    heard : (before : Log) (d : Datagram) (b : Bool) → is_of kinds.Divulge x Initiator d.message ≡ b → IsEntry log before (Heard d) → cond b (divulge_in d.message.body) None ≡ Some a → c ≡ commitment_of me.session x a.0 a.1
    heard before d true j place f = absurd (own-unheard me log d kinds.Divulge x Initiator h (record { before = before; place = place }) j w.own)
    heard before d false j place f = cc

    by : (before : Log) (y : Entry) → IsEntry log before y → revealed_in me before x y ≡ Some a → c ≡ commitment_of me.session x a.0 a.1
    by before (Said d) place f = said before d _ refl place f
    by before (Heard d) place f = heard before d _ refl place f
    by before Ticked place f = cc
    by before (Kept q v) place f = cc

commit-same : (me : Member) (log : Log) (m : Datagram) (x : Exchange) (r : ℕ) (seed c : List ℕ) (terms : Terms) → IsObedient me log → IsOwnWord me log m x Initiator → m.message.body ≡ Request r seed c
    → terms_of me (known me log) x ≡ Some terms → breaks_commit me.session x c terms ≡ false
commit-same me log m x r seed c (forms.Push young aged want give junk) h w e t = refl
commit-same me log m x r seed c (forms.Balanced nonce ha hb) h w e t =
    let same : c ≡ commitment_of me.session x nonce ha = commits-revealed me log m x r seed c (nonce, ha) h w e (trade-of me log x nonce ha hb t).0 in
    rw same (ap not (bytes_eq-refl (commitment_of me.session x nonce ha)))

never-broken : (me : Member) (log : Log) (m : Datagram) (x : Exchange) (role : Role) (terms : Terms) → IsObedient me log → IsOwnWord me log m x role → terms_of me (known me log) x ≡ Some terms
    → broken_commit me.session x role m.message.body terms ≡ false
never-broken me log m x role terms h w t = go m.message.body refl
  where
    go : (b : Body) → m.message.body ≡ b → broken_commit me.session x role b terms ≡ false
    go (Request r seed c) e = when-false _ _ (λ z. commit-same me log m x r seed c terms h (word-on me log m x role Initiator w z) e t)
    go _ e = refl

-- ---- no fault by contents

place-same : (m : Message) (x : Exchange) (n : Message) → exchange_of n ≡ Some x → same_place m n ≡ true → exchange_of m ≡ Some x
place-same m x n e s = go (exchange_of m) (exchange_of n) refl e s
  where
    go : (a b : Option Exchange) → exchange_of m ≡ a → b ≡ Some x → option_map_or (λ x. option_map_or (λ y. same_exchange x y) b false) a false ≡ true → exchange_of m ≡ Some x
    go None b f g s = cc
    go (Some y) None f g s = cc
    go (Some y) (Some z) f g s = let same : y ≡ z = same_exchange-is y z s in f ∙ ap Some same ∙ g

never-by_case : (me : Member) (log : Log) (m n : Datagram) → IsObedient me log → SaidIn log m → SaidIn log n → fault_by_case me.session m.message n.message (briefcase_in n.message.body) ≡ None
never-by_case me log m n h p q = go (briefcase_in n.message.body) refl
  where
    at : (c : Briefcase) → n.message.body ≡ Case c → (b : Bool) → same_place m.message n.message ≡ b
        → cond b (cond (broken_commit me.session (exchange_by c.round c.kind c.role n.message.from n.message.to) c.role m.message.body c.terms) (Some BrokenCommit)
        (cond (differs me.session c.role m.message.body c.terms) (Some OtherHistory) None)) None ≡ None
    at c e false s = refl
    at c e true s =
        let x : Exchange = exchange_by c.round c.kind c.role n.message.from n.message.to in
        let b : SaidBriefcase me log n c = said-briefcase me log n c h q e in
        let place : exchange_of m.message ≡ Some x = place-same m.message x n.message (rw e refl) s in
        let word : IsOwnWord me log m x c.role = record { said = p; at = place; own = b.own; side = b.side } in
        let broken : broken_commit me.session x c.role m.message.body c.terms ≡ false = never-broken me log m x c.role c.terms h word b.terms in
        let differ : differs me.session c.role m.message.body c.terms ≡ false = never-differs me log m x c.role c.terms h word b.terms in
        rw (broken, differ) refl

    go : (o : Option Briefcase) → briefcase_in n.message.body ≡ o → fault_by_case me.session m.message n.message o ≡ None
    go None e = refl
    go (Some c) e = at c (briefcase-is n.message.body c e) _ refl

-- two said messages show nothing by their contents
pub never-by_words : (me : Member) (log : Log) (m n : Datagram) → IsObedient me log → SaidIn log m → SaidIn log n → fault_by_words me.session m.message n.message ≡ None
never-by_words me log m n h p q = rw (never_twice me log m n h p q) (never-by_case me log m n h p q)

-- What is heard is from another party, and what is said is for another. If the terms of an exchange are complete, the own side's first
-- message is said.
use Rattle.bar_wire.specs.Bodies.{briefcase_in, divulge_in, history_in, offer_in, reply_in}
use Rattle.bar_wire.specs.declared.kind.Kind.TheVariants as kinds
use Rattle.bar_wire.specs.declared.kind.Kind.{Kind}
use Rattle.bar_wire.specs.Kinds.{code_of}
use Rattle.bar_wire.specs.Datagram.{is_place, place_by, kind_of, Message, Datagram, Body, Request, Response, Query, Reply, Case, Key, Briefcase, is_of, kind_number, part_of, exchange_by}
use Rattle.bar_window.specs.Exchange.{party_on, other_role}
use Rattle.bar_window.specs.Terms.{Terms}
use Rattle.bar_window.specs.declared.exchange.Exchange.{Exchange}
use Rattle.bar_window.specs.declared.exchange.Role.{Role}
use Rattle.bar_window.specs.declared.exchange.Role.TheVariants.{Initiator, Responder}
use Rattle.bar_window.specs.declared.exchange.XKind.{XKind}
use Rattle.bar_window.specs.declared.exchange.XKind.TheVariants.{Balanced, Push}
use Rattle.bar_window.specs.declared.update.UpdateId.{UpdateId}
use Rattle.bar_window.proofs.Exchanges.{same_role-is, same_exchange-is, same_role_refl, same_exchange_refl}
use Rattle.bar_rules.specs.Peer.Exchanges.{role_of, request_kind, opening_kind, revealed, revealed_in}
use Rattle.bar_rules.specs.Peer.Holdings.{history, block_of, case_said_by}
use Rattle.bar_rules.specs.Peer.Knowledge.{known}
use Rattle.bar_rules.specs.Peer.Log.{Log, Entry, Ticked, Heard, Said, Kept, first_said, has_heard, has_said}
use Rattle.bar_rules.specs.Member.{Member}
use Rattle.bar_rules.specs.Peer.Rules.{IsObedient}
use Rattle.bar_rules.specs.Secrets.{nonce_of}
use Rattle.bar_rules.specs.Peer.Signing.{MaySign, MaySay}
use Rattle.bar_rules.specs.Peer.Terms.{body_on, terms_of, terms_by, trade_terms, offer_terms}
use Rattle.std.proofs.Common.{◌≡◌, ℕ, Bool, true, false, List, refl, sym, ap, ◌∙◌, subst, eqb}
use Rattle.std.specs.Prelude.{Option, Some, None, is_some, option_map, option_and_then, cond}
use Rattle.std.specs.Bool.{then_some}
use Rattle.std.specs.Option.{option_map_or}
use Rattle.std.proofs.lemmas.Bool.{and_parts, and_from, eqb-true, eq-eqb, ne_eqb}
use Rattle.bar_laws.proofs.Logs.FirstFinds.{IsEntry, IsFind, find-of, allowed-at}
use Rattle.bar_laws.proofs.Logs.Facts.{partner_other}
use Rattle.bar_laws.proofs.Logs.LaterLogs.{WasSaid, WasHeard, some-is, first_said-was, first_heard-was}
use Rattle.bar_laws.proofs.Logs.Grammar.{was-heard-own}
use Rattle.bar_laws.proofs.Logs.OneIdentity.{said-found}
use Rattle.bar_laws.proofs.Logs.Spoken.{first_on-own}
use Rattle.bar_bytes.proofs.Tests.{eqb_refl}

-- ---- the parties of a message

pub party-on : (r : ℕ) (k : XKind) (role : Role) (f t : ℕ) → party_on (exchange_by r k role f t) role ≡ f
party-on r k Initiator f t = refl
party-on r k Responder f t = refl

pub party-over : (r : ℕ) (k : XKind) (role : Role) (f t : ℕ) → party_on (exchange_by r k role f t) (other_role role) ≡ t
party-over r k Initiator f t = refl
party-over r k Responder f t = refl

pub kind-on : (r : ℕ) (k : XKind) (role : Role) (f t : ℕ) → (exchange_by r k role f t).kind ≡ k
kind-on r k Initiator f t = refl
kind-on r k Responder f t = refl

-- what a message of a kind, exchange and side says of itself
pub record IsOf (kind : Kind) (x : Exchange) (role : Role) (m : Message) : Type 0 where
  pub number : kind_number m.body ≡ code_of kind
  pub round : ℕ
  pub sort : XKind
  pub part : part_of m.body ≡ Some (round, sort, role)
  pub exchange : exchange_by round sort role m.from m.to ≡ x

pub is_of-is : (kind : Kind) (x : Exchange) (role : Role) (m : Message) → is_of kind x role m ≡ true → IsOf kind x role m
is_of-is kind x role m e = go (part_of m.body) refl (and_parts _ _ e).1
  where
    go : (o : Option (ℕ × XKind × Role)) → part_of m.body ≡ o → option_map_or (is_place x role) (option_map (place_by m.from m.to) o) false ≡ true → IsOf kind x role m
    go None f g = cc
    go (Some p) f g =
        let q = and_parts _ _ g in
        let side : p.2 ≡ role = same_role-is p.2 role q.1 in
        record {
          number = eqb-true _ _ (and_parts _ _ e).0;
          round = p.0;
          sort = p.1;
          part = f ∙ ap (λ z. Some (p.0, p.1, z)) side;
          exchange = rw (← side) (same_exchange-is (exchange_by p.0 p.1 p.2 m.from m.to) x q.0);
        }

pub sender-on : (kind : Kind) (x : Exchange) (role : Role) (m : Message) → is_of kind x role m ≡ true → m.from ≡ party_on x role
sender-on kind x role m e = let w = is_of-is kind x role m e in sym (party-on w.round w.sort role m.from m.to) ∙ ap (λ y. party_on y role) w.exchange

pub receiver-on : (kind : Kind) (x : Exchange) (role : Role) (m : Message) → is_of kind x role m ≡ true → m.to ≡ party_on x (other_role role)
receiver-on kind x role m e = let w = is_of-is kind x role m e in sym (party-over w.round w.sort role m.from m.to) ∙ ap (λ y. party_on y (other_role role)) w.exchange

-- a message is of its own kind, exchange and side
pub is_of-own : (m : Message) (r : ℕ) (k : XKind) (role : Role) → part_of m.body ≡ Some (r, k, role) → is_of (kind_of m.body) (exchange_by r k role m.from m.to) role m ≡ true
is_of-own m r k role e = rw e (and_from _ _ (eqb_refl (kind_number m.body)) (and_from _ _ (same_exchange_refl (exchange_by r k role m.from m.to)) (same_role_refl role)))

-- ---- what is heard is from another party

-- nothing of this member's side is heard
pub own-unheard : (me : Member) (log : Log) (d : Datagram) (kind : Kind) (x : Exchange) (role : Role) → IsObedient me log → WasHeard log d → is_of kind x role d.message ≡ true → party_on x role ≡ me.party → ⊥
own-unheard me log d kind x role h w e own =
    let at = is_of-is kind x role d.message e in
    (was-heard-own me log d (at.round, at.sort, role) w h at.part).other (sender-on kind x role d.message e ∙ own)

-- ---- complete terms

pub trade-both : (a : Option (List ℕ × List UpdateId)) (b : Option (List UpdateId)) (t : Terms) → trade_terms a b ≡ Some t → ((c : List ℕ × List UpdateId) × (a ≡ Some c)) × ((c : List UpdateId) × (b ≡ Some c))
trade-both (Some a) (Some b) t e = ((a, refl), (b, refl))
trade-both (Some a) None t e = cc
trade-both None b t e = cc

pub offer-both : (a : Option (List UpdateId × List UpdateId)) (b : Option (List UpdateId × List UpdateId × ℕ)) (t : Terms) → offer_terms a b ≡ Some t → ((c : List UpdateId × List UpdateId) × (a ≡ Some c)) × ((c : List UpdateId × List UpdateId × ℕ) × (b ≡ Some c))
offer-both (Some a) (Some b) t e = ((a, refl), (b, refl))
offer-both (Some a) None t e = cc
offer-both None b t e = cc

-- if part of a body was read on the own side, the body was said
own-part : {A : Type 0} (f : Body → Option A) (me : Member) (log : Log) (kind : Kind) (x : Exchange) (role : Role) (c : A) → role_of me x ≡ role → option_and_then f (body_on me (known me log) kind x role) ≡ Some c → has_said (is_of kind x role) log ≡ true
own-part f me log kind x role c own e = go (first_said (is_of kind x role) log) (subst (λ o. option_and_then f (option_map (λ d. d.message.body) o) ≡ Some c) (first_on-own me log kind x role own) e)
  where
    go : (o : Option Datagram) → option_and_then f (option_map (λ d. d.message.body) o) ≡ Some c → is_some o ≡ true
    go (Some d) g = refl
    go None g = cc

own-revealed : (me : Member) (log : Log) (x : Exchange) (a : List ℕ × List UpdateId) → IsObedient me log → x.initiator ≡ me.party → revealed me log x ≡ Some a → has_said (is_of kinds.Request x Initiator) log ≡ true
own-revealed me log x a h own e = at (find-of (λ before e. revealed_in me before x e) log a e)
  where
    said : (before : Log) (d : Datagram) (b : Bool) → is_of kinds.Request x Initiator d.message ≡ b → IsEntry log before (Said d) → then_some b (nonce_of me x, history me.session (block_of me.session before) x.round) ≡ Some a → has_said (is_of kinds.Request x Initiator) log ≡ true
    said before d true i place f = said-found (is_of kinds.Request x Initiator) log d (record { before = before; place = place }) i
    said before d false i place f = cc

    heard : (before : Log) (d : Datagram) (b : Bool) → is_of kinds.Divulge x Initiator d.message ≡ b → IsEntry log before (Heard d) → cond b (divulge_in d.message.body) None ≡ Some a → has_said (is_of kinds.Request x Initiator) log ≡ true
    heard before d true i place f = absurd (own-unheard me log d kinds.Divulge x Initiator h (record { before = before; place = place }) i own)
    heard before d false i place f = cc

    by : (before : Log) (e : Entry) → IsEntry log before e → revealed_in me before x e ≡ Some a → has_said (is_of kinds.Request x Initiator) log ≡ true
    by before (Said d) place f = said before d _ refl place f
    by before (Heard d) place f = heard before d _ refl place f
    by before Ticked place f = cc
    by before (Kept q v) place f = cc

    at : IsFind (λ before e. revealed_in me before x e) log a → has_said (is_of kinds.Request x Initiator) log ≡ true
    at w = by w.before w.entry w.place w.found

-- if the terms are complete, this member's first message is said
pub terms-said : (me : Member) (log : Log) (x : Exchange) (role : Role) (t : Terms) → IsObedient me log → party_on x role ≡ me.party → role_of me x ≡ role → terms_of me (known me log) x ≡ Some t
    → has_said (is_of (opening_kind x.kind role) x role) log ≡ true
terms-said me log x role t h own side e = go x.kind role own side e
  where
    go : (k : XKind) (role : Role) → party_on x role ≡ me.party → role_of me x ≡ role → terms_by k me (known me log) x ≡ Some t → has_said (is_of (opening_kind k role) x role) log ≡ true
    go Balanced Initiator own side e = let p = trade-both _ _ t e in own-revealed me log x p.0.0 h own p.0.1
    go Balanced Responder own side e = let p = trade-both _ _ t e in own-part history_in me log kinds.Response x Responder p.1.0 side p.1.1
    go Push Initiator own side e = let p = offer-both _ _ t e in own-part offer_in me log kinds.Query x Initiator p.0.0 side p.0.1
    go Push Responder own side e = let p = offer-both _ _ t e in own-part reply_in me log kinds.Reply x Responder p.1.0 side p.1.1

-- ---- what is said is for another party

pub role-initiator : (me : Member) (x : Exchange) → x.initiator ≡ me.party → role_of me x ≡ Initiator
role-initiator me x e = rw (eq-eqb x.initiator me.party e) refl

pub role-responder : (me : Member) (x : Exchange) → (x.initiator ≡ me.party → ⊥) → role_of me x ≡ Responder
role-responder me x e = rw (ne_eqb x.initiator me.party e) refl

-- this member's side of the exchange of a message of its own to another party
pub role-own : (me : Member) (r : ℕ) (k : XKind) (role : Role) (to : ℕ) → (to ≡ me.party → ⊥) → role_of me (exchange_by r k role me.party to) ≡ role
role-own me r k Initiator to other = role-initiator me (exchange_by r k Initiator me.party to) refl
role-own me r k Responder to other = role-responder me (exchange_by r k Responder me.party to) other

-- if the request of an exchange is heard, the partner is another party
asker-other : (me : Member) (log : Log) (kind : Kind) (r : ℕ) (k : XKind) (to : ℕ) → IsObedient me log → has_heard (is_of kind (exchange_by r k Responder me.party to) Initiator) log ≡ true → to ≡ me.party → ⊥
asker-other me log kind r k to h e same =
    let x : Exchange = exchange_by r k Responder me.party to in
    let f = some-is _ e in
    let w = first_heard-was (is_of kind x Initiator) log f.0 f.1 in
    own-unheard me log f.0 kind x Initiator h w.0 w.1 same

-- the first messages
first-elsewhere : (me : Member) (before : Log) (to : ℕ) (b : Body) → IsObedient me before → (eqb (kind_number b) 8 ≡ false) → (eqb (kind_number b) 10 ≡ false) → MaySay me (known me before) to b → to ≡ me.party → ⊥
first-elsewhere me before to (Request r s c) h p q rule e = partner_other _ _ _ _ _ (sym rule.chosen ∙ e)
first-elsewhere me before to (Query r s y o) h p q rule e = partner_other _ _ _ _ _ (sym rule.chosen ∙ e)
first-elsewhere me before to (Response r hb) h p q rule e = asker-other me before kinds.Request r Balanced to h rule.asked e
first-elsewhere me before to (Reply r w g z) h p q rule e = asker-other me before kinds.Query r Push to h rule.asked e
first-elsewhere me before to (Case c) h p q rule e = cc
first-elsewhere me before to (Key k) h p q rule e = cc
first-elsewhere me before to _ h p q rule e = rule

-- no first message of an exchange with itself
no-self : (me : Member) (log : Log) (x : Exchange) → IsObedient me log → x.responder ≡ me.party → has_said (is_of (request_kind x.kind) x Initiator) log ≡ true → ⊥
no-self me log x h self e =
    let f = some-is _ e in
    let w = first_said-was (is_of (request_kind x.kind) x Initiator) log f.0 f.1 in
    let al = allowed-at me log w.0.before (Said f.0) w.0.place h in
    let at = is_of-is (request_kind x.kind) x Initiator f.0.message w.1 in
    first-elsewhere me w.0.before f.0.message.to f.0.message.body al.1 (not-eight x.kind _ at.number) (not-ten x.kind _ at.number) al.0.rule.rule
    (receiver-on (request_kind x.kind) x Initiator f.0.message w.1 ∙ self)
  where
    not-eight : (k : XKind) (n : ℕ) → n ≡ code_of (request_kind k) → eqb n 8 ≡ false
    not-eight Balanced n e = rw e refl
    not-eight Push n e = rw e refl

    not-ten : (k : XKind) (n : ℕ) → n ≡ code_of (request_kind k) → eqb n 10 ≡ false
    not-ten Balanced n e = rw e refl
    not-ten Push n e = rw e refl

-- if the terms of an exchange with a party are complete, that party is another one
terms-elsewhere : (me : Member) (log : Log) (r : ℕ) (k : XKind) (role : Role) (to : ℕ) (t : Terms) → IsObedient me log → terms_of me (known me log) (exchange_by r k role me.party to) ≡ Some t → to ≡ me.party → ⊥
terms-elsewhere me log r k role to t h e same = no-self me log x h (responder role) (terms-said me log x Initiator t h (initiator role) (role-initiator me x (initiator role)) e)
  where
    x : Exchange
    x = exchange_by r k role me.party to

    initiator : (role : Role) → (exchange_by r k role me.party to).initiator ≡ me.party
    initiator Initiator = refl
    initiator Responder = same

    responder : (role : Role) → (exchange_by r k role me.party to).responder ≡ me.party
    responder Initiator = same
    responder Responder = refl

-- a briefcase is in a CASE
pub briefcase-is : (b : Body) (c : Briefcase) → briefcase_in b ≡ Some c → b ≡ Case c
briefcase-is (Case d) c e = cc
briefcase-is _ c e = cc

-- a said CASE: its moment and its exchange
pub record CaseMoment (log : Log) (x : Exchange) (role : Role) (c : Briefcase) : Type 0 where
  pub datagram : Datagram
  pub was : WasSaid log datagram
  pub body : datagram.message.body ≡ Case c
  pub of : is_of kinds.Case x role datagram.message ≡ true

pub case-moment : (log : Log) (x : Exchange) (role : Role) (c : Briefcase) → case_said_by log x role ≡ Some c → CaseMoment log x role c
case-moment log x role c e = go (first_said (is_of kinds.Case x role) log) refl e
  where
    go : (o : Option Datagram) → first_said (is_of kinds.Case x role) log ≡ o → option_and_then (λ d. briefcase_in d.message.body) o ≡ Some c → CaseMoment log x role c
    go None f g = cc
    go (Some d) f g = let w = first_said-was (is_of kinds.Case x role) log d f in record { datagram = d; was = w.0; body = briefcase-is d.message.body c g; of = w.1 }

case-elsewhere : (me : Member) (log : Log) (x : Exchange) (role : Role) (c : Briefcase) → IsObedient me log → CaseMoment log x role c → party_on x (other_role role) ≡ me.party → ⊥
case-elsewhere me log x role c h w self =
    let al = allowed-at me log w.was.before (Said w.datagram) w.was.place h in
    let rule = subst (λ b. MaySay me (known me w.was.before) w.datagram.message.to b) w.body al.0.rule.rule in
    terms-elsewhere me w.was.before c.round c.kind c.role w.datagram.message.to c.terms al.1 rule.terms (receiver-on kinds.Case x role w.datagram.message w.of ∙ self)

may_say-elsewhere : (me : Member) (before : Log) (to : ℕ) (b : Body) → IsObedient me before → MaySay me (known me before) to b → to ≡ me.party → ⊥
may_say-elsewhere me before to (Request r s c) h rule e = first-elsewhere me before to (Request r s c) h refl refl rule e
may_say-elsewhere me before to (Query r s y o) h rule e = first-elsewhere me before to (Query r s y o) h refl refl rule e
may_say-elsewhere me before to (Response r hb) h rule e = first-elsewhere me before to (Response r hb) h refl refl rule e
may_say-elsewhere me before to (Reply r w g z) h rule e = first-elsewhere me before to (Reply r w g z) h refl refl rule e
may_say-elsewhere me before to (Case c) h rule e = terms-elsewhere me before c.round c.kind c.role to c.terms h rule.terms e
may_say-elsewhere me before to (Key k) h rule e =
    let x : Exchange = exchange_by k.round k.kind k.role me.party to in
    case-elsewhere me before x k.role rule.ours h (case-moment before x k.role rule.ours rule.said) (party-over k.round k.kind k.role me.party to ∙ e)
may_say-elsewhere me before to _ h rule e = rule

pub sign-elsewhere : (me : Member) (before : Log) (m : Message) → IsObedient me before → MaySign me before m → m.to ≡ me.party → ⊥
sign-elsewhere me before m h sign e = may_say-elsewhere me before m.to m.body h sign.rule e

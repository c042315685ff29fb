-- A run's log is that of an obedient peer.
use Rattle.bar_wire.specs.Bodies.{briefcase_in, offer_in}
use Rattle.bar_wire.specs.Kinds.{code_of}
use Rattle.bar_rules.specs.Peer.Admission.{is_row_met, are_terms, is_admitted}
use Rattle.bar_rules.specs.Peer.Choices.{young_of, wanted_of}
use Rattle.bar_rules.specs.Peer.Exchanges.{role_of, answer_kind, request_kind, partner_in}
use Rattle.bar_rules.specs.Peer.Holdings.{block_of, is_held, history, case_heard_from}
use Rattle.bar_rules.specs.Peer.Debts.{owes}
use Rattle.bar_rules.specs.Peer.Knowledge.{Knowledge, known}
use Rattle.bar_rules.specs.Peer.Log.{Log, Heard, Said, if_passes, heard_in, first_said, has_said, has_heard, first_heard, round_now}
use Rattle.bar_rules.specs.Peer.Machine.{message_to, send_if}
use Rattle.bar_rules.specs.Member.{Session, Member}
use Rattle.bar_rules.specs.Peer.Orders.{Order, Ask, Answer, Reveal, GiveCase, AskKey, GiveKey, Resend, Report, case_body, key_body, ask_body, answer_body, reply_body, reply_to}
use Rattle.bar_rules.specs.Peer.Replies.{is_trade_worth, orders_for, reply_orders}
use Rattle.bar_rules.specs.Peer.Rules.{IsObedient, Allows}
use Rattle.bar_rules.specs.Peer.Run.{Out, perform, perform_all, say, say_new, say_or_repeat}
use Rattle.bar_rules.specs.Secrets.{partner_of, seed_of}
use Rattle.bar_rules.specs.Peer.Signing.{MaySign, MaySay, signed, has_same_identity, asking}
use Rattle.bar_rules.specs.Peer.Ticks.{orders_at_tick}
use Rattle.bar_rules.specs.Peer.Terms.{terms_of, terms_by, offer_terms, body_on}
use Rattle.bar_rules.specs.Values.{updates_from, counts_ok}
use Rattle.bar_terms.specs.Terms.{promised_updates, promised_junk}
use Rattle.bar_window.specs.Exchange.{same_exchange, other_role, party_on}
use Rattle.bar_window.specs.Terms.{Terms}
use Rattle.bar_window.specs.Terms as forms
use Rattle.bar_window.specs.declared.exchange.Exchange.{Exchange}
use Rattle.bar_window.specs.declared.exchange.Role.{Role}
use Rattle.bar_window.specs.declared.exchange.Role.TheVariants.{Initiator, Responder}
use Rattle.bar_window.specs.declared.exchange.XKind.{XKind}
use Rattle.bar_window.specs.declared.exchange.XKind.TheVariants.{Balanced, Push}
use Rattle.bar_window.specs.declared.update.UpdateId.{UpdateId}
use Rattle.bar_window.proofs.Exchanges.{same_role_refl, same_exchange_refl, other-other}
use Rattle.bar_wire.specs.declared.kind.Kind.TheVariants as kinds
use Rattle.bar_wire.specs.declared.kind.Kind.{Kind}
use Rattle.bar_wire.specs.Datagram.{is_place, place_by, round_of, Message, Datagram, Body, Request, Response, Divulge, Query, Reply, Case, KeyReq, Briefcase, is_of, kind_number, part_of, exchange_by, identity_of, named}
use Rattle.std.specs.Str.{bytes_eq}
use Rattle.std.proofs.Common.{◌≡◌, ℕ, ◌<◌, ◌≤◌, Bool, true, false, List, [], ◌∷◌, refl, sym, ap, ◌∙◌, subst, inl, inr, ◌&&◌, eqb, length, ◌-◌}
use Rattle.std.specs.Prelude.{nat_lt, filter, max}
use Rattle.std.proofs.Common.{take, add-zero}
use Rattle.std.specs.Prelude.{Option, Some, None, ◌⊎◌, is_some, option_map, option_and_then}
use Rattle.std.specs.List.{AllByRecursion}
use Rattle.std.specs.Bool.{then_some}
use Rattle.std.specs.Option.{option_map_or}
use Rattle.std.proofs.lemmas.Bool.{and_parts, and_from, eqb-true, both_ways, ltb-true}
use Rattle.bar_laws.specs.Growing.{IsLater}
use Rattle.bar_laws.proofs.Logs.{all-of, all-map, when-all, again-all, tick-all, heard-found, some-more, IsNoKey, still-unowed, terms-valid, IsValid, allowed-at, IsForOneMember, heard-own, heard-round, part-round, once-whole, is_whole, said-found, later-entry, some-is, WasHeard, first_heard-was, first_said-was, said-rule, find-later, terms_of-later, said-later, IsCaseOf, is_of-case, said-case, some-same, same_terms-is, admitted-row, role-initiator, round-by, receiver-role}
use Rattle.bar_bytes.proofs.Tests.{eqb_refl}
use Rattle.bar_bytes.proofs.Options.{or-none}

-- this member is on the side of its role
pub record IsParty (me : Member) (x : Exchange) : Type 0 where
  pub on : party_on x (role_of me x) ≡ me.party
  pub low : 1 ≤ x.round
  pub high : x.round ≤ me.session.shape.rounds

-- the exchange of a message to the partner
pub exchange-to : (me : Member) (x : Exchange) → IsParty me x → exchange_by x.round x.kind (role_of me x) me.party (partner_in me x) ≡ x
exchange-to me x p = go (role_of me x) p.on
  where
    go : (r : Role) → party_on x r ≡ me.party → exchange_by x.round x.kind r me.party (party_on x (other_role r)) ≡ x
    go Initiator e = ap (λ i. exchange_by x.round x.kind Initiator i x.responder) (sym e)
    go Responder e = ap (λ i. exchange_by x.round x.kind Responder i x.initiator) (sym e)

-- a message for the exchange is of it
own-is_of : (me : Member) (x : Exchange) (b : Body) (kind : Kind) → IsParty me x → kind_number b ≡ code_of kind → part_of b ≡ Some (x.round, x.kind, role_of me x) → is_of kind x (role_of me x) (message_to me x b) ≡ true
own-is_of me x b kind p k e =
    rw (k, e) (and_from _ _ (eqb_refl (code_of kind)) (and_from _ _ (subst (λ y. same_exchange y x ≡ true) (sym (exchange-to me x p)) (same_exchange_refl x)) (same_role_refl (role_of me x))))

-- a request that this round's choice of partner allows
pub record IsRequest (me : Member) (log : Log) (x : Exchange) : Type 0 where
  pub mine : x.initiator ≡ me.party
  pub low : 1 ≤ x.round
  pub high : x.round ≤ me.session.shape.rounds
  pub now : x.round ≡ round_now log
  pub chosen : x.responder ≡ partner_of me.session (seed_of me x.round) x.kind me.party
  pub unowed : owes me (known me log) x.responder ≡ false
  pub some_young : x.kind ≡ Push → 0 < length (young_of me (known me log) x.round)

-- an order that may be given: it remains so while more is said
abbrev pub MayBeOrdered : Member → Log → Order → Type 0
MayBeOrdered me log (Ask x) = (has_said (is_of (request_kind x.kind) x (role_of me x)) log ≡ true) ⊎ IsRequest me log x
MayBeOrdered me log (Answer x) = IsParty me x × (role_of me x ≡ Responder) × (has_heard (is_of (request_kind x.kind) x Initiator) log ≡ true)
MayBeOrdered me log (GiveCase x) = IsParty me x × ((x.kind ≡ Push) ⊎ (is_trade_worth me.session (terms_of me (known me log) x) ≡ true))
MayBeOrdered me log (GiveKey x) = IsParty me x × (has_said (is_of kinds.Case x (role_of me x)) log ≡ true) × (has_heard (is_of kinds.Case x (other_role (role_of me x))) log ≡ true)
MayBeOrdered me log _ = Unit {0}

-- a new message of an order met its rule
record MayOrder (me : Member) (log : Log) (x : Exchange) (kind : Kind) (b : Body) : Type 0 where
  party : IsParty me x
  whole : is_whole b ≡ true
  kinds : kind_number b ≡ code_of kind
  part : part_of b ≡ Some (x.round, x.kind, role_of me x)
  rule : MaySay me (known me log) (partner_in me x) b

say-obedient : (me : Member) (out : Out) (kind : Kind) (x : Exchange) (o : Option Body) → IsObedient me out.state → ((b : Body) → o ≡ Some b → MayOrder me out.state x kind b) → IsObedient me (say me out kind x o).state
say-obedient me out kind x o h f = go (first_said (is_of kind x (role_of me x)) out.state) refl
  where
    new : (p : Option Body) → o ≡ p → first_said (is_of kind x (role_of me x)) out.state ≡ None → IsObedient me (say_new me out x p).state
    new None e none = h
    new (Some b) e none =
        let m : MayOrder me out.state x kind b = f b e in (
          record {
            rule = record { mine = refl; once = once-whole out.state (message_to me x b) kind x (role_of me x) m.whole (own-is_of me x b kind m.party m.kinds m.part) none; low = rw (part-round b x.round x.kind (role_of me x) m.part) m.party.low; high = rw (part-round b x.round x.kind (role_of me x) m.part) m.party.high; rule = m.rule };
            signature = refl;
          },
          h,
        )

    go : (q : Option Datagram) → first_said (is_of kind x (role_of me x)) out.state ≡ q → IsObedient me (say_or_repeat me out x q o).state
    go (Some d) e = h
    go None e = new o refl e

-- ---- the rule of each order's new message

offer-worth : (s : Session) (a : Option (List UpdateId × List UpdateId)) (b : Option (List UpdateId × List UpdateId × ℕ)) (t : Terms) → offer_terms a b ≡ Some t → is_trade_worth s (Some t) ≡ true
offer-worth s (Some a) (Some b) t e = let same : forms.Push a.0 a.1 b.0 b.1 b.2 ≡ t = cc in rw (← same) refl
offer-worth s (Some a) None t e = cc
offer-worth s None b t e = cc

worth-of : (me : Member) (log : Log) (x : Exchange) (t : Terms) → (x.kind ≡ Push) ⊎ (is_trade_worth me.session (terms_of me (known me log) x) ≡ true) → terms_of me (known me log) x ≡ Some t → is_trade_worth me.session (Some t) ≡ true
worth-of me log x t (inl k) e = offer-worth me.session _ _ t (subst (λ z. terms_by z me (known me log) x ≡ Some t) k e)
worth-of me log x t (inr w) e = subst (λ o. is_trade_worth me.session o ≡ true) e w

give_case-rule : (me : Member) (log : Log) (x : Exchange) (b : Body) → IsObedient me log → MayBeOrdered me log (GiveCase x) → option_map (case_body me (known me log) x) (terms_of me (known me log) x) ≡ Some b → MayOrder me log x kinds.Case b
give_case-rule me log x b h s e = go (terms_of me (known me log) x) refl e
  where
    go : (o : Option Terms) → terms_of me (known me log) x ≡ o → option_map (case_body me (known me log) x) o ≡ Some b → MayOrder me log x kinds.Case b
    go None f e = cc
    go (Some t) f e =
        let v : IsValid me log x t = terms-valid me log x t h f (worth-of me log x t s.1 f) in
        let name : exchange_by x.round x.kind (role_of me x) me.party (partner_in me x) ≡ x = exchange-to me x s.0 in
        let same : case_body me (known me log) x t ≡ b = cc in
        subst (λ z. MayOrder me log x kinds.Case z) same
        (record {
          party = s.0;
          whole = refl;
          kinds = refl;
          part = refl;
          rule = record {
            terms = rw name f;
            valid = rw name v.ok;
            within = v.within;
            counts = and_from _ _ (eqb_refl (length (promised_updates me.session.cap t (role_of me x)))) (eqb_refl (promised_junk t (role_of me x)));
            cipher = rw name refl;
          };
        })

-- a briefcase that was heard has the terms of the log and its counts, and the other side has said one
pub record HeardCase (me : Member) (log : Log) (x : Exchange) (role : Role) : Type 0 where
  pub case : Briefcase
  pub found : case_heard_from log x role ≡ Some case
  pub terms : terms_of me (known me log) x ≡ Some case.terms
  pub counts : counts_ok me.session case ≡ true
  pub side : case.role ≡ role
  pub said : has_said (is_of kinds.Case x (other_role role)) log ≡ true

pub terms-same : (t : Terms) (o : Option Terms) → are_terms t o ≡ true → o ≡ Some t
terms-same t (Some u) e = ap Some (same_terms-is u t e)
terms-same t None e = cc

case-row : (me : Member) (before : Log) (from to : ℕ) (c : Briefcase) → is_row_met me (known me before) from to (Case c) ≡ true
    → (terms_of me (known me before) (exchange_by c.round c.kind c.role from to) ≡ Some c.terms) × (counts_ok me.session c ≡ true)
    × (has_said (is_of kinds.Case (exchange_by c.round c.kind c.role from to) (other_role c.role)) before ≡ true)
case-row me before from to c row =
    let p = and_parts _ _ (and_parts _ _ row).0 in
    let q = and_parts _ _ p.0 in
    (terms-same c.terms _ q.1, p.1, q.0)

pub said-more : (p : Message → Bool) (log before : Log) → IsLater log before → has_said p before ≡ true → has_said p log ≡ true
said-more p log before later e = let f = some-is _ e in ap is_some (said-later p log before f.0 later f.1)

pub heard-case : (me : Member) (log : Log) (x : Exchange) (role : Role) → IsObedient me log → has_heard (is_of kinds.Case x role) log ≡ true → HeardCase me log x role
heard-case me log x role h e = go (some-is (first_heard (is_of kinds.Case x role) log) e)
  where
    at : (d : Datagram) → first_heard (is_of kinds.Case x role) log ≡ Some d → (w : WasHeard log d) → IsCaseOf x role d.message → HeardCase me log x role
    at d f w k =
        let al = allowed-at me log w.before (Heard d) w.place h in
        let row : is_row_met me (known me w.before) d.message.from d.message.to (Case k.case) ≡ true = subst (λ b. is_row_met me (known me w.before) d.message.from d.message.to b ≡ true) k.body (admitted-row me w.before d al.0.0) in
        let r = case-row me w.before d.message.from d.message.to k.case row in
        record {
          case = k.case;
          found = ap (option_and_then (λ d. briefcase_in d.message.body)) f ∙ ap briefcase_in k.body;
          terms = terms_of-later me log w.before x k.case.terms (later-entry log w.before (Heard d) w.place) (subst (λ y. terms_of me (known me w.before) y ≡ Some k.case.terms) k.exchange r.0);
          counts = r.1;
          side = k.side;
          said =
              said-more _ log w.before (later-entry log w.before (Heard d) w.place)
              (subst (λ role. has_said (is_of kinds.Case x (other_role role)) w.before ≡ true) k.side
              (subst (λ y. has_said (is_of kinds.Case y (other_role k.case.role)) w.before ≡ true) k.exchange r.2));
        }

    go : (d : Datagram) × (first_heard (is_of kinds.Case x role) log ≡ Some d) → HeardCase me log x role
    go f = let was = first_heard-was (is_of kinds.Case x role) log f.0 f.1 in at f.0 f.1 was.0 (is_of-case x role f.0.message was.1)

give_key-rule : (me : Member) (log : Log) (x : Exchange) (b : Body) → IsObedient me log → MayBeOrdered me log (GiveKey x) → Some (key_body me x) ≡ Some b → MayOrder me log x kinds.Key b
give_key-rule me log x b h s e =
    let same : key_body me x ≡ b = cc in
    let c : HeardCase me log x (other_role (role_of me x)) = heard-case me log x (other_role (role_of me x)) h s.2 in
    let o = said-case me log x (role_of me x) h s.1 in
    let name : exchange_by x.round x.kind (role_of me x) me.party (partner_in me x) ≡ x = exchange-to me x s.0 in
    subst (λ z. MayOrder me log x kinds.Key z) same
    (record {
      party = s.0;
      whole = refl;
      kinds = refl;
      part = refl;
      rule = record {
        ours = o.0;
        theirs = c.case;
        said = rw name o.1;
        heard = rw name c.found;
        same = some-same (terms_of me (known me log) x) c.case.terms o.0.terms c.terms o.2.terms;
        counts = c.counts;
        key = rw name refl;
      };
    })

-- the exchange by its kind
kind-exchange : (me : Member) (x : Exchange) (k : XKind) → IsParty me x → role_of me x ≡ Responder → x.kind ≡ k → exchange_by x.round k Responder me.party (partner_in me x) ≡ x
kind-exchange me x k p r e =
    ap (λ z. exchange_by x.round z Responder me.party (partner_in me x)) (sym e)
    ∙ subst (λ z. exchange_by x.round x.kind z me.party (partner_in me x) ≡ x) r (exchange-to me x p)

heard-by-kind : (me : Member) (log : Log) (x : Exchange) (k : XKind) → IsParty me x → role_of me x ≡ Responder → x.kind ≡ k → has_heard (is_of (request_kind x.kind) x Initiator) log ≡ true
    → has_heard (is_of (request_kind k) (exchange_by x.round k Responder me.party (partner_in me x)) Initiator) log ≡ true
heard-by-kind me log x k p r e h =
    subst (λ y. has_heard (is_of (request_kind k) y Initiator) log ≡ true) (sym (kind-exchange me x k p r e)) (subst (λ z. has_heard (is_of (request_kind z) x Initiator) log ≡ true) e h)

reply-rule : (me : Member) (log : Log) (x : Exchange) (b : Body) (q : List UpdateId × List UpdateId) (w : Bool) → IsParty me x → role_of me x ≡ Responder → x.kind ≡ Push
    → has_heard (is_of (request_kind x.kind) x Initiator) log ≡ true → option_and_then offer_in (body_on me (known me log) kinds.Query x Initiator) ≡ Some q
    → nat_lt 0 (length (wanted_of me (known me log) q.0)) ≡ w → then_some w (reply_body me (known me log) x.round q) ≡ Some b → MayOrder me log x kinds.Reply b
reply-rule me log x b q false p r k h f w e = cc
reply-rule me log x b q true p r k h f w e =
    let same : reply_body me (known me log) x.round q ≡ b = cc in
    subst (λ z. MayOrder me log x kinds.Reply z) same
    (record {
      party = p;
      whole = refl;
      kinds = refl;
      part = rw (k, r) refl;
      rule = record {
        young = q.0;
        aged = q.1;
        asked = heard-by-kind me log x Push p r k h;
        offers = subst (λ y. option_and_then offer_in (body_on me (known me log) kinds.Query y Initiator) ≡ Some q) (sym (kind-exchange me x Push p r k)) f;
        wants = refl;
        some_wanted = ltb-true _ _ w;
        gives = refl;
        pads = refl;
      };
    })

answer-rule : (me : Member) (log : Log) (x : Exchange) (b : Body) → IsObedient me log → MayBeOrdered me log (Answer x) → answer_body me (known me log) x x.kind ≡ Some b → MayOrder me log x (answer_kind x.kind) b
answer-rule me log x b h s e = go x.kind refl e
  where
    reply : x.kind ≡ Push → (o : Option (List UpdateId × List UpdateId)) → option_and_then offer_in (body_on me (known me log) kinds.Query x Initiator) ≡ o → option_and_then (reply_to me (known me log) x.round) o ≡ Some b → MayOrder me log x kinds.Reply b
    reply k None f e = cc
    reply k (Some q) f e = reply-rule me log x b q (nat_lt 0 (length (wanted_of me (known me log) q.0))) s.0 s.1 k s.2 f refl e

    go : (k : XKind) → x.kind ≡ k → answer_body me (known me log) x k ≡ Some b → MayOrder me log x (answer_kind k) b
    go Balanced k e =
        let same : Response x.round (history me.session (block_of me.session log) x.round) ≡ b = cc in
        subst (λ z. MayOrder me log x kinds.Response z) same
        (record {
          party = s.0;
          whole = refl;
          kinds = refl;
          part = rw (k, s.1) refl;
          rule = record { asked = heard-by-kind me log x Balanced s.0 s.1 k s.2; held = refl };
        })
    go Push k e = reply k _ refl e

-- ---- requests

ask-round : (me : Member) (log : Log) (x : Exchange) → round_of (ask_body me (known me log) x x.kind) ≡ x.round
ask-round me log x = go x.kind
  where
    go : (k : XKind) → round_of (ask_body me (known me log) x k) ≡ x.round
    go Balanced = refl
    go Push = refl

exchange-parts : (x y : Exchange) → y.round ≡ x.round → y.kind ≡ x.kind → y.initiator ≡ x.initiator → y.responder ≡ x.responder → same_exchange y x ≡ true
exchange-parts x y a b c d = rw (a, b, c, d) (same_exchange_refl x)

-- another request of the round went to the same partner
ask-twin : (me : Member) (log before : Log) (x : Exchange) (k : XKind) (n : Message) → IsRequest me log x → x.kind ≡ k → MaySign me before n
    → bytes_eq (identity_of n) (identity_of (message_to me x (ask_body me (known me log) x k))) ≡ true → is_of (request_kind k) x Initiator n ≡ true
ask-twin me log before x Balanced n q k sign e = go n.body (and_parts _ _ e).0 sign.rule e
  where
    go : (b : Body) → eqb (kind_number b) 3 ≡ true → MaySay me (known me before) n.to b → bytes_eq (kind_number b ∷ named b n.from n.to) (3 ∷ me.party ∷ x.round ∷ []) ≡ true
        → (eqb (kind_number b) 3 && option_map_or (is_place x Initiator) (option_map (place_by n.from n.to) (part_of b)) false) ≡ true
    go (Request r seed c) number rule e =
        let a = and_parts _ _ e in
        let b = and_parts _ _ a.1 in
        let from : n.from ≡ me.party = eqb-true _ _ a.0 in
        let round : r ≡ x.round = eqb-true _ _ b.0 in
        let to : n.to ≡ x.responder = rule.chosen ∙ ap (λ z. partner_of me.session z Balanced me.party) rule.seeded ∙ ap (λ z. partner_of me.session (seed_of me z) Balanced me.party) round ∙ sym (subst (λ z. x.responder ≡ partner_of me.session (seed_of me x.round) z me.party) k q.chosen) in
        and_from _ _ (exchange-parts x (exchange_by r Balanced Initiator n.from n.to) round (sym k) (from ∙ sym q.mine) to) refl
    go b number rule e = absurd (both_ways (eqb (kind_number b) 3) refl number)
ask-twin me log before x Push n q k sign e = go n.body (and_parts _ _ e).0 sign.rule e
  where
    go : (b : Body) → eqb (kind_number b) 6 ≡ true → MaySay me (known me before) n.to b → bytes_eq (kind_number b ∷ named b n.from n.to) (6 ∷ me.party ∷ x.round ∷ []) ≡ true
        → (eqb (kind_number b) 6 && option_map_or (is_place x Initiator) (option_map (place_by n.from n.to) (part_of b)) false) ≡ true
    go (Query r seed young aged) number rule e =
        let a = and_parts _ _ e in
        let b = and_parts _ _ a.1 in
        let from : n.from ≡ me.party = eqb-true _ _ a.0 in
        let round : r ≡ x.round = eqb-true _ _ b.0 in
        let to : n.to ≡ x.responder = rule.chosen ∙ ap (λ z. partner_of me.session z Push me.party) rule.seeded ∙ ap (λ z. partner_of me.session (seed_of me z) Push me.party) round ∙ sym (subst (λ z. x.responder ≡ partner_of me.session (seed_of me x.round) z me.party) k q.chosen) in
        and_from _ _ (exchange-parts x (exchange_by r Push Initiator n.from n.to) round (sym k) (from ∙ sym q.mine) to) refl
    go b number rule e = absurd (both_ways (eqb (kind_number b) 6) refl number)

once-ask : (me : Member) (log : Log) (x : Exchange) → IsObedient me log → IsRequest me log x → first_said (is_of (request_kind x.kind) x Initiator) log ≡ None
    → has_said (has_same_identity (message_to me x (ask_body me (known me log) x x.kind))) log ≡ false
once-ask me log x h q none = go _ refl
  where
    m : Message
    m = message_to me x (ask_body me (known me log) x x.kind)

    no : (d : Datagram) × (first_said (has_same_identity m) log ≡ Some d) → ⊥
    no f =
        let was = first_said-was (has_same_identity m) log f.0 f.1 in
        let twin : is_of (request_kind x.kind) x Initiator f.0.message ≡ true = ask-twin me log was.0.before x x.kind f.0.message q refl (said-rule me log f.0 was.0 h).rule was.1 in
        both_ways _ (ap is_some none) (said-found (is_of (request_kind x.kind) x Initiator) log f.0 was.0 twin)

    go : (b : Bool) → has_said (has_same_identity m) log ≡ b → has_said (has_same_identity m) log ≡ false
    go false e = e
    go true e = absurd (no (some-is _ e))

ask-rule : (me : Member) (log : Log) (x : Exchange) → IsRequest me log x → MaySay me (known me log) (partner_in me x) (ask_body me (known me log) x x.kind)
ask-rule me log x q = go x.kind refl
  where
    to : partner_in me x ≡ x.responder
    to = rw (role-initiator me x q.mine) refl

    asking-is : (k : XKind) → x.kind ≡ k → asking me x.round k x.responder ≡ x
    asking-is k e = λ i. record { round = x.round; kind = sym e i; initiator = sym q.mine i; responder = x.responder }

    chosen : (k : XKind) → x.kind ≡ k → partner_in me x ≡ partner_of me.session (seed_of me x.round) k me.party
    chosen k e = to ∙ subst (λ z. x.responder ≡ partner_of me.session (seed_of me x.round) z me.party) e q.chosen

    unowed : owes me (known me log) (partner_in me x) ≡ false
    unowed = subst (λ p. owes me (known me log) p ≡ false) (sym to) q.unowed

    go : (k : XKind) → x.kind ≡ k → MaySay me (known me log) (partner_in me x) (ask_body me (known me log) x k)
    go Balanced e =
        record {
          now = q.now;
          seeded = refl;
          chosen = chosen Balanced e;
          unowed = unowed;
          committed = rw (to, asking-is Balanced e) refl;
        }
    go Push e = record { now = q.now; seeded = refl; chosen = chosen Push e; unowed = unowed; offers = refl; asks = refl; some_young = q.some_young e }

ask-obedient : (me : Member) (out : Out) (x : Exchange) → IsObedient me out.state → MayBeOrdered me out.state (Ask x) → IsObedient me (perform me out (Ask x)).state
ask-obedient me out x h (inl said) = go (first_said (is_of (request_kind x.kind) x (role_of me x)) out.state) refl
  where
    go : (o : Option Datagram) → first_said (is_of (request_kind x.kind) x (role_of me x)) out.state ≡ o → IsObedient me (say_or_repeat me out x o (Some (ask_body me (known me out.state) x x.kind))).state
    go (Some d) e = h
    go None e = absurd (both_ways _ (ap is_some e) said)
ask-obedient me out x h (inr q) = go (first_said (is_of (request_kind x.kind) x (role_of me x)) out.state) refl
  where
    go : (o : Option Datagram) → first_said (is_of (request_kind x.kind) x (role_of me x)) out.state ≡ o → IsObedient me (say_or_repeat me out x o (Some (ask_body me (known me out.state) x x.kind))).state
    go (Some d) e = h
    go None e = (
      record {
        rule = record { mine = refl; once = once-ask me out.state x h q (subst (λ r. first_said (is_of (request_kind x.kind) x r) out.state ≡ None) (role-initiator me x q.mine) e); low = rw (ask-round me out.state x) q.low; high = rw (ask-round me out.state x) q.high; rule = ask-rule me out.state x q };
        signature = refl;
      },
      h,
    )

pub send_if-log : (me : Member) (out : Out) (to : ℕ) (o : Option Body) → (send_if me out to o).state ≡ out.state
send_if-log me out to None = refl
send_if-log me out to (Some b) = refl

resend-obedient : (me : Member) (out : Out) (kind : Kind) (x : Exchange) → IsObedient me out.state → IsObedient me (say me out kind x None).state
resend-obedient me out kind x h = go (first_said (is_of kind x (role_of me x)) out.state)
  where
    go : (q : Option Datagram) → IsObedient me (say_or_repeat me out x q None).state
    go (Some d) = h
    go None = h

perform-obedient : (me : Member) (out : Out) (o : Order) → IsObedient me out.state → MayBeOrdered me out.state o → IsObedient me (perform me out o).state
perform-obedient me out (Ask x) h s = ask-obedient me out x h s
perform-obedient me out (Answer x) h s = say-obedient me out (answer_kind x.kind) x _ h (λ b e. answer-rule me out.state x b h s e)
perform-obedient me out (GiveCase x) h s = say-obedient me out kinds.Case x _ h (λ b e. give_case-rule me out.state x b h s e)
perform-obedient me out (GiveKey x) h s = say-obedient me out kinds.Key x _ h (λ b e. give_key-rule me out.state x b h s e)
perform-obedient me out (Resend kind x) h s = resend-obedient me out kind x h
perform-obedient me out (Reveal x) h s = subst (λ l. IsObedient me l) (sym (send_if-log me out _ _)) h
perform-obedient me out (AskKey x) h s = h
perform-obedient me out (Report q) h s = subst (λ l. IsObedient me l) (sym (send_if-log me out _ _)) h

-- ---- orders remain allowed

-- the orders of a tick say nothing new except requests
abbrev pub GivesNothing : Order → Type 0
GivesNothing (Answer x) = ⊥
GivesNothing (GiveCase x) = ⊥
GivesNothing (GiveKey x) = ⊥
GivesNothing _ = Unit {0}

-- the orders for a datagram ask nobody
abbrev pub AsksNobody : Order → Type 0
AsksNobody (Ask x) = ⊥
AsksNobody _ = Unit {0}

-- an order leaves the log as it was or adds one message, such as this
abbrev pub SaysOne : (Datagram → Type 0) → Log → Log → Type 0
SaysOne P old new = (new ≡ old) ⊎ ((d : Datagram) × (new ≡ Said d ∷ old) × P d)

say-grows : (P : Datagram → Type 0) (me : Member) (out : Out) (kind : Kind) (x : Exchange) (o : Option Body) → ((b : Body) → o ≡ Some b → P (signed me (known me out.state) (message_to me x b)))
    → SaysOne P out.state (say me out kind x o).state
say-grows P me out kind x o f = go (first_said (is_of kind x (role_of me x)) out.state) o f
  where
    go : (q : Option Datagram) (o : Option Body) → ((b : Body) → o ≡ Some b → P (signed me (known me out.state) (message_to me x b))) → SaysOne P out.state (say_or_repeat me out x q o).state
    go (Some d) o f = inl refl
    go None None f = inl refl
    go None (Some b) f = inr (signed me (known me out.state) (message_to me x b), refl, f b refl)

abbrev IsAny : Datagram → Type 0
IsAny d = Unit {0}

perform-grows : (me : Member) (out : Out) (o : Order) → SaysOne IsAny out.state (perform me out o).state
perform-grows me out (Ask x) = say-grows IsAny me out _ x _ (λ b e. tt)
perform-grows me out (Answer x) = say-grows IsAny me out _ x _ (λ b e. tt)
perform-grows me out (GiveCase x) = say-grows IsAny me out kinds.Case x _ (λ b e. tt)
perform-grows me out (GiveKey x) = say-grows IsAny me out kinds.Key x _ (λ b e. tt)
perform-grows me out (Resend kind x) = say-grows IsAny me out kind x None (λ b e. tt)
perform-grows me out (Reveal x) = inl (send_if-log me out _ _)
perform-grows me out (AskKey x) = inl refl
perform-grows me out (Report q) = inl (send_if-log me out _ _)

asks-no-key : (me : Member) (k : Knowledge) (x : Exchange) (b : Body) → Some (ask_body me k x x.kind) ≡ Some b → eqb (kind_number b) 10 ≡ false
asks-no-key me k x b e = go x.kind e
  where
    go : (sort : XKind) → Some (ask_body me k x sort) ≡ Some b → eqb (kind_number b) 10 ≡ false
    go Balanced e = let same : ask_body me k x Balanced ≡ b = cc in subst (λ z. eqb (kind_number z) 10 ≡ false) same refl
    go Push e = let same : ask_body me k x Push ≡ b = cc in subst (λ z. eqb (kind_number z) 10 ≡ false) same refl

-- hence no KEY is said at a tick
pub tick-grows : (me : Member) (out : Out) (o : Order) → GivesNothing o → SaysOne IsNoKey out.state (perform me out o).state
tick-grows me out (Ask x) g = say-grows IsNoKey me out _ x _ (λ b e. asks-no-key me (known me out.state) x b e)
tick-grows me out (Resend kind x) g = say-grows IsNoKey me out kind x None (λ b e. cc)
tick-grows me out (Reveal x) g = inl (send_if-log me out _ _)
tick-grows me out (AskKey x) g = inl refl
tick-grows me out (Report q) g = inl (send_if-log me out _ _)
tick-grows me out (Answer x) g = absurd g
tick-grows me out (GiveCase x) g = absurd g
tick-grows me out (GiveKey x) g = absurd g

held-said : (s : Session) (log : Log) (d : Datagram) → is_held s (Said d ∷ log) ≡ is_held s log
held-said s log d = λ i u. is_some (or-none (block_of s log u) i)

request-said : (me : Member) (log : Log) (d : Datagram) (x : Exchange) → IsNoKey d → IsRequest me log x → IsRequest me (Said d ∷ log) x
request-said me log d x n q =
    record {
      mine = q.mine;
      low = q.low;
      high = q.high;
      now = rw add-zero q.now;
      chosen = q.chosen;
      unowed = still-unowed me log d x.responder n q.unowed;
      some_young = λ k. subst (λ (p : UpdateId → Bool). 0 < length (take me.session.cap (filter p (updates_from me.session (max 1 (x.round - 1)) x.round)))) (sym (held-said me.session log d)) (q.some_young k);
    }

worth-said : (me : Member) (log : Log) (d : Datagram) (x : Exchange) → is_trade_worth me.session (terms_of me (known me log) x) ≡ true → is_trade_worth me.session (terms_of me (known me (Said d ∷ log)) x) ≡ true
worth-said me log d x e = go (terms_of me (known me log) x) refl e
  where
    go : (o : Option Terms) → terms_of me (known me log) x ≡ o → is_trade_worth me.session o ≡ true → is_trade_worth me.session (terms_of me (known me (Said d ∷ log)) x) ≡ true
    go None f e = cc
    go (Some t) f e =
        let g : terms_of me (known me (Said d ∷ log)) x ≡ Some t = terms_of-later me (Said d ∷ log) log x t (record { new = Said d ∷ []; split = refl }) f in
        subst (λ o. is_trade_worth me.session o ≡ true) (sym g) e

-- a message makes no party a debtor, or nobody is asked
abbrev MayFollow : Datagram → Order → Type 0
MayFollow d o = IsNoKey d ⊎ AsksNobody o

stands-said : (me : Member) (log : Log) (d : Datagram) (o : Order) → MayFollow d o → MayBeOrdered me log o → MayBeOrdered me (Said d ∷ log) o
stands-said me log d (Ask x) f (inl s) = inl (some-more _ _ s)
stands-said me log d (Ask x) (inl n) (inr q) = inr (request-said me log d x n q)
stands-said me log d (Ask x) (inr n) (inr q) = absurd n
stands-said me log d (Answer x) f s = (s.0, s.1, some-more _ _ s.2)
stands-said me log d (GiveCase x) f (p, inl k) = (p, inl k)
stands-said me log d (GiveCase x) f (p, inr w) = (p, inr (worth-said me log d x w))
stands-said me log d (GiveKey x) f s = (s.0, some-more _ _ s.1, some-more _ _ s.2)
stands-said me log d (Reveal x) f s = s
stands-said me log d (Resend kind x) f s = s
stands-said me log d (AskKey x) f s = s
stands-said me log d (Report q) f s = s

all-said : (me : Member) (log : Log) (d : Datagram) (os : List Order) → AllByRecursion (MayFollow d) os → AllByRecursion (MayBeOrdered me log) os → AllByRecursion (MayBeOrdered me (Said d ∷ log)) os
all-said me log d [] f s = tt
all-said me log d (o ∷ os) f s = (stands-said me log d o f.0 s.0, all-said me log d os f.1 s.1)

all-one : (P : Datagram → Type 0) (me : Member) (old new : Log) (os : List Order) → ((d : Datagram) → P d → AllByRecursion (MayFollow d) os) → SaysOne P old new
    → AllByRecursion (MayBeOrdered me old) os → AllByRecursion (MayBeOrdered me new) os
all-one P me old new os f (inl e) s = subst (λ l. AllByRecursion (MayBeOrdered me l) os) (sym e) s
all-one P me old new os f (inr g) s = subst (λ l. AllByRecursion (MayBeOrdered me l) os) (sym g.1) (all-said me old g.0 os (f g.0 g.2) s)

-- the orders of one input: of a tick, or for a datagram
abbrev pub AreOfOneInput : List Order → Type 0
AreOfOneInput os = AllByRecursion GivesNothing os ⊎ AllByRecursion AsksNobody os

pub perform_all-obedient : (me : Member) (os : List Order) (out : Out) → IsObedient me out.state → AllByRecursion (MayBeOrdered me out.state) os → AreOfOneInput os → IsObedient me (perform_all me out os).state
perform_all-obedient me [] out h s q = h
perform_all-obedient me (o ∷ os) out h s (inl q) =
    perform_all-obedient me os (perform me out o) (perform-obedient me out o h s.0)
    (all-one IsNoKey me out.state (perform me out o).state os (λ d n. all-of (MayFollow d) os (λ p c. inl n)) (tick-grows me out o q.0) s.1) (inl q.1)
perform_all-obedient me (o ∷ os) out h s (inr q) =
    perform_all-obedient me os (perform me out o) (perform-obedient me out o h s.0)
    (all-one IsAny me out.state (perform me out o).state os (λ d n. all-map AsksNobody (MayFollow d) os (λ p a. inr a) q.1) (perform-grows me out o) s.1) (inr q.1)

pub ticks-give-nothing : (me : Member) (k : Knowledge) → AllByRecursion GivesNothing (orders_at_tick me k)
ticks-give-nothing me k =
    tick-all GivesNothing (λ x. Unit {0}) me k (all-of (λ x. Unit {0}) k.opens (λ x c. tt)) (λ x r. again-all GivesNothing me k x tt (λ _. (tt, tt)) (λ _. tt))
    (λ kind. when-all GivesNothing _ (Ask _ ∷ []) (λ _. (tt, tt))) (λ q. tt)

pub replies-ask-nobody : (me : Member) (k : Knowledge) (is_new : Bool) (d : Datagram) → AllByRecursion AsksNobody (reply_orders me k is_new d)
replies-ask-nobody me k is_new d = go d.message.from d.message.to d.message.body
  where
    go : (from to : ℕ) (b : Body) → AllByRecursion AsksNobody (orders_for me k is_new from to b)
    go from to (Request r seed c) = when-all AsksNobody _ (Answer _ ∷ []) (λ _. (tt, tt))
    go from to (Response r hb) = when-all AsksNobody _ (Reveal _ ∷ GiveCase _ ∷ []) (λ _. (tt, (tt, tt)))
    go from to (Divulge r nonce ha) = when-all AsksNobody _ (GiveCase _ ∷ []) (λ _. (tt, tt))
    go from to (Query r seed young aged) = when-all AsksNobody _ (Answer _ ∷ GiveCase _ ∷ []) (λ _. (tt, (tt, tt)))
    go from to (Reply r want give junk) = when-all AsksNobody _ (GiveCase _ ∷ []) (λ _. (tt, tt))
    go from to (Case c) = when-all AsksNobody _ (AskKey _ ∷ []) (λ _. (tt, tt))
    go from to (KeyReq r kind role) = when-all AsksNobody _ (GiveKey _ ∷ []) (λ _. (tt, tt))
    go from to _ = tt

-- ---- the orders of a datagram

partner-party : (me : Member) (r : ℕ) (k : XKind) (role : Role) (f t : ℕ) → t ≡ me.party → (f ≡ me.party → ⊥) → (1 ≤ r) × (r ≤ me.session.shape.rounds) → IsParty me (exchange_by r k role f t)
partner-party me r k role f t e n b = record { on = go role (receiver-role me r k role f t e n); low = rw (round-by r k role f t) b.0; high = rw (round-by r k role f t) b.1 }
  where
    go : (role : Role) → role_of me (exchange_by r k role f t) ≡ other_role role → party_on (exchange_by r k role f t) (role_of me (exchange_by r k role f t)) ≡ me.party
    go Initiator q = rw q e
    go Responder q = rw q e

-- a message is of the exchange that it names
pub names-itself : (m : Message) (kind : Kind) (r : ℕ) (k : XKind) (role : Role) → kind_number m.body ≡ code_of kind → part_of m.body ≡ Some (r, k, role) → is_of kind (exchange_by r k role m.from m.to) role m ≡ true
names-itself m kind r k role a b = rw (a, b) (and_from _ _ (eqb_refl (code_of kind)) (and_from _ _ (same_exchange_refl (exchange_by r k role m.from m.to)) (same_role_refl role)))

pub heard-more : (p : Message → Bool) (log before : Log) → IsLater log before → has_heard p before ≡ true → has_heard p log ≡ true
heard-more p log before later e = let f = some-is _ e in ap is_some (find-later (λ before e. if_passes p (heard_in e)) log before f.0 later f.1)

key_request-row : (me : Member) (before : Log) (from to r : ℕ) (k : XKind) (role : Role) → is_row_met me (known me before) from to (KeyReq r k role) ≡ true
    → (has_said (is_of kinds.Case (exchange_by r k role from to) (other_role role)) before ≡ true) × (has_heard (is_of kinds.Case (exchange_by r k role from to) role) before ≡ true)
key_request-row me before from to r k role row = let p = and_parts _ _ (and_parts _ _ (and_parts _ _ row).0).0 in p

pub orders-stand : (me : Member) (log : Log) (is_new : Bool) (d : Datagram) → IsObedient me log → WasHeard log d → AllByRecursion (MayBeOrdered me log) (reply_orders me (known me log) is_new d)
orders-stand me log is_new d h w = go d.message.body refl
  where
    later : IsLater log w.before
    later = later-entry log w.before (Heard d) w.place

    admitted : is_admitted me (known me w.before) d ≡ true
    admitted = (allowed-at me log w.before (Heard d) w.place h).0.0

    allowed : Allows me w.before (Heard d)
    allowed = (allowed-at me log w.before (Heard d) w.place h).0

    own : (b : Body) (p : ℕ × XKind × Role) → d.message.body ≡ b → part_of b ≡ Some p → IsForOneMember me d
    own b p e f = heard-own me w.before d p allowed (ap part_of e ∙ f)

    bounds : (b : Body) (p : ℕ × XKind × Role) → d.message.body ≡ b → part_of b ≡ Some p → (1 ≤ p.0) × (p.0 ≤ me.session.shape.rounds)
    bounds b p e f = heard-round me w.before d p allowed (ap part_of e ∙ f)

    go : (b : Body) → d.message.body ≡ b → AllByRecursion (MayBeOrdered me log) (orders_for me (known me log) is_new d.message.from d.message.to b)
    go (Request r seed c) e =
        let o : IsForOneMember me d = own (Request r seed c) (r, Balanced, Initiator) e refl in
        when-all (MayBeOrdered me log) _ (Answer (exchange_by r Balanced Initiator d.message.from d.message.to) ∷ []) (λ z. (
          (
            partner-party me r Balanced Initiator d.message.from d.message.to o.to o.other (bounds (Request r seed c) (r, Balanced, Initiator) e refl),
            receiver-role me r Balanced Initiator d.message.from d.message.to o.to o.other,
            heard-found (is_of kinds.Request (exchange_by r Balanced Initiator d.message.from d.message.to) Initiator) log d w (names-itself d.message kinds.Request r Balanced Initiator (rw e refl) (rw e refl)),
          ),
          tt,
        ))
    go (Response r hb) e =
        let o : IsForOneMember me d = own (Response r hb) (r, Balanced, Responder) e refl in
        when-all (MayBeOrdered me log) _ (Reveal (exchange_by r Balanced Responder d.message.from d.message.to) ∷ GiveCase (exchange_by r Balanced Responder d.message.from d.message.to) ∷ []) (λ z. (tt, ((partner-party me r Balanced Responder d.message.from d.message.to o.to o.other (bounds (Response r hb) (r, Balanced, Responder) e refl), inr (and_parts _ _ z).1), tt)))
    go (Divulge r nonce ha) e =
        let o : IsForOneMember me d = own (Divulge r nonce ha) (r, Balanced, Initiator) e refl in
        when-all (MayBeOrdered me log) _ (GiveCase (exchange_by r Balanced Initiator d.message.from d.message.to) ∷ []) (λ z. ((partner-party me r Balanced Initiator d.message.from d.message.to o.to o.other (bounds (Divulge r nonce ha) (r, Balanced, Initiator) e refl), inr (and_parts _ _ z).1), tt))
    go (Query r seed young aged) e =
        let o : IsForOneMember me d = own (Query r seed young aged) (r, Push, Initiator) e refl in
        when-all (MayBeOrdered me log) _ (Answer (exchange_by r Push Initiator d.message.from d.message.to) ∷ GiveCase (exchange_by r Push Initiator d.message.from d.message.to) ∷ []) (λ z. (
          (
            partner-party me r Push Initiator d.message.from d.message.to o.to o.other (bounds (Query r seed young aged) (r, Push, Initiator) e refl),
            receiver-role me r Push Initiator d.message.from d.message.to o.to o.other,
            heard-found (is_of kinds.Query (exchange_by r Push Initiator d.message.from d.message.to) Initiator) log d w (names-itself d.message kinds.Query r Push Initiator (rw e refl) (rw e refl)),
          ),
          ((partner-party me r Push Initiator d.message.from d.message.to o.to o.other (bounds (Query r seed young aged) (r, Push, Initiator) e refl), inl refl), tt),
        ))
    go (Reply r want give junk) e =
        let o : IsForOneMember me d = own (Reply r want give junk) (r, Push, Responder) e refl in
        when-all (MayBeOrdered me log) _ (GiveCase (exchange_by r Push Responder d.message.from d.message.to) ∷ []) (λ z. ((partner-party me r Push Responder d.message.from d.message.to o.to o.other (bounds (Reply r want give junk) (r, Push, Responder) e refl), inl refl), tt))
    go (Case c) e = when-all (MayBeOrdered me log) _ (AskKey (exchange_by c.round c.kind c.role d.message.from d.message.to) ∷ []) (λ z. (tt, tt))
    go (KeyReq r k role) e =
        let o : IsForOneMember me d = own (KeyReq r k role) (r, k, role) e refl in
        let row = key_request-row me w.before d.message.from d.message.to r k role (subst (λ b. is_row_met me (known me w.before) d.message.from d.message.to b ≡ true) e (admitted-row me w.before d admitted)) in
        let side : role_of me (exchange_by r k role d.message.from d.message.to) ≡ other_role role = receiver-role me r k role d.message.from d.message.to o.to o.other in
        when-all (MayBeOrdered me log) _ (GiveKey (exchange_by r k role d.message.from d.message.to) ∷ []) (λ z. (
          (
            partner-party me r k role d.message.from d.message.to o.to o.other (bounds (KeyReq r k role) (r, k, role) e refl),
            rw side (said-more _ log w.before later row.0),
            rw (side, other-other) (heard-more _ log w.before later row.1),
          ),
          tt,
        ))
    go _ e = tt

-- In an obedient log the terms of an exchange are within the table and valid.
use Rattle.bar_wire.specs.Limits.{everyone}
use Rattle.bar_wire.specs.Bodies.{divulge_in, history_in, offer_in, reply_in}
use Rattle.bar_wire.specs.declared.kind.Kind.{Kind}
use Rattle.bar_rules.specs.Peer.Admission.{is_row_met, is_for, is_to_all, terms_with, body_said}
use Rattle.bar_rules.specs.Peer.Choices.{young_of, aged_of, wanted_of, given_of}
use Rattle.bar_rules.specs.Peer.Exchanges.{revealed, revealed_in}
use Rattle.bar_rules.specs.Peer.Holdings.{history, is_held, block_of}
use Rattle.bar_rules.specs.Peer.Knowledge.{Knowledge, holds, known}
use Rattle.bar_rules.specs.Peer.Log.{Log, Entry, Heard, Said, table}
use Rattle.bar_rules.specs.Member.{Session, Member}
use Rattle.bar_rules.specs.Peer.Replies.{is_trade_worth}
use Rattle.bar_rules.specs.Peer.Rules.{IsObedient, Allows}
use Rattle.bar_rules.specs.Secrets.{nonce_of}
use Rattle.bar_rules.specs.Peer.Signing.{MaySign, MaySay, windows_within}
use Rattle.bar_rules.specs.Peer.Terms.{terms_of, terms_by, trade_terms, offer_terms, first_on, body_on}
use Rattle.bar_rules.specs.Values.{first_round, updates_of, updates_from, terms_ok}
use Rattle.bar_terms.specs.Table.{Table, is_within, none_past_end, digest_of, Digest, Known, PastEnd, NoManifest, is_known, is_past_end}
use Rattle.bar_terms.specs.Terms.{offer_ok, answer_ok, trade_count}
use Rattle.bar_window.specs.Terms.{Terms}
use Rattle.bar_window.specs.Terms as forms
use Rattle.bar_window.specs.Updates.{has_update, is_inside, is_of_rounds}
use Rattle.bar_window.specs.declared.exchange.Exchange.{Exchange}
use Rattle.bar_window.specs.declared.exchange.Role.{Role}
use Rattle.bar_window.specs.declared.exchange.Role.TheVariants.{Initiator, Responder}
use Rattle.bar_window.specs.declared.exchange.XKind.{XKind}
use Rattle.bar_window.specs.declared.exchange.XKind.TheVariants.{Balanced, Push}
use Rattle.bar_window.specs.declared.update.UpdateId.{UpdateId}
use Rattle.bar_wire.specs.declared.kind.Kind.TheVariants as kinds
use Rattle.bar_wire.specs.Grammar.{words_of}
use Rattle.bar_wire.specs.Datagram.{is_place, place_by, Message, Datagram, Body, Response, Divulge, Query, Reply, is_of, kind_number, part_of, exchange_by, round_of}
use Rattle.std.proofs.Common.{◌≡◌, ◌∙◌, ℕ, zero, suc, ◌+◌, ◌*◌, ◌-◌, ◌/◌, ◌<◌, ◌≤◌, Bool, true, false, List, [], ◌∷◌, ◌++◌, refl, ap, subst, ◌&&◌, eqb, length, take, not, arith, length-take}
use Rattle.std.specs.Prelude.{Option, Some, None, option_map, option_and_then, cond, filter, map, flat_map, nat_le, max}
use Rattle.std.specs.List.{list_all, range_with_len}
use Rattle.std.specs.Bool.{then_some}
use Rattle.std.specs.Option.{option_map_or}
use Rattle.std.proofs.lemmas.Bool.{and_parts, and_from, eq-eqb, le-leb, leb-true, eqb-true, or_right, or_left}
use Rattle.bar_window.proofs.Sets.{same_self}
use Rattle.bar_window.proofs.Exchanges.{same_exchange-is}
use Rattle.bar_laws.proofs.Logs.FirstFinds.{IsFind, find-of, allowed-at}
use Rattle.bar_laws.proofs.Logs.EqualityTests.{some-equal, no-value}
use Rattle.bar_laws.specs.Growing.{IsLater}
use Rattle.bar_laws.proofs.Logs.LaterLogs.{later-entry, then-later}
use Rattle.bar_laws.proofs.Logs.Spoken.{spoken_in, WasSpoken, first_on-was, body_on-later}
use Rattle.bar_laws.proofs.Logs.Tables.{table-later, within-extends, history-within, held-within, admitted-row, admitted-for, all-filter}
use Rattle.bar_bytes.proofs.Tests.{eqb_refl, and-second}

-- ---- lists

pub known-not_past : (d : Digest) → is_known d ≡ true → not (is_past_end d) ≡ true
known-not_past (Known b) e = refl
known-not_past PastEnd e = cc
known-not_past NoManifest e = cc

pub within-none_past : (t : Table) (us : List UpdateId) → is_within t us ≡ true → none_past_end t us ≡ true
within-none_past t [] e = refl
within-none_past t (u ∷ us) e = let p = and_parts _ _ e in and_from _ _ (known-not_past _ p.0) (within-none_past t us p.1)

pub all-take : {X : Type 0} (p : X → Bool) (k : ℕ) (xs : List X) → list_all p xs ≡ true → list_all p (take k xs) ≡ true
all-take p zero xs e = refl
all-take p (suc k) [] e = refl
all-take p (suc k) (x ∷ xs) e = let q = and_parts _ _ e in and_from _ _ q.0 (all-take p k xs q.1)

pub all-filtered : {X : Type 0} (p q : X → Bool) (xs : List X) → list_all p xs ≡ true → list_all p (filter q xs) ≡ true
all-filtered p q [] e = refl
all-filtered p q (x ∷ xs) e = go (q x) (and_parts _ _ e).0 (all-filtered p q xs (and_parts _ _ e).1)
  where
    go : (b : Bool) → p x ≡ true → list_all p (filter q xs) ≡ true → list_all p (cond b (x ∷ filter q xs) (filter q xs)) ≡ true
    go true h k = and_from _ _ h k
    go false h k = k

all-append : {X : Type 0} (p : X → Bool) (xs ys : List X) → list_all p xs ≡ true → list_all p ys ≡ true → list_all p (xs ++ ys) ≡ true
all-append p [] ys e f = f
all-append p (x ∷ xs) ys e f = let q = and_parts _ _ e in and_from _ _ q.0 (all-append p xs ys q.1 f)

-- the updates of some rounds are of these rounds
rounds-of : (s : Session) (first last round : ℕ) (is : List ℕ) → first ≤ round → round ≤ last → is_of_rounds first last (map (λ i. record { round = round; index = i }) is) ≡ true
rounds-of s first last round [] h k = refl
rounds-of s first last round (i ∷ is) h k = and_from _ _ (and_from _ _ (le-leb first round h) (le-leb round last k)) (rounds-of s first last round is h k)

rounds-from : (s : Session) (first last a n : ℕ) → first ≤ a → (0 < n → a + n ≤ last + 1) → is_of_rounds first last (flat_map (updates_of s) (range_with_len a n)) ≡ true
rounds-from s first last a zero h k = refl
rounds-from s first last a (suc n) h k =
    let here : a + suc n ≤ last + 1 = k (omega arith) in
    all-append (λ (u : UpdateId). nat_le first u.round && nat_le u.round last) (updates_of s a) (flat_map (updates_of s) (range_with_len (a + 1) n)) (rounds-of s first last a (range_with_len 0 (64 * words_of s.shape)) h (omega arith)) (rounds-from s first last (a + 1) n (omega arith) (λ z. omega arith))

pub updates_from-rounds : (s : Session) (first last : ℕ) → is_of_rounds first last (updates_from s first last) ≡ true
updates_from-rounds s first last = rounds-from s first last first ((last + 1) - first) (omega arith) (λ z. omega arith)

-- each update of a set is in it
has-more : (u v : UpdateId) (us : List UpdateId) → has_update us u ≡ true → has_update (v ∷ us) u ≡ true
has-more u v us e = or_right _ _ e

inside-more : (xs us : List UpdateId) (v : UpdateId) → is_inside xs us ≡ true → is_inside xs (v ∷ us) ≡ true
inside-more [] us v e = refl
inside-more (x ∷ xs) us v e = let p = and_parts _ _ e in and_from _ _ (has-more x v us p.0) (inside-more xs us v p.1)

pub inside_refl : (us : List UpdateId) → is_inside us us ≡ true
inside_refl [] = refl
inside_refl (u ∷ us) = and_from _ _ (or_left _ _ (same_self u)) (inside-more us us u (inside_refl us))

-- ---- what was said or heard of a kind

-- a fact that lasts, of each message that may be said and of each that may be admitted, is a fact of each spoken message
pub spoken-by : (me : Member) (log : Log) (d : Datagram) (P : Log → Message → Type 0) → WasSpoken log d → IsObedient me log
    → ((before : Log) → IsObedient me before → MaySign me before d.message → P before d.message)
    → ((before : Log) → IsObedient me before → is_for me d.message ≡ true → is_row_met me (known me before) d.message.from d.message.to d.message.body ≡ true → P before d.message)
    → ((before : Log) → IsLater log before → P before d.message → P log d.message)
    → P log d.message
spoken-by me log d P w h said heard lasts =
    lasts w.before (later-entry log w.before w.entry w.place) (go w.entry w.found (allowed-at me log w.before w.entry w.place h))
  where
    go : (e : Entry) → spoken_in e ≡ Some d → Allows me w.before e × IsObedient me w.before → P w.before d.message
    go (Said c) f a = let same : c ≡ d = cc in said w.before a.1 (subst (λ z. MaySign me w.before z.message) same a.0.rule)
    go (Heard c) f a =
        let same : c ≡ d = cc in
        heard w.before a.1 (subst (λ z. is_for me z.message ≡ true) same (admitted-for me w.before c a.0.0))
        (subst (λ z. is_row_met me (known me w.before) z.message.from z.message.to z.message.body ≡ true) same (admitted-row me w.before c a.0.0))
    go e f a = absurd (no-value (spoken_in e) d refl f)

-- ---- balanced terms

-- the history in a RESPONSE is within the table
abbrev AnswerWithin : Log → Message → Type 0
AnswerWithin log m = (hb : List UpdateId) → history_in m.body ≡ Some hb → is_within (table log) hb ≡ true

answer-said : (me : Member) (before : Log) (to : ℕ) (b : Body) (hb : List UpdateId) → IsObedient me before → MaySay me (known me before) to b → history_in b ≡ Some hb → is_within (table before) hb ≡ true
answer-said me before to (Response r hb') hb h rule e = let same : hb' ≡ hb = some-equal hb' hb e in rw (← same, rule.held) (history-within me before r h)
answer-said me before to b hb h rule e = absurd (no-value (history_in b) hb refl e)

answer-heard : (me : Member) (before : Log) (from to : ℕ) (b : Body) (hb : List UpdateId) → is_row_met me (known me before) from to b ≡ true → history_in b ≡ Some hb → is_within (table before) hb ≡ true
answer-heard me before from to (Response r hb') hb row e = let same : hb' ≡ hb = some-equal hb' hb e in rw (← same) (and_parts _ _ (and_parts _ _ row).0).1
answer-heard me before from to b hb row e = absurd (no-value (history_in b) hb refl e)

answer-lasts : (log before : Log) (m : Message) → IsLater log before → AnswerWithin before m → AnswerWithin log m
answer-lasts log before m later w hb e = within-extends _ _ hb (table-later log before later) (w hb e)

spoken-answer : (me : Member) (log : Log) (x : Exchange) (hb : List UpdateId) → IsObedient me log → option_and_then history_in (body_on me (known me log) kinds.Response x Responder) ≡ Some hb → is_within (table log) hb ≡ true
spoken-answer me log x hb h e = go (first_on me (known me log) kinds.Response x Responder) refl e
  where
    go : (o : Option Datagram) → first_on me (known me log) kinds.Response x Responder ≡ o → option_and_then history_in (option_map (λ d. d.message.body) o) ≡ Some hb → is_within (table log) hb ≡ true
    go None f e = cc
    go (Some d) f e =
        spoken-by me log d AnswerWithin (first_on-was me log kinds.Response x Responder d f).0 h
        (λ before k rule hb e. answer-said me before d.message.to d.message.body hb k rule.rule e)
        (λ before k own row hb e. answer-heard me before d.message.from d.message.to d.message.body hb row e)
        (λ before later w. answer-lasts log before d.message later w) hb e

divulged-within : (me : Member) (before : Log) (from to : ℕ) (b : Body) (a : List ℕ × List UpdateId) → is_row_met me (known me before) from to b ≡ true → divulge_in b ≡ Some a → is_within (table before) a.1 ≡ true
divulged-within me before from to (Divulge r nonce ha) a row e = let same : ha ≡ a.1 = ap (λ (z : List ℕ × List UpdateId). z.1) (some-equal (nonce, ha) a e) in rw (← same) (and_parts _ _ (and_parts _ _ row).0).1
divulged-within me before from to b a row e = absurd (no-value (divulge_in b) a refl e)

revealed-within : (me : Member) (log : Log) (x : Exchange) (a : List ℕ × List UpdateId) → IsObedient me log → revealed me log x ≡ Some a → is_within (table log) a.1 ≡ true
revealed-within me log x a h e = at (find-of (λ before e. revealed_in me before x e) log a e)
  where
    said : (before : Log) (b : Bool) → IsObedient me before → then_some b (nonce_of me x, history me.session (block_of me.session before) x.round) ≡ Some a → is_within (table before) a.1 ≡ true
    said before true k f = let same : history me.session (block_of me.session before) x.round ≡ a.1 = cc in rw (← same) (history-within me before x.round k)
    said before false k f = cc

    heard : (before : Log) (d : Datagram) (b : Bool) → is_row_met me (known me before) d.message.from d.message.to d.message.body ≡ true → cond b (divulge_in d.message.body) None ≡ Some a → is_within (table before) a.1 ≡ true
    heard before d true row f = divulged-within me before d.message.from d.message.to d.message.body a row f
    heard before d false row f = cc

    by : (before : Log) (e : Entry) → Allows me before e × IsObedient me before → revealed_in me before x e ≡ Some a → is_within (table before) a.1 ≡ true
    by before (Said d) al f = said before (is_of kinds.Request x Initiator d.message) al.1 f
    by before (Heard d) al f = heard before d (is_of kinds.Divulge x Initiator d.message) (admitted-row me before d al.0.0) f
    by before y al f = absurd (no-value (revealed_in me before x y) a refl f)

    at : IsFind (λ before e. revealed_in me before x e) log a → is_within (table log) a.1 ≡ true
    at w = within-extends _ _ a.1 (table-later log w.before (later-entry log w.before w.entry w.place)) (by w.before w.entry (allowed-at me log w.before w.entry w.place h) w.found)

-- terms that are complete and worth a trade are valid, within the table
pub record IsValid (me : Member) (log : Log) (x : Exchange) (terms : Terms) : Type 0 where
  pub ok : terms_ok me.session (table log) x terms ≡ true
  pub within : windows_within me (known me log) terms ≡ true

trade-valid : (me : Member) (log : Log) (x : Exchange) (t : Terms) (a : Option (List ℕ × List UpdateId)) (b : Option (List UpdateId)) → IsObedient me log
    → revealed me log x ≡ a → option_and_then history_in (body_on me (known me log) kinds.Response x Responder) ≡ b → trade_terms a b ≡ Some t → is_trade_worth me.session (Some t) ≡ true → IsValid me log x t
trade-valid me log x t None b h p q e w = cc
trade-valid me log x t (Some a) None h p q e w = cc
trade-valid me log x t (Some a) (Some hb) h p q e w =
    let ha : is_within (table log) a.1 ≡ true = revealed-within me log x a h p in
    let hb' : is_within (table log) hb ≡ true = spoken-answer me log x hb h q in
    let same : forms.Balanced a.0 a.1 hb ≡ t = cc in
    let worth : nat_le 1 (trade_count me.session.cap a.1 hb) ≡ true = rw (← same) at w in
    subst (λ z. IsValid me log x z) same
    (record { ok = and_from _ _ worth (and_from _ _ (within-none_past (table log) a.1 ha) (within-none_past (table log) hb hb')); within = rw (ha, hb') refl })

-- ---- push terms

pub record IsGoodOffer (me : Member) (log : Log) (round : ℕ) (young aged : List UpdateId) : Type 0 where
  pub young_rounds : is_of_rounds (max 1 (round - 1)) round young ≡ true
  pub aged_rounds : is_of_rounds (first_round me.session round) (round - me.session.shape.life / 2) aged ≡ true
  pub young_len : nat_le (length young) me.session.cap ≡ true
  pub aged_len : nat_le (length aged) me.session.cap ≡ true
  pub young_within : is_within (table log) young ≡ true
  pub aged_within : is_within (table log) aged ≡ true

pub offer-ok : (me : Member) (log : Log) (round : ℕ) (young aged : List UpdateId) → IsGoodOffer me log round young aged → offer_ok me.session.cap me.session.shape.life (table log) round young aged ≡ true
offer-ok me log round young aged g =
    and_from _ _ (and_from _ _ (and_from _ _ g.young_rounds g.aged_rounds) (and_from _ _ g.young_len g.aged_len))
    (and_from _ _ (within-none_past (table log) young g.young_within) (within-none_past (table log) aged g.aged_within))

pub all-implies : {X : Type 0} (p q : X → Bool) (xs : List X) → ((x : X) → p x ≡ true → q x ≡ true) → list_all p xs ≡ true → list_all q xs ≡ true
all-implies p q [] f e = refl
all-implies p q (x ∷ xs) f e = let r = and_parts _ _ e in and_from _ _ (f x r.0) (all-implies p q xs f r.1)

take-short : {X : Type 0} (k : ℕ) (xs : List X) → nat_le (length (take k xs)) k ≡ true
take-short k xs = le-leb _ _ (simp length-take (omega arith))

own-offer : (me : Member) (before : Log) (r : ℕ) → IsObedient me before → IsGoodOffer me before r (young_of me (known me before) r) (aged_of me (known me before) r)
own-offer me before r h =
    record {
      young_rounds = all-take _ me.session.cap _ (all-filtered {X = UpdateId} (λ x. nat_le (max 1 (r - 1)) x.round && nat_le x.round r) (is_held me.session before) (updates_from me.session (max 1 (r - 1)) r)
          (updates_from-rounds me.session (max 1 (r - 1)) r));
      aged_rounds = all-take _ me.session.cap _ (all-filtered {X = UpdateId} (λ x. nat_le (first_round me.session r) x.round && nat_le x.round (r - me.session.shape.life / 2))
          (λ u. not (is_held me.session before u) && is_known (digest_of (table before) u)) (updates_from me.session (first_round me.session r) (r - me.session.shape.life / 2))
          (updates_from-rounds me.session (first_round me.session r) (r - me.session.shape.life / 2)));
      young_len = take-short me.session.cap _;
      aged_len = take-short me.session.cap _;
      young_within = held-within me before (young_of me (known me before) r) h (all-take _ me.session.cap _ (all-filter (is_held me.session before) _));
      aged_within = all-take _ me.session.cap _ (all-implies _ _ _ (λ u e. and-second (not (is_held me.session before u)) _ e) (all-filter _ (updates_from me.session (first_round me.session r) (r - me.session.shape.life / 2))));
    }

query-said : (me : Member) (before : Log) (to : ℕ) (b : Body) (q : List UpdateId × List UpdateId) → IsObedient me before → MaySay me (known me before) to b → offer_in b ≡ Some q → IsGoodOffer me before (round_of b) q.0 q.1
query-said me before to (Query r seed young aged) q h rule e =
    let same = some-equal (young, aged) q e in
    let a : young ≡ q.0 = ap (λ (z : List UpdateId × List UpdateId). z.0) same in
    let b : aged ≡ q.1 = ap (λ (z : List UpdateId × List UpdateId). z.1) same in
    rw (← a, ← b, rule.offers, rule.asks) (own-offer me before r h)
query-said me before to b q h rule e = absurd (no-value (offer_in b) q refl e)

query-heard : (me : Member) (before : Log) (from to : ℕ) (b : Body) (q : List UpdateId × List UpdateId) → is_row_met me (known me before) from to b ≡ true → offer_in b ≡ Some q → IsGoodOffer me before (round_of b) q.0 q.1
query-heard me before from to (Query r seed young aged) q row e =
    let same = some-equal (young, aged) q e in
    let a : young ≡ q.0 = ap (λ (z : List UpdateId × List UpdateId). z.0) same in
    let b : aged ≡ q.1 = ap (λ (z : List UpdateId × List UpdateId). z.1) same in
    let p = and_parts _ _ (and_parts _ _ (and_parts _ _ row).0).0 in
    let w = and_parts _ _ p.1 in
    let o = and_parts _ _ (and_parts _ _ p.0).0 in
    let j = and_parts _ _ o.0 in
    let k = and_parts _ _ o.1 in
    rw (← a, ← b) (record { young_rounds = j.0; aged_rounds = j.1; young_len = k.0; aged_len = k.1; young_within = w.0; aged_within = w.1 })
query-heard me before from to b q row e = absurd (no-value (offer_in b) q refl e)

-- the offer of a QUERY is good
abbrev OfferGood : Member → Log → Message → Type 0
OfferGood me log m = (q : List UpdateId × List UpdateId) → offer_in m.body ≡ Some q → IsGoodOffer me log (round_of m.body) q.0 q.1

good-lasts : (me : Member) (log before : Log) (r : ℕ) (young aged : List UpdateId) → IsLater log before → IsGoodOffer me before r young aged → IsGoodOffer me log r young aged
good-lasts me log before r young aged later g =
    record {
      young_rounds = g.young_rounds;
      aged_rounds = g.aged_rounds;
      young_len = g.young_len;
      aged_len = g.aged_len;
      young_within = within-extends _ _ young (table-later log before later) g.young_within;
      aged_within = within-extends _ _ aged (table-later log before later) g.aged_within;
    }

-- a message of an exchange is of its round
is_of-round : (kind : Kind) (x : Exchange) (role : Role) (m : Message) → kind ≡ kinds.Query → is_of kind x role m ≡ true → round_of m.body ≡ x.round
is_of-round kind x role m k e = go m.body (rw k at e)
  where
    go : (b : Body) → (eqb (kind_number b) 6 && option_map_or (is_place x role) (option_map (place_by m.from m.to) (part_of b)) false) ≡ true → round_of b ≡ x.round
    go (Query r seed young aged) e =
        let same : exchange_by r Push Initiator m.from m.to ≡ x = same_exchange-is (exchange_by r Push Initiator m.from m.to) x (and_parts _ _ e).0 in ap (λ (z : Exchange). z.round) same
    go _ e = cc

pub spoken-offer : (me : Member) (log : Log) (x : Exchange) (q : List UpdateId × List UpdateId) → IsObedient me log → option_and_then offer_in (body_on me (known me log) kinds.Query x Initiator) ≡ Some q → IsGoodOffer me log x.round q.0 q.1
spoken-offer me log x q h e = go (first_on me (known me log) kinds.Query x Initiator) refl e
  where
    go : (o : Option Datagram) → first_on me (known me log) kinds.Query x Initiator ≡ o → option_and_then offer_in (option_map (λ d. d.message.body) o) ≡ Some q → IsGoodOffer me log x.round q.0 q.1
    go None f e = cc
    go (Some d) f e =
        let was = first_on-was me log kinds.Query x Initiator d f in
        subst (λ r. IsGoodOffer me log r q.0 q.1) (is_of-round kinds.Query x Initiator d.message refl was.1)
        (spoken-by me log d (OfferGood me) was.0 h
        (λ before k rule q e. query-said me before d.message.to d.message.body q k rule.rule e)
        (λ before k own row q e. query-heard me before d.message.from d.message.to d.message.body q row e)
        (λ before later w q e. good-lasts me log before (round_of d.message.body) q.0 q.1 later (w q e)) q e)

-- what a REPLY takes and gives fits the QUERY before it
pub record IsGoodAnswer (me : Member) (log : Log) (x : Exchange) (t : List UpdateId × List UpdateId × ℕ) : Type 0 where
  pub query : List UpdateId × List UpdateId
  pub stands : option_and_then offer_in (body_on me (known me log) kinds.Query x Initiator) ≡ Some query
  pub fits : answer_ok me.session.cap query.0 query.1 t.0 t.1 t.2 ≡ true

given-len : (w g : ℕ) → g ≤ w → w ≡ g + (w - g)
given-len w g h = omega arith

-- what current holdings make wanted and given fits what is offered
pub own-answer : (me : Member) (k : Knowledge) (young aged want give : List UpdateId) (junk : ℕ) → want ≡ wanted_of me k young → 0 < length want → give ≡ given_of me k young aged → junk ≡ length want - length give
    → answer_ok me.session.cap young aged want give junk ≡ true
own-answer me k young aged want give junk a n b c =
    let w : is_inside want young ≡ true =
    rw a (all-take (has_update young) me.session.cap _ (all-filtered {X = UpdateId} (has_update young) (λ u. not (holds k u)) young (inside_refl young))) in
    let g : is_inside give aged ≡ true =
    rw b (all-take (has_update aged) (length (wanted_of me k young)) _ (all-filtered {X = UpdateId} (has_update aged) (holds k) aged (inside_refl aged))) in
    let s : length give ≤ length want = rw (b, a) (leb-true _ _ (take-short (length (wanted_of me k young)) _)) in
    let z : length want ≡ length give + junk = rw c (given-len _ _ s) in
    let some : nat_le 1 (length want) ≡ true = le-leb 1 (length want) n in
    and_from _ _ (and_from _ _ (and_from _ _ w g) (and_from _ _ some (rw a (take-short me.session.cap _)))) (eq-eqb _ _ z)

-- the exchange of a REPLY
abbrev reply_exchange : Message → Exchange
reply_exchange m = exchange_by (round_of m.body) Push Responder m.from m.to

abbrev AnswerGood : Member → Log → Message → Type 0
AnswerGood me log m = (t : List UpdateId × List UpdateId × ℕ) → reply_in m.body ≡ Some t → IsGoodAnswer me log (reply_exchange m) t

reply-said : (me : Member) (before : Log) (m : Message) (b : Body) (t : List UpdateId × List UpdateId × ℕ) → m.from ≡ me.party → MaySay me (known me before) m.to b → reply_in b ≡ Some t
    → IsGoodAnswer me before (exchange_by (round_of b) Push Responder m.from m.to) t
reply-said me before m (Reply r want give junk) t mine rule e =
    let same : (want, give, junk) ≡ t = some-equal (want, give, junk) t e in
    subst (λ z. IsGoodAnswer me before (exchange_by r Push Responder m.from m.to) z) same
    (record {
      query = (rule.young, rule.aged);
      stands = rw mine rule.offers;
      fits = own-answer me (known me before) rule.young rule.aged want give junk rule.wants rule.some_wanted rule.gives rule.pads;
    })
reply-said me before m b t mine rule e = absurd (no-value (reply_in b) t refl e)

-- a member that a REPLY is for is the initiator
reply-own : (me : Member) (before : Log) (r from to : ℕ) → to ≡ me.party → body_on me (known me before) kinds.Query (exchange_by r Push Responder from to) Initiator ≡ body_said (known me before) kinds.Query (exchange_by r Push Responder from to) Initiator
reply-own me before r from to own = rw (own, eqb_refl me.party) refl

reply-heard : (me : Member) (before : Log) (from to : ℕ) (b : Body) (t : List UpdateId × List UpdateId × ℕ) → to ≡ me.party → is_row_met me (known me before) from to b ≡ true → reply_in b ≡ Some t
    → IsGoodAnswer me before (exchange_by (round_of b) Push Responder from to) t
reply-heard me before from to (Reply r want give junk) t own row e = go (option_and_then offer_in (body_said (known me before) kinds.Query x Initiator)) refl (and_parts _ _ row).0
  where
    x : Exchange
    x = exchange_by r Push Responder from to

    go : (o : Option (List UpdateId × List UpdateId)) → option_and_then offer_in (body_said (known me before) kinds.Query x Initiator) ≡ o
        → option_map_or (terms_ok me.session (table before) x) (terms_with o want give junk) false ≡ true → IsGoodAnswer me before x t
    go None f k = cc
    go (Some q) f k =
        let same : (want, give, junk) ≡ t = some-equal (want, give, junk) t e in
        subst (λ z. IsGoodAnswer me before x z) same
        (record { query = q; stands = ap (option_and_then offer_in) (reply-own me before r from to own) ∙ f; fits = (and_parts _ _ k).1 })
reply-heard me before from to b t own row e = absurd (no-value (reply_in b) t refl e)

reply-to : (me : Member) (m : Message) (b : Body) (t : List UpdateId × List UpdateId × ℕ) → reply_in b ≡ Some t → cond (is_to_all b) (eqb m.to everyone) (eqb m.to me.party) ≡ true → m.to ≡ me.party
reply-to me m (Reply r want give junk) t e own = eqb-true _ _ own
reply-to me m b t e own = absurd (no-value (reply_in b) t refl e)

answer_good-lasts : (me : Member) (log before : Log) (x : Exchange) (t : List UpdateId × List UpdateId × ℕ) → IsLater log before → IsGoodAnswer me before x t → IsGoodAnswer me log x t
answer_good-lasts me log before x t later g =
    record { query = g.query; stands = then-later offer_in _ _ g.query (λ b. body_on-later me log before kinds.Query x Initiator b later) g.stands; fits = g.fits }

-- a REPLY of an exchange names it
is_of-reply : (x : Exchange) (m : Message) (t : List UpdateId × List UpdateId × ℕ) → reply_in m.body ≡ Some t → is_of kinds.Reply x Responder m ≡ true → reply_exchange m ≡ x
is_of-reply x m t k e = go m.body e
  where
    go : (b : Body) → (eqb (kind_number b) 7 && option_map_or (is_place x Responder) (option_map (place_by m.from m.to) (part_of b)) false) ≡ true
        → exchange_by (round_of b) Push Responder m.from m.to ≡ x
    go (Reply r want give junk) e = same_exchange-is (exchange_by r Push Responder m.from m.to) x (and_parts _ _ e).0
    go _ e = cc

pub spoken-reply : (me : Member) (log : Log) (x : Exchange) (t : List UpdateId × List UpdateId × ℕ) → IsObedient me log → option_and_then reply_in (body_on me (known me log) kinds.Reply x Responder) ≡ Some t → IsGoodAnswer me log x t
spoken-reply me log x t h e = go (first_on me (known me log) kinds.Reply x Responder) refl e
  where
    go : (o : Option Datagram) → first_on me (known me log) kinds.Reply x Responder ≡ o → option_and_then reply_in (option_map (λ d. d.message.body) o) ≡ Some t → IsGoodAnswer me log x t
    go None f e = cc
    go (Some d) f e =
        let was = first_on-was me log kinds.Reply x Responder d f in
        subst (λ y. IsGoodAnswer me log y t) (is_of-reply x d.message t e was.1)
        (spoken-by me log d (AnswerGood me) was.0 h
        (λ before k rule t e. reply-said me before d.message d.message.body t rule.mine rule.rule e)
        (λ before k own row t e. reply-heard me before d.message.from d.message.to d.message.body t (reply-to me d.message d.message.body t e own) row e)
        (λ before later w t e. answer_good-lasts me log before (reply_exchange d.message) t later (w t e)) t e)

offer-valid : (me : Member) (log : Log) (x : Exchange) (t : Terms) (a : Option (List UpdateId × List UpdateId)) (b : Option (List UpdateId × List UpdateId × ℕ)) → IsObedient me log
    → option_and_then offer_in (body_on me (known me log) kinds.Query x Initiator) ≡ a → option_and_then reply_in (body_on me (known me log) kinds.Reply x Responder) ≡ b → offer_terms a b ≡ Some t → IsValid me log x t
offer-valid me log x t None b h p q e = cc
offer-valid me log x t (Some a) None h p q e = cc
offer-valid me log x t (Some a) (Some b) h p q e =
    let offer : IsGoodOffer me log x.round a.0 a.1 = spoken-offer me log x a h p in
    let answer : IsGoodAnswer me log x b = spoken-reply me log x b h q in
    let query : answer.query ≡ a = (let s = answer.stands in cc) in
    let same : forms.Push a.0 a.1 b.0 b.1 b.2 ≡ t = cc in
    subst (λ z. IsValid me log x z) same
    (record {
      ok = and_from _ _ (offer-ok me log x.round a.0 a.1 offer) (subst (λ z. answer_ok me.session.cap z.0 z.1 b.0 b.1 b.2 ≡ true) query answer.fits);
      within = rw (offer.young_within, offer.aged_within) refl;
    })

-- complete terms that are worth a trade are valid
pub terms-valid : (me : Member) (log : Log) (x : Exchange) (t : Terms) → IsObedient me log → terms_of me (known me log) x ≡ Some t → is_trade_worth me.session (Some t) ≡ true → IsValid me log x t
terms-valid me log x t h e w = go x.kind e
  where
    go : (k : XKind) → terms_by k me (known me log) x ≡ Some t → IsValid me log x t
    go Balanced e = trade-valid me log x t _ _ h refl refl e w
    go Push e = offer-valid me log x t _ _ h refl refl e

-- Each message that a member may sign is in the grammar, if everything that was said or heard before is.
use Rattle.bar_session.specs.Limits.{most_long_rounds}
use Rattle.bar_wire.specs.Bodies.{briefcase_in, history_in, offer_in, reply_in}
use Rattle.bar_wire.specs.declared.kind.Kind.{Kind}
use Rattle.bar_case.specs.Sealed.{MatchesTable}
use Rattle.bar_rules.specs.Peer.Choices.{wanted_of}
use Rattle.bar_rules.specs.Peer.Holdings.{history, block_of, is_held}
use Rattle.bar_rules.specs.Peer.Knowledge.{known}
use Rattle.bar_rules.specs.Peer.Log.{Log, Entry, Heard, Said, table, has_heard, first_heard}
use Rattle.bar_rules.specs.Member.{Session, Member, IsMember}
use Rattle.bar_rules.specs.Peer.Rules.{IsObedient, Allows}
use Rattle.bar_rules.specs.Secrets.{secrets_of, nonce_of, seed_of, partner_of, briefcase_key}
use Rattle.bar_rules.specs.Peer.Signing.{MaySay, MaySign, MayGiveCase, MayGiveKey, MayReply, asking}
use Rattle.bar_rules.specs.Peer.Terms.{terms_of, terms_by, trade_terms, offer_terms}
use Rattle.bar_rules.specs.Values.{counts_ok}
use Rattle.bar_terms.specs.Table.{no_lists}
use Rattle.bar_terms.specs.Terms.{promise, promised_updates, promised_junk, can_promise}
use Rattle.bar_window.specs.Exchange.{other_role}
use Rattle.bar_window.specs.Terms.{Terms}
use Rattle.bar_window.specs.Terms as forms
use Rattle.bar_window.specs.declared.exchange.Exchange.{Exchange}
use Rattle.bar_window.specs.declared.exchange.Role.{Role}
use Rattle.bar_window.specs.declared.exchange.Role.TheVariants.{Initiator, Responder}
use Rattle.bar_window.specs.declared.exchange.XKind.{XKind}
use Rattle.bar_window.specs.declared.exchange.XKind.TheVariants.{Balanced, Push}
use Rattle.bar_window.specs.declared.update.UpdateId.{UpdateId}
use Rattle.bar_wire.specs.declared.kind.Kind.TheVariants as kinds
use Rattle.bar_wire.specs.Datagram.{Message, Datagram, Body, Request, Response, Query, Reply, Case, Key, Briefcase, KeyGiven, round_of, exchange_by, is_of}
use Rattle.bar_wire.specs.Grammar.{IsDatagram, words_of, HasForm, HasTermForm, HasFewJunk, InRange, IsRound, IsPeer, IsWindowSet}
use Rattle.std.proofs.Common.{◌≡◌, ℕ, ◌+◌, ◌*◌, ◌-◌, ◌<◌, ◌≤◌, ◌^◌, true, List, [], ◌∷◌, length, refl, sym, ap, ◌∙◌, subst, inl, inr, arith, not, length-append, length-take}
use Rattle.std.specs.Prelude.{Option, Some, None, option_and_then, filter}
use Rattle.std.specs.List.{AllByRecursion}
use Rattle.std.proofs.lemmas.Bool.{and_parts, eqb-true}
use Rattle.std.proofs.lemmas.List.{length-map}
use Rattle.std.proofs.lemmas.List.FromFn.{length-range_with_len}
use Rattle.bar_laws.proofs.Logs.{no-value, party-on, party-over, kind-on, role-own, is_of-is, sign-elsewhere, length-chain_back, length-briefcase_key, length-commitment_of, partner_low, partner_high, promises_equal, promises_some, promises_few, terms_promise, length_sealed, IsFormed, IsBetween, AllFormed, spoken-in, formed-between, party-peer, round-by, told, told-answer, told-offer, told-reply, revealed-formed, fits-formed, heard-fits, some-is, first_heard-was, spoken_in, heard-spoken, set-filter, set-take, history-set, young-set, aged-set}
use Rattle.bar_laws.proofs.Judging.{AllHeld, promise-held, blocks-whole, trade-of, offer-of}

-- what a member says to a party is in the grammar
record IsSaidWell (me : Member) (to : ℕ) (b : Body) : Type 0 where
  form : HasForm me.session.shape b
  range : InRange me.session.shape b
  peer : IsPeer me.session.shape to

-- ---- numbers

pub round-small : (me : Member) (r : ℕ) → IsMember me → IsRound me.session.shape r → r < 2 ^ 32
round-small me r is round = let high : me.session.shape.rounds ≤ most_long_rounds = is.session.shape.rounds_high in omega (arith, high, round.1)

seed-long : (me : Member) (round : ℕ) (seed : List ℕ) → seed ≡ seed_of me round → length seed ≡ 32
seed-long me round seed e = ap length e ∙ length-chain_back (secrets_of me) me.session.shape.rounds (me.session.shape.rounds - round)

chosen-peer : (me : Member) (kind : XKind) (to : ℕ) (seed : List ℕ) → IsMember me → to ≡ partner_of me.session seed kind me.party → IsPeer me.session.shape to
chosen-peer me kind to seed is e =
    let some : 2 ≤ me.session.shape.peers = is.session.shape.peers_low in
    let low : 1 ≤ partner_of me.session seed kind me.party = partner_low me.session.shape.id me.session.shape.peers seed kind me.party in
    let high : partner_of me.session seed kind me.party ≤ me.session.shape.peers = partner_high me.session.shape.id me.session.shape.peers seed kind me.party some in
    (omega (arith, e, low), omega (arith, e, high))

-- ---- the partner

heard-between : (me : Member) (before : Log) (kind : Kind) (x : Exchange) (role : Role) (d : Datagram) → AllFormed me before → first_heard (is_of kind x role) before ≡ Some d → IsBetween me.session.shape x
heard-between me before kind x role d all e =
    let w = first_heard-was (is_of kind x role) before d e in
    let at = is_of-is kind x role d.message w.1 in
    formed-between me.session.shape kind x role d.message (all d (at.round, at.sort, role) (spoken-in before d (heard-spoken before d w.0)) at.part) w.1

asker-peer : (me : Member) (before : Log) (kind : Kind) (r : ℕ) (k : XKind) (to : ℕ) → AllFormed me before → has_heard (is_of kind (exchange_by r k Responder me.party to) Initiator) before ≡ true → IsPeer me.session.shape to
asker-peer me before kind r k to all e =
    let f = some-is _ e in
    (heard-between me before kind (exchange_by r k Responder me.party to) Initiator f.0 all f.1).initiator

partner-peer : (me : Member) (r : ℕ) (k : XKind) (role : Role) (to : ℕ) → IsBetween me.session.shape (exchange_by r k role me.party to) → IsPeer me.session.shape to
partner-peer me r k role to b =
    subst (λ p. IsPeer me.session.shape p) (party-over r k role me.party to) (party-peer me.session.shape (exchange_by r k role me.party to) (other_role role) b)

-- ---- complete terms

kind_of_terms : Terms → XKind
kind_of_terms (forms.Balanced nonce ha hb) = Balanced
kind_of_terms (forms.Push young aged want give junk) = Push

trade-kind : (a : Option (List ℕ × List UpdateId)) (b : Option (List UpdateId)) (t : Terms) → trade_terms a b ≡ Some t → Balanced ≡ kind_of_terms t
unfolding kind_of_terms
trade-kind (Some a) (Some b) t e = let same : forms.Balanced a.0 a.1 b ≡ t = cc in ap kind_of_terms same
trade-kind (Some a) None t e = cc
trade-kind None b t e = cc

offer-kind : (a : Option (List UpdateId × List UpdateId)) (b : Option (List UpdateId × List UpdateId × ℕ)) (t : Terms) → offer_terms a b ≡ Some t → Push ≡ kind_of_terms t
unfolding kind_of_terms
offer-kind (Some a) (Some b) t e = let same : forms.Push a.0 a.1 b.0 b.1 b.2 ≡ t = cc in ap kind_of_terms same
offer-kind (Some a) None t e = cc
offer-kind None b t e = cc

terms-kind : (me : Member) (log : Log) (x : Exchange) (t : Terms) → terms_of me (known me log) x ≡ Some t → x.kind ≡ kind_of_terms t
terms-kind me log x t e = go x.kind e
  where
    go : (k : XKind) → terms_by k me (known me log) x ≡ Some t → k ≡ kind_of_terms t
    go Balanced e = trade-kind _ _ t e
    go Push e = offer-kind _ _ t e

-- complete terms have the form of their kind, and are of an exchange between peers
record AreFormed (me : Member) (x : Exchange) (t : Terms) : Type 0 where
  form : HasTermForm me.session.shape x.round x.kind t
  few : HasFewJunk t
  between : IsBetween me.session.shape x

terms-formed : (me : Member) (log : Log) (x : Exchange) (t : Terms) → AllFormed me log → terms_of me (known me log) x ≡ Some t → AreFormed me x t
unfolding kind_of_terms
terms-formed me log x (forms.Balanced nonce ha hb) all e =
    let parts = trade-of me log x nonce ha hb e in
    let a = revealed-formed me log x (nonce, ha) all parts.0 in
    let w = told me log kinds.Response x Responder history_in hb all parts.1 in
    record { form = (terms-kind me log x (forms.Balanced nonce ha hb) e, a.nonce, a.set, told-answer me log x hb w); few = tt; between = w.between }
terms-formed me log x (forms.Push young aged want give junk) all e =
    let parts = offer-of me log x young aged want give junk e in
    let w = told me log kinds.Query x Initiator offer_in (young, aged) all parts.0 in
    let v = told me log kinds.Reply x Responder reply_in (want, give, junk) all parts.1 in
    let a = told-offer me log x (young, aged) w in
    let b = told-reply me log x (want, give, junk) v in
    record { form = (terms-kind me log x (forms.Push young aged want give junk) e, a.0, a.1, b.0, b.1); few = b.2; between = w.between }

-- ---- a CASE

-- held blocks have their full length, so they are sealed with their length
held-told : (me : Member) (log : Log) (us : List UpdateId) → IsObedient me log → AllHeld me.session log us → AllByRecursion (MatchesTable no_lists (block_of me.session log)) us
held-told me log [] h e = tt
held-told me log (u ∷ us) h e =
    let p = and_parts _ _ e in
    let b = some-is (block_of me.session log u) p.0 in
    (record { block = b.0; held = b.1; whole = blocks-whole me log u b.0 h b.1; told = inl refl }, held-told me log us h p.1)

-- a promise has from one to sixteen items
promise-few : (cap : ℕ) (t : Terms) (role : Role) → cap ≤ 16 → can_promise cap t ≡ true → (0 < length (promised_updates cap t role) + promised_junk t role) × (length (promised_updates cap t role) + promised_junk t role ≤ 16)
promise-few cap t role high ok = (omega (arith, long, (own role).0), omega (arith, long, (own role).1))
  where
    long : length (promise cap t role) ≡ length (promised_updates cap t role) + promised_junk t role
    long = simp (length-append, length-map, length-range_with_len)

    own : (role : Role) → (1 ≤ length (promise cap t role)) × (length (promise cap t role) ≤ 16)
    own Initiator = (promises_some cap t ok, omega (arith, high, promises_few cap t ok))
    own Responder = (omega (arith, promises_equal cap t ok, promises_some cap t ok), omega (arith, high, promises_equal cap t ok, promises_few cap t ok))

counts-are : (s : Session) (c : Briefcase) → counts_ok s c ≡ true → (c.updates ≡ length (promised_updates s.cap c.terms c.role)) × (c.junk ≡ promised_junk c.terms c.role)
counts-are s c e = let p = and_parts _ _ e in (eqb-true _ _ p.0, eqb-true _ _ p.1)

case-well : (me : Member) (before : Log) (to : ℕ) (c : Briefcase) → IsMember me → IsObedient me before → AllFormed me before → (to ≡ me.party → ⊥) → IsRound me.session.shape c.round → MayGiveCase me (known me before) to c → IsSaidWell me to (Case c)
case-well me before to c is h all other round rule = record {
  form = (round-small me c.round is round, terms, cipher);
  range = (round, omega (arith, updates, junk, few.0), omega (arith, updates, junk, few.1), formed.few);
  peer = partner-peer me c.round c.kind c.role to formed.between;
}
  where
    x : Exchange
    x = exchange_by c.round c.kind c.role me.party to

    formed : AreFormed me x c.terms
    formed = terms-formed me before x c.terms all rule.terms

    terms : HasTermForm me.session.shape c.round c.kind c.terms
    terms =
        subst (λ k. HasTermForm me.session.shape c.round k c.terms) (kind-on c.round c.kind c.role me.party to)
        (subst (λ r. HasTermForm me.session.shape r x.kind c.terms) (round-by c.round c.kind c.role me.party to) formed.form)

    updates : c.updates ≡ length (promised_updates me.session.cap c.terms c.role)
    updates = (counts-are me.session c rule.counts).0

    junk : c.junk ≡ promised_junk c.terms c.role
    junk = (counts-are me.session c rule.counts).1

    few : (0 < length (promised_updates me.session.cap c.terms c.role) + promised_junk c.terms c.role) × (length (promised_updates me.session.cap c.terms c.role) + promised_junk c.terms c.role ≤ 16)
    few = promise-few me.session.cap c.terms c.role is.session.cap_high (terms_promise me.session.cap me.session.shape.life x.round (table before) c.terms rule.valid)

    held : AllHeld me.session before (promised_updates me.session.cap c.terms c.role)
    held = promise-held me before x c.role c.terms h (party-on c.round c.kind c.role me.party to) (role-own me c.round c.kind c.role to other) rule.terms

    cipher : length c.cipher ≡ 1024 * c.updates + 1280 * c.junk
    cipher =
        let sealed = length_sealed me.session.shape.id x me.session.cap c.terms c.role (briefcase_key me x c.role) no_lists (block_of me.session before) (held-told me before (promised_updates me.session.cap c.terms c.role) h held) in
        ap length rule.cipher ∙ sealed ∙ omega (arith, updates, junk)

-- ---- a KEY

key-well : (me : Member) (before : Log) (to : ℕ) (k : KeyGiven) → IsMember me → AllFormed me before → IsRound me.session.shape k.round → MayGiveKey me (known me before) to k → IsSaidWell me to (Key k)
key-well me before to k is all round rule = record {
  form = (round-small me k.round is round, ap length rule.key ∙ length-briefcase_key (secrets_of me) (exchange_by k.round k.kind k.role me.party to) k.role);
  range = round;
  peer = partner-peer me k.round k.kind k.role to (go (first_heard (is_of kinds.Case (exchange_by k.round k.kind k.role me.party to) (other_role k.role)) before) refl rule.heard);
}
  where
    go : (o : Option Datagram) → first_heard (is_of kinds.Case (exchange_by k.round k.kind k.role me.party to) (other_role k.role)) before ≡ o → option_and_then (λ d. briefcase_in d.message.body) o ≡ Some rule.theirs
        → IsBetween me.session.shape (exchange_by k.round k.kind k.role me.party to)
    go None e f = cc
    go (Some d) e f = heard-between me before kinds.Case (exchange_by k.round k.kind k.role me.party to) (other_role k.role) d all e

-- ---- a REPLY

reply-well : (me : Member) (before : Log) (to r : ℕ) (want give : List UpdateId) (junk : ℕ) → IsMember me → AllFormed me before → IsRound me.session.shape r → MayReply me (known me before) to r want give junk → IsSaidWell me to (Reply r want give junk)
reply-well me before to r want give junk is all round rule = record {
  form = (
    round-small me r is round,
    subst (λ us. IsWindowSet me.session.shape r us) (sym rule.wants) (set-take me.session.shape r me.session.cap _ (set-filter me.session.shape r (λ u. not (is_held me.session before u)) rule.young sets.0)),
    subst (λ us. IsWindowSet me.session.shape r us) (sym rule.gives) (set-take me.session.shape r (length (wanted_of me (known me before) rule.young)) _ (set-filter me.session.shape r (is_held me.session before) rule.aged sets.1)),
  );
  range = (round, omega (arith, rule.pads, few));
  peer = asker-peer me before kinds.Query r Push to all rule.asked;
}
  where
    x : Exchange
    x = exchange_by r Push Responder me.party to

    sets : IsWindowSet me.session.shape r rule.young × IsWindowSet me.session.shape r rule.aged
    sets = told-offer me before x (rule.young, rule.aged) (told me before kinds.Query x Initiator offer_in (rule.young, rule.aged) all rule.offers)

    few : length want ≤ 16
    few =
        let high : me.session.cap ≤ 16 = is.session.cap_high in
        let short : length want ≡ length (wanted_of me (known me before) rule.young) = ap length rule.wants in
        omega (arith, high, short, length-take me.session.cap (filter (λ u. not (is_held me.session before u)) rule.young))

-- ---- any message

say-well : (me : Member) (before : Log) (to : ℕ) (b : Body) → IsMember me → IsObedient me before → AllFormed me before → (to ≡ me.party → ⊥) → IsRound me.session.shape (round_of b) → MaySay me (known me before) to b → IsSaidWell me to b
say-well me before to (Request r seed c) is h all other round rule = record {
  form = (
    round-small me r is round,
    seed-long me r seed rule.seeded,
    ap length rule.committed ∙ length-commitment_of (words_of me.session.shape) me.session.shape.life me.session.shape.id (asking me r Balanced to) (nonce_of me (asking me r Balanced to)) (history me.session (block_of me.session before) r),
  );
  range = round;
  peer = chosen-peer me Balanced to seed is rule.chosen;
}
say-well me before to (Query r seed young aged) is h all other round rule = record {
  form = (
    round-small me r is round,
    seed-long me r seed rule.seeded,
    subst (λ us. IsWindowSet me.session.shape r us) (sym rule.offers) (young-set me before r (omega (arith, round.0)) is.session.shape.life_low),
    subst (λ us. IsWindowSet me.session.shape r us) (sym rule.asks) (aged-set me before r),
  );
  range = round;
  peer = chosen-peer me Push to seed is rule.chosen;
}
say-well me before to (Response r hb) is h all other round rule = record {
  form = (round-small me r is round, subst (λ us. IsWindowSet me.session.shape r us) (sym rule.held) (history-set me.session before r));
  range = round;
  peer = asker-peer me before kinds.Request r Balanced to all rule.asked;
}
say-well me before to (Reply r want give junk) is h all other round rule = reply-well me before to r want give junk is all round rule
say-well me before to (Case c) is h all other round rule = case-well me before to c is h all other round rule
say-well me before to (Key k) is h all other round rule = key-well me before to k is all round rule
say-well me before to _ is h all other round rule = absurd rule

-- what may be signed is a message of an exchange, in the grammar
pub sign-formed : (me : Member) (before : Log) (m : Message) → IsMember me → IsObedient me before → AllFormed me before → MaySign me before m → IsFormed me.session.shape m
sign-formed me before m is h all sign =
    let other : m.to ≡ me.party → ⊥ = sign-elsewhere me before m h sign in
    let well = say-well me before m.to m.body is h all other (omega (arith, sign.low), sign.high) sign.rule in
    record {
      form = well.form;
      range = well.range;
      from = subst (λ p. IsPeer me.session.shape p) (sym sign.mine) is.peer;
      to = well.peer;
      other = λ e. other (sym e ∙ sign.mine);
    }

-- so each message of an exchange that was said or heard is in the grammar
pub all-formed : (me : Member) (log : Log) → IsMember me → IsObedient me log → AllFormed me log
all-formed me [] is h d p s e = absurd s
all-formed me (x ∷ log) is h d p (inr s) e = all-formed me log is h.1 d p s e
all-formed me (x ∷ log) is h d p (inl f) e = go x f h.0 (all-formed me log is h.1)
  where
    go : (x : Entry) → spoken_in x ≡ Some d → Allows me log x → AllFormed me log → IsFormed me.session.shape d.message
    go (Said c) f a all = let same : c ≡ d = cc in subst (λ z. IsFormed me.session.shape z.message) same (sign-formed me log c.message is h.1 all a.rule)
    go (Heard c) f a all = let same : c ≡ d = cc in fits-formed me.session.shape d p (subst (λ z. IsDatagram me.session.shape z) same (heard-fits me log c a)) e
    go y f a all = absurd (no-value (spoken_in y) d refl f)

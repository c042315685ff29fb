-- Knowledge that agrees in what a peer keeps admits the same datagrams.
use Rattle.bar_wire.specs.Limits.{seats_a_round}
use Rattle.bar_wire.specs.Bodies.{history_in, offer_in, reply_in, commitment_in}
use Rattle.bar_terms.specs.Table.{Table, digest_of, is_within}
use Rattle.bar_terms.specs.Terms.{offer_ok, offer_rounds}
use Rattle.bar_wire.specs.Grammar.{is_third}
use Rattle.bar_window.specs.Exchange.{other_role, same_role}
use Rattle.bar_window.specs.declared.exchange.Exchange.{Exchange}
use Rattle.bar_window.specs.declared.exchange.Role.{Role}
use Rattle.bar_window.specs.declared.exchange.Role.TheVariants.{Initiator, Responder}
use Rattle.bar_window.specs.declared.exchange.XKind.{XKind}
use Rattle.bar_window.specs.declared.exchange.XKind.TheVariants.{Balanced, Push}
use Rattle.bar_window.specs.declared.update.UpdateId.{UpdateId}
use Rattle.bar_wire.specs.declared.kind.Kind.TheVariants as kinds
use Rattle.bar_wire.specs.declared.kind.Kind.{Kind}
use Rattle.bar_wire.specs.Datagram.{Message, Datagram, Body, Manifest, Block, Request, Response, Divulge, Query, Reply, Case, KeyReq, Key, Evict, is_signed, kind_of, part_of, exchange_by, place_of, place_by}
use Rattle.bar_rules.specs.Peer.Admission.{is_admitted, is_row_met, is_for, is_heard_again, is_named_again, may_ask, has_digest, meets_commitment, body_said, are_terms, terms_with, has_valid_signature}
use Rattle.bar_rules.specs.Peer.Agreement.{promised_by, IsRepeatable, AgreesWith, IsRecent}
use Rattle.bar_rules.specs.Peer.Choices.{wanted_of}
use Rattle.bar_rules.specs.Peer.Debts.{is_due, is_owed, owes}
use Rattle.bar_rules.specs.Peer.Exchanges.{role_of, partner_in, request_kind}
use Rattle.bar_rules.specs.Peer.Knowledge.{deadline, table_of, Knowledge, this_round, holds, has_heard_of, has_said_of, request_deadline, answer_deadline}
use Rattle.bar_rules.specs.Member.{Member, is_alive}
use Rattle.bar_rules.specs.Secrets.{is_seed, partner_of, commitment_of}
use Rattle.bar_rules.specs.Peer.Terms.{terms_of, terms_by, trade_terms, offer_terms, body_on}
use Rattle.bar_rules.specs.Values.{counts_ok, terms_ok}
use Rattle.std.proofs.Common.{◌≡◌, ℕ, ◌<◌, ◌≤◌, ◌+◌, ◌-◌, Bool, true, false, List, [], ◌∷◌, length, refl, sym, ap, ◌∙◌, subst, ◌&&◌, not, eqb, cond, take, arith}
use Rattle.std.specs.Prelude.{Option, Some, None, is_some, option_map, option_and_then, nat_le, nat_lt, max}
use Rattle.std.specs.Option.{option_map_or}
use Rattle.std.specs.Str.{bytes_eq}
use Rattle.std.specs.List.{AllByRecursion, list_any}
use Rattle.std.proofs.lemmas.Bool.{and_parts, leb-true, ltb-true}
use Rattle.bar_laws.proofs.Memory.AgreeLogs.{now, IsInTime, held-on}
use Rattle.bar_laws.proofs.Memory.InLife.{InLife, rounds-in-life}
use Rattle.bar_laws.proofs.Logs.{filter-same, no-value, parts-of, round-by}
use Rattle.bar_bytes.proofs.Options.{some-mapped}

-- ---- tests

-- both sides of a test are the same if the condition beside it holds
and_first : (a b c : Bool) → (c ≡ true → a ≡ b) → (a && c) ≡ (b && c)
and_first a b true f = ap (λ z. z && true) (f refl)
and_first true true false f = refl
and_first true false false f = refl
and_first false true false f = refl
and_first false false false f = refl

and_middle : (a b c d : Bool) → (a ≡ true → d ≡ true → b ≡ c) → ((a && b) && d) ≡ ((a && c) && d)
and_middle true b c d f = and_first (true && b) (true && c) d (λ h. ap (λ z. true && z) (f refl h))
and_middle false b c d f = refl

pub and_last : (a b c : Bool) → (a ≡ true → b ≡ c) → (a && b) ≡ (a && c)
and_last true b c f = f refl
and_last false b c f = refl

-- ---- bodies in time

asked-in-time : (me : Member) (k : Knowledge) (kind : XKind) (from r : ℕ) (seed : List ℕ) → may_ask me k kind from r seed ≡ true → this_round k ≤ r + request_deadline
asked-in-time me k Balanced from r seed h = leb-true (this_round k) (r + request_deadline) (and_parts (nat_le r (this_round k + 1)) (nat_le (this_round k) (r + request_deadline)) (and_parts _ _ h).1).1
asked-in-time me k Push from r seed h = leb-true (this_round k) (r + request_deadline) (and_parts (nat_le r (this_round k + 1)) (nat_le (this_round k) (r + request_deadline)) (and_parts _ _ h).1).1

pub row-in-time : (me : Member) (k : Knowledge) (from to : ℕ) (b : Body) → is_row_met me k from to b ≡ true → IsInTime me.session.shape.life (this_round k) b
row-in-time me k from to (Request r seed c) h = asked-in-time me k Balanced from r seed h
row-in-time me k from to (Response r hb) h = leb-true (this_round k) (r + answer_deadline) (and_parts _ _ h).1
row-in-time me k from to (Divulge r nonce ha) h = leb-true (this_round k) (r + answer_deadline) (and_parts _ _ h).1
row-in-time me k from to (Query r seed young aged) h = asked-in-time me k Push from r seed (and_parts _ _ h).1
row-in-time me k from to (Reply r want give junk) h = leb-true (this_round k) (r + answer_deadline) (and_parts _ _ h).1
row-in-time me k from to (Case c) h = leb-true (this_round k) (c.round + answer_deadline) (and_parts _ _ h).1
row-in-time me k from to (KeyReq r kind role) h = leb-true (this_round k) (r + me.session.shape.life) (and_parts _ _ h).1
row-in-time me k from to (Key g) h = leb-true (this_round k) (g.round + me.session.shape.life) (and_parts _ _ h).1
row-in-time me k from to _ h = tt

-- what is in time is of a recent round
in-time-recent : (life at : ℕ) (b : Body) (p : ℕ × XKind × Role) → 2 ≤ life → IsInTime life at b → part_of b ≡ Some p → at ≤ p.0 + life
in-time-recent life at (Request r seed c) p two h e = let same : r ≡ p.0 = (parts-of (r, Balanced, Initiator) p e).0 in omega arith
in-time-recent life at (Response r hb) p two h e = let same : r ≡ p.0 = (parts-of (r, Balanced, Responder) p e).0 in omega arith
in-time-recent life at (Divulge r nonce ha) p two h e = let same : r ≡ p.0 = (parts-of (r, Balanced, Initiator) p e).0 in omega arith
in-time-recent life at (Query r seed young aged) p two h e = let same : r ≡ p.0 = (parts-of (r, Push, Initiator) p e).0 in omega arith
in-time-recent life at (Reply r want give junk) p two h e = let same : r ≡ p.0 = (parts-of (r, Push, Responder) p e).0 in omega arith
in-time-recent life at (Case c) p two h e = let same : c.round ≡ p.0 = (parts-of (c.round, c.kind, c.role) p e).0 in omega arith
in-time-recent life at (KeyReq r kind role) p two h e = let same : r ≡ p.0 = (parts-of (r, kind, role) p e).0 in omega arith
in-time-recent life at (Key k) p two h e = let same : k.round ≡ p.0 = (parts-of (k.round, k.kind, k.role) p e).0 in omega arith
in-time-recent life at b p two h e = absurd (no-value (part_of b) p refl e)

-- two tests that are the same on a list are so inside a third
pub all-with : {X : Type 0} (f : X → Bool → Bool) (p q : X → Bool) (xs : List X) → AllByRecursion (λ x. p x ≡ q x) xs → AllByRecursion (λ x. f x (p x) ≡ f x (q x)) xs
all-with f p q [] h = tt
all-with f p q (x ∷ xs) h = (ap (f x) h.0, all-with f p q xs h.1)

young-rounds : (cap life : ℕ) (table : Table) (round : ℕ) (young aged : List UpdateId) → 2 ≤ life → offer_ok cap life table round young aged ≡ true → InLife life round young
young-rounds cap life table round young aged two h =
    let rounds : offer_rounds life round young aged ≡ true = (and_parts _ _ (and_parts _ _ h).0).0 in
    rounds-in-life life round (max 1 (round - 1)) round young (omega arith) (and_parts _ _ rounds).0

module _ (me : Member) (one two : Knowledge) (same : AgreesWith me one two) where
  pub said-same : (kind : Kind) (x : Exchange) (role : Role) → IsRecent me one x.round → has_said_of one kind x role ≡ has_said_of two kind x role
  said-same kinds.Case x role r = sym (some-mapped promised_by (one.said kinds.Case x role)) ∙ ap is_some (same.promises x role r) ∙ some-mapped promised_by (two.said kinds.Case x role)
  said-same kind x role r = ap is_some (same.said kind x role r)

  pub heard-same : (kind : Kind) (x : Exchange) (role : Role) → IsRecent me one x.round → has_heard_of one kind x role ≡ has_heard_of two kind x role
  heard-same kind x role r = ap is_some (same.heard kind x role r)

  -- ---- debts

  owed-same : (party : ℕ) (x : Exchange) → is_owed me one party x ≡ is_owed me two party x
  owed-same party x =
      let role : Role = role_of me x in
      let other : Role = other_role role in
      let due : Bool = eqb (partner_in me x) party && is_due me.session.shape.life x.round (this_round one) in
      let recent : due ≡ true → IsRecent me one x.round =
      (λ h. leb-true (this_round one) (x.round + me.session.shape.life) (and_parts _ _ (and_parts (eqb (partner_in me x) party) (is_due me.session.shape.life x.round (this_round one)) h).1).1)
      in
      and_last (due && has_said_of one kinds.Key x role) (not (has_heard_of one kinds.Key x other)) (not (has_heard_of two kinds.Key x other)) (λ h. ap not (heard-same kinds.Key x other (recent (and_parts _ _ h).0)))
      ∙ ap (λ z. z && not (has_heard_of two kinds.Key x other)) (and_last due (has_said_of one kinds.Key x role) (has_said_of two kinds.Key x role) (λ h. said-same kinds.Key x role (recent h)))
      ∙ ap (λ n. ((eqb (partner_in me x) party && is_due me.session.shape.life x.round n) && has_said_of two kinds.Key x role) && not (has_heard_of two kinds.Key x other)) (now me one two same)

  pub owes-same : (party : ℕ) → owes me one party ≡ owes me two party
  owes-same party = λ i. is_third me.session.shape && list_any (λ x. owed-same party x i) (same.opens i)

  -- ---- bodies and terms

  pub body-same : (kind : Kind) (x : Exchange) (role : Role) → IsRepeatable me one kind x.round → IsRecent me one x.round → body_on me one kind x role ≡ body_on me two kind x role
  body-same kind x role s r = λ i. option_map (λ d. d.message.body) (cond (same_role (role_of me x) role) (same.said kind x role s i) (same.heard kind x role r i))

  pub terms-same : (x : Exchange) → IsRecent me one x.round → terms_of me one x ≡ terms_of me two x
  terms-same x r = go x.kind
    where
      go : (k : XKind) → terms_by k me one x ≡ terms_by k me two x
      go Balanced = λ i. trade_terms (same.commits x r i) (option_and_then history_in (body-same kinds.Response x Responder r r i))
      go Push = λ i. offer_terms (option_and_then offer_in (body-same kinds.Query x Initiator r r i)) (option_and_then reply_in (body-same kinds.Reply x Responder r r i))

  -- what is offered and what is missing
  pub wanted-same : (round : ℕ) (young : List UpdateId) → this_round one ≤ round + answer_deadline → InLife me.session.shape.life round young → wanted_of me one young ≡ wanted_of me two young
  wanted-same round young h e =
      let p : UpdateId → Bool = holds one in
      let q : UpdateId → Bool = holds two in
      ap (take me.session.cap) (filter-same (λ u. not (p u)) (λ u. not (q u)) young (all-with (λ u b. not b) p q young (held-on me one two same round young h e)))

  -- ---- rows

  module _ (life : 2 ≤ me.session.shape.life) where
    -- a bound that holds on both sides or on neither
    bounded : (a b : Bool) (bound : ℕ) → (this_round one ≤ bound → a ≡ b) → (a && nat_le (this_round one) bound) ≡ (b && nat_le (this_round two) bound)
    bounded a b bound f = and_first a b (nat_le (this_round one) bound) (λ h. f (leb-true (this_round one) bound h)) ∙ ap (λ n. b && nat_le n bound) (now me one two same)

    soon-recent : (round : ℕ) → this_round one ≤ round + answer_deadline → IsRecent me one round
    soon-recent round h = omega arith

    recent-by : (r : ℕ) (k : XKind) (role : Role) (f t : ℕ) → this_round one ≤ r + me.session.shape.life → IsRecent me one (exchange_by r k role f t).round
    recent-by r k role f t h = subst (λ z. this_round one ≤ z + me.session.shape.life) (sym (round-by r k role f t)) h

    -- a request is at most a round early, and in time
    is_near : XKind → ℕ → ℕ → Bool
    is_near kind round n = nat_le round (n + 1) && nat_le n (round + deadline me.session (request_kind kind))

    near-soon : (kind : XKind) (round : ℕ) → is_near kind round (this_round one) ≡ true → this_round one ≤ round + answer_deadline
    unfolding is_near
    near-soon Balanced round h = let near : this_round one ≤ round + request_deadline = leb-true (this_round one) (round + request_deadline) (and_parts (nat_le round (this_round one + 1)) (nat_le (this_round one) (round + request_deadline)) h).1 in omega (arith, near)
    near-soon Push round h = let near : this_round one ≤ round + request_deadline = leb-true (this_round one) (round + request_deadline) (and_parts (nat_le round (this_round one + 1)) (nat_le (this_round one) (round + request_deadline)) h).1 in omega (arith, near)

    ask-same : (kind : XKind) (from round : ℕ) (seed : List ℕ) → may_ask me one kind from round seed ≡ may_ask me two kind from round seed
    unfolding is_near
    ask-same kind from round seed =
        and_first _ _ (is_near kind round (this_round one))
        (λ b i.
        ((is_seed me.session from round seed && eqb (partner_of me.session seed kind from) me.party) && nat_lt (same.requests kind round (soon-recent round (near-soon kind round b)) i) seats_a_round)
        && not (owes-same from i))
        ∙ ap (λ n. (((is_seed me.session from round seed && eqb (partner_of me.session seed kind from) me.party) && nat_lt (two.asked kind round) seats_a_round) && not (owes me two from)) && is_near kind round n)
        (now me one two same)

    row-same : (from to : ℕ) (b : Body) → is_row_met me one from to b ≡ is_row_met me two from to b
    row-same from to (Manifest r digests) = ap (λ n. nat_le r (n + 1) && is_alive me.session r n) (now me one two same)
    row-same from to (Block u block) =
        (λ i. ((has_digest (digest_of (same.table i) u) block && not (holds one u)) && is_alive me.session u.round (this_round one)))
        ∙ and_middle (has_digest (digest_of (table_of two) u) block) (not (holds one u)) (not (holds two u)) (is_alive me.session u.round (this_round one))
        (λ a b. ap (λ o. not (is_some o)) (same.blocks u (let m : this_round one < u.round + me.session.shape.life = ltb-true (this_round one) (u.round + me.session.shape.life) b in omega (arith, m))))
        ∙ ap (λ n. (has_digest (digest_of (table_of two) u) block && not (holds two u)) && is_alive me.session u.round n) (now me one two same)
    row-same from to (Evict r parties) = ap (λ n. nat_le r (n + 1)) (now me one two same)
    row-same from to (Request r seed c) = ask-same Balanced from r seed
    row-same from to (Response r hb) =
        let x : Exchange = exchange_by r Balanced Responder from to in
        bounded (has_said_of one kinds.Request x Initiator && is_within (table_of one) hb) (has_said_of two kinds.Request x Initiator && is_within (table_of two) hb) (r + answer_deadline)
        (λ b i. said-same kinds.Request x Initiator (soon-recent r b) i && is_within (same.table i) hb)
    row-same from to (Divulge r nonce ha) =
        let x : Exchange = exchange_by r Balanced Initiator from to in
        bounded ((meets_commitment me one x nonce ha && not (has_heard_of one kinds.Divulge x Initiator)) && is_within (table_of one) ha)
        ((meets_commitment me two x nonce ha && not (has_heard_of two kinds.Divulge x Initiator)) && is_within (table_of two) ha) (r + answer_deadline)
        (λ b i.
        (option_map_or (λ c. bytes_eq c (commitment_of me.session x nonce ha)) (option_and_then commitment_in (option_map (λ d. d.message.body) (same.heard kinds.Request x Initiator (soon-recent r b) i))) false
        && not (heard-same kinds.Divulge x Initiator (soon-recent r b) i))
        && is_within (same.table i) ha)
    row-same from to (Query r seed young aged) =
        (λ i.
        ((offer_ok me.session.cap me.session.shape.life (same.table i) r young aged && (is_within (same.table i) young && is_within (same.table i) aged)) && nat_lt 0 (length (wanted_of me one young)))
        && may_ask me one Push from r seed)
        ∙ and_middle (offer_ok me.session.cap me.session.shape.life (table_of two) r young aged && (is_within (table_of two) young && is_within (table_of two) aged)) (nat_lt 0 (length (wanted_of me one young)))
        (nat_lt 0 (length (wanted_of me two young))) (may_ask me one Push from r seed)
        (λ a b. ap (λ us. nat_lt 0 (length us)) (wanted-same r young (let n : this_round one ≤ r + request_deadline = asked-in-time me one Push from r seed b in omega (arith, n)) (young-rounds me.session.cap me.session.shape.life (table_of two) r young aged life (and_parts _ _ a).0)))
        ∙ ap (λ z. ((offer_ok me.session.cap me.session.shape.life (table_of two) r young aged && (is_within (table_of two) young && is_within (table_of two) aged)) && nat_lt 0 (length (wanted_of me two young))) && z) (ask-same Push from r seed)
    row-same from to (Reply r want give junk) =
        let x : Exchange = exchange_by r Push Responder from to in
        bounded (option_map_or (terms_ok me.session (table_of one) x) (terms_with (option_and_then offer_in (body_said one kinds.Query x Initiator)) want give junk) false)
        (option_map_or (terms_ok me.session (table_of two) x) (terms_with (option_and_then offer_in (body_said two kinds.Query x Initiator)) want give junk) false) (r + answer_deadline)
        (λ b i. option_map_or (terms_ok me.session (same.table i) x) (terms_with (option_and_then offer_in (option_map (λ d. d.message.body) (same.said kinds.Query x Initiator (soon-recent r b) i))) want give junk) false)
    row-same from to (Case c) =
        let x : Exchange = exchange_by c.round c.kind c.role from to in
        bounded ((has_said_of one kinds.Case x (other_role c.role) && are_terms c.terms (terms_of me one x)) && counts_ok me.session c) ((has_said_of two kinds.Case x (other_role c.role) && are_terms c.terms (terms_of me two x)) && counts_ok me.session c) (c.round + answer_deadline)
        (λ b.
        let r : IsRecent me one x.round = recent-by c.round c.kind c.role from to (soon-recent c.round b) in
        (λ i. (said-same kinds.Case x (other_role c.role) r i && are_terms c.terms (terms-same x r i)) && counts_ok me.session c))
    row-same from to (KeyReq r kind role) =
        let x : Exchange = exchange_by r kind role from to in
        bounded ((has_said_of one kinds.Case x (other_role role) && has_heard_of one kinds.Case x role) && not (has_heard_of one kinds.KeyReq x role)) ((has_said_of two kinds.Case x (other_role role) && has_heard_of two kinds.Case x role) && not (has_heard_of two kinds.KeyReq x role)) (r + me.session.shape.life)
        (λ b.
        let f : IsRecent me one x.round = recent-by r kind role from to b in
        (λ i. (said-same kinds.Case x (other_role role) f i && heard-same kinds.Case x role f i) && not (heard-same kinds.KeyReq x role f i)))
    row-same from to (Key k) =
        let x : Exchange = exchange_by k.round k.kind k.role from to in
        bounded (has_said_of one kinds.Case x (other_role k.role) && has_heard_of one kinds.Case x k.role) (has_said_of two kinds.Case x (other_role k.role) && has_heard_of two kinds.Case x k.role) (k.round + me.session.shape.life)
        (λ b.
        let f : IsRecent me one x.round = recent-by k.round k.kind k.role from to b in
        (λ i. said-same kinds.Case x (other_role k.role) f i && heard-same kinds.Case x k.role f i))
    row-same from to _ = refl

    -- ---- names and admission

    named-same : (m : Message) → is_signed m.body ≡ true → IsInTime me.session.shape.life (this_round one) m.body → is_named_again one (place_of m) m.body ≡ is_named_again two (place_of m) m.body
    named-same m signed time = go (part_of m.body) refl
      where
        alone : (b : Body) → is_named_again one None b ≡ is_named_again two None b
        alone (Manifest r ds) = same.listed r
        alone (Evict r ps) = same.evictions r
        alone _ = refl

        go : (o : Option (ℕ × XKind × Role)) → part_of m.body ≡ o → is_named_again one (option_map (place_by m.from m.to) o) m.body ≡ is_named_again two (option_map (place_by m.from m.to) o) m.body
        go None e = alone m.body
        go (Some p) e = heard-same (kind_of m.body) (exchange_by p.0 p.1 p.2 m.from m.to) p.2 (recent-by p.0 p.1 p.2 m.from m.to (in-time-recent me.session.shape.life (this_round one) m.body p life time e))

    again-same : (m : Message) → IsInTime me.session.shape.life (this_round one) m.body → is_heard_again one m ≡ is_heard_again two m
    again-same m time = and_last (is_signed m.body) (is_named_again one (place_of m) m.body) (is_named_again two (place_of m) m.body) (λ s. named-same m s time)

    pub admitted-same : (d : Datagram) → is_admitted me one d ≡ is_admitted me two d
    unfolding is_admitted
    admitted-same d =
        let m : Message = d.message in
        and_first ((((is_for me m && not (one.is_announced m.from)) && has_valid_signature me.session d) && not (is_heard_again one m))) ((((is_for me m && not (two.is_announced m.from)) && has_valid_signature me.session d) && not (is_heard_again two m)))
        (is_row_met me one m.from m.to m.body)
        (λ b. let time = row-in-time me one m.from m.to m.body b in (λ i. (((is_for me m && not (same.announced m.from i)) && has_valid_signature me.session d) && not (again-same m time i))))
        ∙ ap (λ z. (((is_for me m && not (two.is_announced m.from)) && has_valid_signature me.session d) && not (is_heard_again two m)) && z) (row-same m.from m.to m.body)

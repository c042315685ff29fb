-- A whole push: QUERY and REPLY, and what follows from both CASEs.
use Rattle.std.proofs.Common.{◌≡◌, ◌∙◌, ℕ, ◌-◌, true, false, List, [], ◌∷◌, length, refl, ap, subst}
use Rattle.std.specs.Prelude.{Some, None, is_some, nat_lt, option_and_then, option_map}
use Rattle.std.specs.Bool.{then_some}
use Rattle.std.specs.Option.{option_map_or}
use Rattle.std.proofs.lemmas.Bool.{and_from, and_parts, ltb-true}
use Rattle.bar_bytes.proofs.Tests.{eqb_refl}
use Rattle.bar_window.specs.declared.exchange.Exchange.{Exchange}
use Rattle.bar_window.specs.declared.exchange.Role.TheVariants.{Initiator, Responder}
use Rattle.bar_window.specs.declared.exchange.XKind.TheVariants.{Push}
use Rattle.bar_window.specs.declared.update.UpdateId.{UpdateId}
use Rattle.bar_window.specs.Terms.{Terms}
use Rattle.bar_terms.specs.Terms.{answer_ok, offer_ok, promise}
use Rattle.bar_wire.specs.Bodies.{offer_in, reply_in}
use Rattle.bar_wire.specs.Datagram.{Body, Datagram, Message, Reply}
use Rattle.bar_wire.specs.declared.kind.Kind.TheVariants as kinds
use Rattle.bar_rules.specs.Member.{Member}
use Rattle.bar_rules.specs.Values.{terms_ok}
use Rattle.bar_rules.specs.Peer.Admission.{is_admitted, terms_with}
use Rattle.bar_rules.specs.Peer.Choices.{given_of, wanted_of}
use Rattle.bar_rules.specs.Peer.Knowledge.{Knowledge, table_of, with_heard, with_said}
use Rattle.bar_rules.specs.Peer.Machine as machine
use Rattle.bar_rules.specs.Peer.Machine.{minds}
use Rattle.bar_rules.specs.Peer.Orders.{Answer, GiveCase, reply_body, reply_to}
use Rattle.bar_rules.specs.Peer.Signing.{signed}
use Rattle.bar_rules.specs.Peer.Terms.{first_on, offer_terms, terms_by, terms_of}
use Rattle.bar_rules.specs.Runs.{begun}
use Rattle.bar_laws.proofs.Logs.{is_of-own, own-answer}
use Rattle.bar_progress.specs.Pushing.{CanPush, PushesAreCompleted, offer_terms_then, push, query_of}
use Rattle.bar_progress.specs.Trading.{AreFair, IsComplete, IsFair, IsWelcome, Pair, Talk, hears, hears_all, one, take, two}
use Rattle.bar_progress.proofs.Closing.{talk-complete}
use Rattle.bar_progress.proofs.Ending.{HasCased, Side, other-told, own-told}
use Rattle.bar_progress.proofs.Pairs.{fair-one, fair-two, hears-one, hears-two, side-one, side-two, talk_of}
use Rattle.bar_progress.proofs.Saying.{Known, admits, case-by, case_as, not-yet, now-first, said_out, says, still-first, takes-new}
use Rattle.bar_progress.proofs.Talking.{PromisesEqual}

-- the terms by a QUERY and a REPLY
told-terms : (me : Member) (k : Knowledge) (x : Exchange) (young aged want give : List UpdateId) (junk : ℕ) (q a : Datagram) → x.kind ≡ Push
    → first_on me k kinds.Query x Initiator ≡ Some q → first_on me k kinds.Reply x Responder ≡ Some a → offer_in q.message.body ≡ Some (young, aged)
    → reply_in a.message.body ≡ Some (want, give, junk) → terms_of me k x ≡ offer_terms (Some (young, aged)) (Some (want, give, junk))
told-terms me k x young aged want give junk q a kind e f g h =
    ap (λ z. terms_by z me k x) kind
    ∙ ap (λ o. offer_terms (option_and_then offer_in (option_map (λ (d : Datagram). d.message.body) o))
    (option_and_then reply_in (option_map (λ (d : Datagram). d.message.body) (first_on me k kinds.Reply x Responder)))) e
    ∙ ap (λ o. offer_terms (offer_in q.message.body) (option_and_then reply_in (option_map (λ (d : Datagram). d.message.body) o))) f
    ∙ (λ i. offer_terms (g i) (h i))

-- ---- the exchange

module _ (p : Pair) (t : Talk) (young aged : List UpdateId) (c : CanPush p t young aged)
    (valid : offer_ok p.session.cap p.session.shape.life (table_of t.mine) p.round young aged ≡ true) where
  abbrev pub x : Exchange
  x = push p

  abbrev pub want : List UpdateId
  want = wanted_of (two p) t.theirs young

  abbrev pub give : List UpdateId
  give = given_of (two p) t.theirs young aged

  abbrev pub junk : ℕ
  junk = length want - length give

  abbrev pub terms : Terms
  terms = offer_terms_then p t young aged

  abbrev pub message : ℕ → ℕ → Body → Message
  message from to b = record { from = from; to = to; body = b }

  -- what is said, and what each knows after it
  abbrev pub d1 : Datagram
  d1 = query_of p c.seed c.signature young aged

  abbrev pub kb1 : Knowledge
  kb1 = with_heard (two p) d1 t.theirs

  abbrev pub d2 : Datagram
  d2 = signed (two p) kb1 (message p.second p.first (Reply p.round want give junk))

  abbrev pub kb2 : Knowledge
  kb2 = with_said (two p) d2 kb1

  abbrev pub d3 : Datagram
  d3 = signed (two p) kb2 (message p.second p.first (case_as (two p) kb2 x Responder terms))

  abbrev pub kb3 : Knowledge
  kb3 = with_said (two p) d3 kb2

  abbrev pub ka1 : Knowledge
  ka1 = with_heard (one p) d2 t.mine

  abbrev pub d4 : Datagram
  d4 = signed (one p) ka1 (message p.first p.second (case_as (one p) ka1 x Initiator terms))

  abbrev pub ka2 : Knowledge
  ka2 = with_said (one p) d4 ka1

  one_side : Side (one p) x Initiator Responder p.second
  one_side = side-one p Push

  two_side : Side (two p) x Responder Initiator p.first
  two_side = side-two p Push c.apart

  -- ---- QUERY

  wants : nat_lt 0 (length want) ≡ true
  unfolding is_admitted
  wants = (and_parts _ _ (and_parts _ _ (and_parts _ _ c.admitted).1).0).1

  heard1 : kb1.heard kinds.Query x Initiator ≡ Some d1
  heard1 = now-first d1 t.theirs.heard kinds.Query x Initiator (is_of-own d1.message p.round Push Initiator refl) (c.fresh_theirs.unheard kinds.Query Initiator)

  asked1 : first_on (two p) kb1 kinds.Query x Initiator ≡ Some d1
  asked1 = other-told (two p) kb1 kinds.Query x Responder Initiator p.first two_side ∙ heard1

  abbrev pub out1 : Known
  out1 = said_out (two p) (begun kb1) p.first (Reply p.round want give junk)

  answer1 : machine.perform (minds (two p)) (two p) (begun kb1) (Answer x) ≡ out1
  answer1 =
      says (two p) (begun kb1) kinds.Reply x Responder p.first _ (Reply p.round want give junk) two_side.role two_side.over (c.unsaid_theirs kinds.Reply)
      (ap (λ o. option_and_then (reply_to (two p) kb1 p.round) (option_and_then offer_in (option_map (λ (d : Datagram). d.message.body) o))) asked1
      ∙ ap (λ b. then_some b (reply_body (two p) kb1 p.round (young, aged))) wants)

  said1 : kb2.said kinds.Reply x Responder ≡ Some d2
  said1 = now-first d2 t.theirs.said kinds.Reply x Responder (is_of-own d2.message p.round Push Responder refl) (c.unsaid_theirs kinds.Reply)

  uncased1 : kb2.said kinds.Case x Responder ≡ None
  uncased1 = not-yet d2 t.theirs.said kinds.Case x Responder refl (c.unsaid_theirs kinds.Case)

  terms1 : terms_of (two p) kb2 x ≡ Some terms
  terms1 =
      told-terms (two p) kb2 x young aged want give junk d1 d2 refl (other-told (two p) kb2 kinds.Query x Responder Initiator p.first two_side ∙ heard1)
      (own-told (two p) kb2 kinds.Reply x Responder Initiator p.first two_side ∙ said1) refl refl

  give1 : machine.perform (minds (two p)) (two p) out1 (GiveCase x) ≡ said_out (two p) out1 p.first (case_as (two p) kb2 x Responder terms)
  give1 =
      says (two p) out1 kinds.Case x Responder p.first _ (case_as (two p) kb2 x Responder terms) two_side.role two_side.over uncased1
      (case-by (two p) kb2 x Responder (terms_of (two p) kb2 x) terms two_side.role terms1)

  pub step1 : IsWelcome (two p) t.theirs d1 → take (two p) t.theirs d1 ≡ said_out (two p) out1 p.first (case_as (two p) kb2 x Responder terms)
  step1 f =
      takes-new (two p) t.theirs d1 f.1 c.admitted
      ∙ ap (λ o. machine.perform (minds (two p)) (two p) o (GiveCase x)) answer1
      ∙ give1

  pub cased2 : HasCased (two p) kb3 x Responder Initiator p.first terms d3
  cased2 = record {
    trading = c.fresh_theirs.trading;
    answering = c.fresh_theirs.answering;
    keying = c.fresh_theirs.keying;
    terms_are =
        told-terms (two p) kb3 x young aged want give junk d1 d2 refl (other-told (two p) kb3 kinds.Query x Responder Initiator p.first two_side ∙ heard1)
        (own-told (two p) kb3 kinds.Reply x Responder Initiator p.first two_side ∙ still-first d3 d2 kb2.said kinds.Reply x Responder said1) refl refl;
    said = now-first d3 kb2.said kinds.Case x Responder (is_of-own d3.message p.round Push Responder refl) uncased1;
    size = refl;
    unkeyed = not-yet d3 kb2.said kinds.Key x Responder refl (not-yet d2 t.theirs.said kinds.Key x Responder refl (c.unsaid_theirs kinds.Key));
    no_case = not-yet d1 t.theirs.heard kinds.Case x Initiator refl (c.fresh_theirs.unheard kinds.Case Initiator);
    no_request = not-yet d1 t.theirs.heard kinds.KeyReq x Initiator refl (c.fresh_theirs.unheard kinds.KeyReq Initiator);
    no_key = not-yet d1 t.theirs.heard kinds.Key x Initiator refl (c.fresh_theirs.unheard kinds.Key Initiator);
  }

  -- ---- REPLY

  fits : answer_ok p.session.cap young aged want give junk ≡ true
  fits = own-answer (two p) t.theirs young aged want give junk refl (ltb-true 0 (length want) wants) refl refl

  row2 : option_map_or (terms_ok p.session (table_of t.mine) x) (terms_with (option_and_then offer_in (option_map (λ (d : Datagram). d.message.body) (t.mine.said kinds.Query x Initiator))) want give junk) false ≡ true
  row2 =
      ap (λ o. option_map_or (terms_ok p.session (table_of t.mine) x) (terms_with (option_and_then offer_in (option_map (λ (d : Datagram). d.message.body) o)) want give junk) false) c.asked
      ∙ and_from _ _ valid fits

  admitted2 : IsWelcome (one p) t.mine d2 → is_admitted (one p) t.mine d2 ≡ true
  unfolding is_admitted
  admitted2 f =
      admits _ _ _ _ _ (eqb_refl p.first) c.fresh_mine.trading f.0 (ap is_some (c.fresh_mine.unheard kinds.Reply Responder)) (and_from _ _ row2 c.fresh_mine.answering)

  heard2 : ka1.heard kinds.Reply x Responder ≡ Some d2
  heard2 = now-first d2 t.mine.heard kinds.Reply x Responder (is_of-own d2.message p.round Push Responder refl) (c.fresh_mine.unheard kinds.Reply Responder)

  terms2 : terms_of (one p) ka1 x ≡ Some terms
  terms2 =
      told-terms (one p) ka1 x young aged want give junk d1 d2 refl (own-told (one p) ka1 kinds.Query x Initiator Responder p.second one_side ∙ c.asked)
      (other-told (one p) ka1 kinds.Reply x Initiator Responder p.second one_side ∙ heard2) refl refl

  pub step2 : IsWelcome (one p) t.mine d2 → take (one p) t.mine d2 ≡ said_out (one p) (begun ka1) p.second (case_as (one p) ka1 x Initiator terms)
  step2 f =
      takes-new (one p) t.mine d2 f.1 (admitted2 f)
      ∙ says (one p) (begun ka1) kinds.Case x Initiator p.second _ (case_as (one p) ka1 x Initiator terms) one_side.role one_side.over c.unsaid_mine
      (case-by (one p) ka1 x Initiator (terms_of (one p) ka1 x) terms one_side.role terms2)

  pub cased1 : HasCased (one p) ka2 x Initiator Responder p.second terms d4
  cased1 = record {
    trading = c.fresh_mine.trading;
    answering = c.fresh_mine.answering;
    keying = c.fresh_mine.keying;
    terms_are =
        told-terms (one p) ka2 x young aged want give junk d1 d2 refl
        (own-told (one p) ka2 kinds.Query x Initiator Responder p.second one_side ∙ still-first d4 d1 t.mine.said kinds.Query x Initiator c.asked)
        (other-told (one p) ka2 kinds.Reply x Initiator Responder p.second one_side ∙ heard2) refl refl;
    said = now-first d4 t.mine.said kinds.Case x Initiator (is_of-own d4.message p.round Push Initiator refl) c.unsaid_mine;
    size = refl;
    unkeyed = not-yet d4 t.mine.said kinds.Key x Initiator refl c.unkeyed_mine;
    no_case = not-yet d2 t.mine.heard kinds.Case x Responder refl (c.fresh_mine.unheard kinds.Case Responder);
    no_request = not-yet d2 t.mine.heard kinds.KeyReq x Responder refl (c.fresh_mine.unheard kinds.KeyReq Responder);
    no_key = not-yet d2 t.mine.heard kinds.Key x Responder refl (c.fresh_mine.unheard kinds.Key Responder);
  }

  -- ---- the talk

  -- what both promise is equally long
  pub even : PromisesEqual → length (promise p.session.cap terms Initiator) ≡ length (promise p.session.cap terms Responder)
  even equal = equal p.session.cap terms (and_from _ _ (and_parts _ _ (and_parts _ _ valid).0).1 fits)

  pub complete : PromisesEqual → AreFair 8 p t → IsComplete p x terms (hears_all 8 p t)
  complete equal fair =
      let t0 : t ≡ talk_of false t.theirs t.mine ((p.second, d1) ∷ []) = ap (talk_of false t.theirs t.mine) c.way in
      let w1 : IsWelcome (two p) t.theirs d1 = fair-two p t.mine t.theirs d1 [] c.apart (subst (IsFair p) t0 fair.0) in
      let e1 : hears p t ≡ talk_of false kb3 t.mine ((p.first, d2) ∷ (p.first, d3) ∷ []) = ap (hears p) t0 ∙ hears-two p t.mine t.theirs d1 [] _ c.apart (step1 w1) in
      let w2 : IsWelcome (one p) t.mine d2 = fair-one p t.mine kb3 d2 ((p.first, d3) ∷ []) (subst (IsFair p) e1 fair.1.0) in
      let e2 : hears_all 2 p t ≡ talk_of false kb3 ka2 ((p.first, d3) ∷ (p.second, d4) ∷ []) =
      ap (hears p) e1 ∙ hears-one p t.mine kb3 d2 ((p.first, d3) ∷ []) _ (step2 w2) in
      talk-complete p false c.apart x two_side one_side terms kb3 ka2 _ d3.signature _ d4.signature cased2 cased1 (hears_all 2 p t) e2 fair.1.1 (even equal)

pub pushes-are-completed : PromisesEqual → PushesAreCompleted
pushes-are-completed equal p t young aged c valid fair = complete p t young aged c valid equal fair

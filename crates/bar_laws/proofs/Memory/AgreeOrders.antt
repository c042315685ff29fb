-- A log, and knowledge that agrees with it in what a peer keeps, carry out the same orders alike.
use Rattle.bar_wire.specs.Bodies.{offer_in}
use Rattle.bar_case.proofs.Blocks.{sealed_same}
use Rattle.bar_terms.specs.Table.{is_known, digest_of}
use Rattle.bar_terms.specs.Terms.{promised_updates, promised_junk}
use Rattle.bar_window.specs.Terms.{Terms}
use Rattle.bar_window.specs.declared.exchange.Exchange.{Exchange}
use Rattle.bar_window.specs.declared.exchange.Role.{Role}
use Rattle.bar_window.specs.declared.exchange.Role.TheVariants.{Initiator, Responder}
use Rattle.bar_window.specs.declared.exchange.XKind.{XKind}
use Rattle.bar_window.specs.declared.exchange.XKind.TheVariants.{Balanced, Push}
use Rattle.bar_window.specs.declared.update.UpdateId.{UpdateId}
use Rattle.bar_wire.specs.declared.kind.Kind.TheVariants as kinds
use Rattle.bar_wire.specs.declared.kind.Kind.{Kind}
use Rattle.bar_wire.specs.Datagram.{Message, Datagram, Body, Request, Response, Divulge, Query, Reply, Case, KeyReq, Evidence, is_of, kind_number, part_of, exchange_by, round_of, place_by}
use Rattle.bar_rules.specs.Runs.{Outcome, sending}
use Rattle.bar_rules.specs.Peer.Agreement.{told_for, AgreesWith, IsRecent}
use Rattle.bar_rules.specs.Peer.Choices.{young_of, aged_of, wanted_of, given_of}
use Rattle.bar_rules.specs.Peer.Exchanges.{request_kind, role_of, partner_in, answer_kind}
use Rattle.bar_rules.specs.Peer.Holdings.{block_of, history}
use Rattle.bar_rules.specs.Peer.Knowledge.{table_of, Knowledge, known, this_round, holds, with_said, request_deadline, answer_deadline}
use Rattle.bar_rules.specs.Peer.Log.{Log, Said, first_said, round_now}
use Rattle.bar_rules.specs.Peer.Machine.{logs, minds, message_to, send_if}
use Rattle.bar_rules.specs.Peer.Machine as machine
use Rattle.bar_rules.specs.Peer.Orders.{Order, Ask, Answer, Reveal, GiveCase, AskKey, GiveKey, Resend, Report, ask_body, answer_body, reply_to, reply_body, case_body, key_body}
use Rattle.bar_rules.specs.Peer.Terms.{terms_of, body_on}
use Rattle.bar_rules.specs.Member.{Session, Member}
use Rattle.bar_rules.specs.Secrets.{seed_of, nonce_of, commitment_of, briefcase_key, signature_of}
use Rattle.bar_rules.specs.Peer.Signing.{signed, seat_by}
use Rattle.bar_rules.specs.Values.{updates_from, first_round, message_bytes, unsigned}
use Rattle.bar_seal.specs.Leaves as leaves
use Rattle.std.proofs.Common.{◌≡◌, ℕ, ◌≤◌, ◌+◌, ◌-◌, Bool, true, false, List, [], ◌∷◌, ◌++◌, length, take, refl, sym, ap, ◌∙◌, subst, ◌&&◌, not, arith}
use Rattle.std.specs.Prelude.{Option, Some, None, option_map, option_and_then, unwrap_or, nat_lt, filter, max, ◌/◌}
use Rattle.std.specs.Bool.{then_some}
use Rattle.std.specs.List.{AllByRecursion}
use Rattle.bar_laws.proofs.Memory.AgreeLogs.{now, held-on, blocks-on, history-same, said-agree}
use Rattle.bar_laws.proofs.Memory.AgreeRows.{all-with, body-same, terms-same, wanted-same}
use Rattle.bar_laws.proofs.Memory.InLife.{InLife, BodyInLife, LogInLife, from-in-life, history-in-life, young-in-life, aged-in-life, wanted-in-life, given-in-life, promised-in-life, offered-in-life, terms-in-life}
use Rattle.bar_laws.proofs.Logs.{filter-same, some-equal, other-kind, parts-of, round-by}

-- ---- orders in time

-- for how many rounds what was said of a kind is represented in full, by the life of an update
abbrev pub told_by : ℕ → Kind → ℕ
told_by life kinds.Case = answer_deadline
told_by life _ = life

told-is : (s : Session) (kind : Kind) → told_by s.shape.life kind ≡ told_for s kind
told-is s kinds.Case = refl
told-is s _ = refl

told-in-life : (life : ℕ) (kind : Kind) → 2 ≤ life → told_by life kind ≤ life
told-in-life life kinds.Case h = h
told-in-life life _ h = omega arith

-- the first message of a side is represented for as long as its exchange may be asked about
told-request : (life : ℕ) (kind : XKind) → told_by life (request_kind kind) ≡ life
told-request life Balanced = refl
told-request life Push = refl

told-answer : (life : ℕ) (kind : XKind) → told_by life (answer_kind kind) ≡ life
told-answer life Balanced = refl
told-answer life Push = refl

-- the current round is within the bound of an order
abbrev pub IsTimely : ℕ → ℕ → Order → Type 0
IsTimely life at (Ask x) = at ≤ x.round + 1
IsTimely life at (Answer x) = at ≤ x.round + request_deadline
IsTimely life at (Reveal x) = at ≤ x.round + life
IsTimely life at (GiveCase x) = at ≤ x.round + answer_deadline
IsTimely life at (AskKey x) = Unit {0}
IsTimely life at (GiveKey x) = at ≤ x.round + life
IsTimely life at (Resend kind x) = at ≤ x.round + told_by life kind
IsTimely life at (Report q) = Unit {0}

-- a message that may be said of an exchange: it is of its round, a REQUEST in time, and its windows are near that round
record IsSayable (life at : ℕ) (x : Exchange) (b : Body) : Type 0 where
  part : (p : ℕ × XKind × Role) → part_of b ≡ Some p → p.0 ≡ x.round
  soon : kind_number b ≡ 3 → at ≤ x.round + answer_deadline
  lives : BodyInLife life b

-- The outcomes agree: the log and the knowledge agree and are of this round, and the same was sent.
pub record IsAlike (me : Member) (at : ℕ) (a : Outcome Log) (b : Outcome Knowledge) : Type 0 where
  pub agree : AgreesWith me (known me a.state) b.state
  pub moment : round_now a.state ≡ at
  pub sends : a.sends ≡ b.sends
  pub contents : a.contents ≡ b.contents
  pub lives : LogInLife me.session.shape.life a.state

-- ---- the messages of orders

module _ (me : Member) (one two : Knowledge) (same : AgreesWith me one two) where
  pub young-same : (round : ℕ) → 2 ≤ me.session.shape.life → this_round one ≤ round + answer_deadline → young_of me one round ≡ young_of me two round
  young-same round life h =
      let us : List UpdateId = updates_from me.session (max 1 (round - 1)) round in
      ap (take me.session.cap) (filter-same (holds one) (holds two) us (held-on me one two same round us h (from-in-life me.session me.session.shape.life round (max 1 (round - 1)) round (omega arith))))

  aged-same : (round : ℕ) → this_round one ≤ round + answer_deadline → aged_of me one round ≡ aged_of me two round
  aged-same round h =
      let us : List UpdateId = updates_from me.session (first_round me.session round) (round - me.session.shape.life / 2) in
      let held = held-on me one two same round us h (from-in-life me.session me.session.shape.life round (first_round me.session round) (round - me.session.shape.life / 2) (omega arith)) in
      ap (take me.session.cap)
      (filter-same (λ u. not (holds one u) && is_known (digest_of (table_of one) u)) (λ u. not (holds two u) && is_known (digest_of (table_of one) u)) us
      (all-with (λ u b. not b && is_known (digest_of (table_of one) u)) (holds one) (holds two) us held)
      ∙ ap (λ t. filter (λ u. not (holds two u) && is_known (digest_of t u)) us) same.table)

  given-same : (round : ℕ) (young aged : List UpdateId) → this_round one ≤ round + answer_deadline → InLife me.session.shape.life round young → InLife me.session.shape.life round aged → given_of me one young aged ≡ given_of me two young aged
  given-same round young aged h y o =
      λ i. take (length (wanted-same me one two same round young h y i)) (filter-same (holds one) (holds two) aged (held-on me one two same round aged h o) i)

  ask-same : (x : Exchange) (k : XKind) → 2 ≤ me.session.shape.life → this_round one ≤ x.round + answer_deadline → ask_body me one x k ≡ ask_body me two x k
  ask-same x Balanced life h = ap (λ us. Request x.round (seed_of me x.round) (commitment_of me.session x (nonce_of me x) us)) (history-same me one two same x.round h)
  ask-same x Push life h = λ i. Query x.round (seed_of me x.round) (young-same x.round life h i) (aged-same x.round h i)

  reply-same : (round : ℕ) (q : List UpdateId × List UpdateId) → this_round one ≤ round + answer_deadline → InLife me.session.shape.life round q.0 → InLife me.session.shape.life round q.1 → reply_to me one round q ≡ reply_to me two round q
  reply-same round q h y o =
      let w : wanted_of me one q.0 ≡ wanted_of me two q.0 = wanted-same me one two same round q.0 h y in
      let g : given_of me one q.0 q.1 ≡ given_of me two q.0 q.1 = given-same round q.0 q.1 h y o in
      (λ i. then_some (nat_lt 0 (length (w i))) (Reply round (w i) (g i) (length (w i) - length (g i))))

  -- a message is signed with one leaf
  pub signed-same : (m : Message) → ((p : ℕ × XKind × Role) → part_of m.body ≡ Some p → IsRecent me one p.0) → signed me one m ≡ signed me two m
  signed-same m r = ap (λ n. record { message = m; signature = signature_of me (leaves.leaf_of m.body n) (message_bytes me.session m) }) (go (part_of m.body) refl)
    where
      go : (o : Option (ℕ × XKind × Role)) → part_of m.body ≡ o → seat_by one (option_map (place_by m.from m.to) o) ≡ seat_by two (option_map (place_by m.from m.to) o)
      go None e = refl
      go (Some p) e =
          let x : Exchange = exchange_by p.0 p.1 p.2 m.from m.to in
          ap (λ o. unwrap_or o 0) (same.seats x (subst (λ z. this_round one ≤ z + me.session.shape.life) (sym (round-by p.0 p.1 p.2 m.from m.to)) (r p e)))

module _ (me : Member) (one : Log) (two : Knowledge) (same : AgreesWith me (known me one) two) where
  answer-same : (x : Exchange) (k : XKind) → LogInLife me.session.shape.life one → IsRecent me (known me one) x.round → this_round (known me one) ≤ x.round + answer_deadline → answer_body me (known me one) x k ≡ answer_body me two x k
  answer-same x Balanced l r h = ap (λ us. Some (Response x.round us)) (history-same me (known me one) two same x.round h)
  answer-same x Push l r h = go (option_and_then offer_in (body_on me (known me one) kinds.Query x Initiator)) refl ∙ ap (λ o. option_and_then (reply_to me two x.round) (option_and_then offer_in o)) (body-same me (known me one) two same kinds.Query x Initiator r r)
    where
      go : (o : Option (List UpdateId × List UpdateId)) → option_and_then offer_in (body_on me (known me one) kinds.Query x Initiator) ≡ o → option_and_then (reply_to me (known me one) x.round) o ≡ option_and_then (reply_to me two x.round) (option_and_then offer_in (body_on me (known me one) kinds.Query x Initiator))
      go None e = ap (λ o. option_and_then (reply_to me two x.round) o) (sym e)
      go (Some q) e =
          let w = offered-in-life me me.session.shape.life one kinds.Query x Initiator q l e in
          reply-same me (known me one) two same x.round q h w.0 w.1 ∙ ap (λ o. option_and_then (reply_to me two x.round) o) (sym e)

  pub case-same : (x : Exchange) (t : Terms) → LogInLife me.session.shape.life one → terms_of me (known me one) x ≡ Some t → this_round (known me one) ≤ x.round + answer_deadline → case_body me (known me one) x t ≡ case_body me two x t
  case-same x t l e h =
      let role : Role = role_of me x in
      let cap : ℕ = me.session.cap in
      let blocks = blocks-on me (known me one) two same x.round (promised_updates cap t role) h (promised-in-life me.session.shape.life x.round cap t role (terms-in-life me one x t l e)) in
      ap (λ cipher. Case (record { round = x.round; kind = x.kind; role = role; updates = length (promised_updates cap t role); junk = promised_junk t role; terms = t; cipher = cipher }))
      (sealed_same me.session.shape.id x cap t role (briefcase_key me x role) (known me one).block two.block blocks)

  -- the message of GiveCase
  cases-same : (x : Exchange) → LogInLife me.session.shape.life one → IsRecent me (known me one) x.round → this_round (known me one) ≤ x.round + answer_deadline → option_map (case_body me (known me one) x) (terms_of me (known me one) x) ≡ option_map (case_body me two x) (terms_of me two x)
  cases-same x l r h = go (terms_of me (known me one) x) refl ∙ ap (λ o. option_map (case_body me two x) o) (terms-same me (known me one) two same x r)
    where
      go : (o : Option Terms) → terms_of me (known me one) x ≡ o → option_map (case_body me (known me one) x) o ≡ option_map (case_body me two x) (terms_of me (known me one) x)
      go None e = ap (λ o. option_map (case_body me two x) o) (sym e)
      go (Some t) e = ap Some (case-same x t l e h) ∙ ap (λ o. option_map (case_body me two x) o) (sym e)

-- ---- carrying out orders

sending-alike : (me : Member) (at : ℕ) (a : Outcome Log) (b : Outcome Knowledge) (to : ℕ) (d : Datagram) → IsAlike me at a b → IsAlike me at (sending a to d) (sending b to d)
sending-alike me at a b to d w = record { agree = w.agree; moment = w.moment; sends = ap (λ s. s ++ (to, d) ∷ []) w.sends; contents = w.contents; lives = w.lives }

send_if-alike : (me : Member) (at : ℕ) (a : Outcome Log) (b : Outcome Knowledge) (to : ℕ) (o p : Option Body) → IsAlike me at a b → o ≡ p → IsAlike me at (send_if me a to o) (send_if me b to p)
send_if-alike me at a b to o p w e = subst (λ z. IsAlike me at (send_if me a to o) (send_if me b to z)) e (go o)
  where
    go : (o : Option Body) → IsAlike me at (send_if me a to o) (send_if me b to o)
    go None = w
    go (Some body) = sending-alike me at a b to (unsigned (record { from = me.party; to = to; body = body })) w

-- a message that is new to both
new-alike : (me : Member) (at : ℕ) (a : Outcome Log) (b : Outcome Knowledge) (x : Exchange) (o : Option Body) → 2 ≤ me.session.shape.life → IsAlike me at a b → at ≤ x.round + me.session.shape.life
    → ((body : Body) → o ≡ Some body → IsSayable me.session.shape.life at x body) → IsAlike me at (machine.say_new (logs me) me a x o) (machine.say_new (minds me) me b x o)
new-alike me at a b x None life w recent f = w
new-alike me at a b x (Some body) life w recent f =
    let may : IsSayable me.session.shape.life at x body = f body refl in
    let m : Message = message_to me x body in
    let d : Datagram = signed me (known me a.state) m in
    let one : d ≡ signed me b.state m =
    signed-same me (known me a.state) b.state w.agree m (λ p e. (let here : at ≤ p.0 + me.session.shape.life = subst (λ z. at ≤ z + me.session.shape.life) (sym (may.part p e)) recent in subst (λ n. n ≤ p.0 + me.session.shape.life) (sym w.moment) here))
    in
    let soon : kind_number body ≡ 3 → round_now a.state ≤ round_of body + 2 = (λ k. request-soon me at a x body w.moment may k) in
    record {
      agree = subst (λ z. AgreesWith me (known me (Said d ∷ a.state)) (with_said me z b.state)) one (said-agree me a.state b.state w.agree d soon);
      moment = (let still : round_now (Said d ∷ a.state) ≡ round_now a.state = omega arith in still ∙ w.moment);
      contents = w.contents;
      sends = (λ i. w.sends i ++ (partner_in me x, one i) ∷ []);
      lives = (may.lives, w.lives);
    }
  where
    request-soon : (me : Member) (at : ℕ) (a : Outcome Log) (x : Exchange) (body : Body) → round_now a.state ≡ at → IsSayable me.session.shape.life at x body → kind_number body ≡ 3 → round_now a.state ≤ round_of body + 2
    request-soon me at a x (Request r seed c) now may k = (let here : r ≡ x.round = may.part (r, Balanced, Initiator) refl in let h : at ≤ x.round + answer_deadline = may.soon refl in let n : round_now a.state ≡ at = now in omega (arith, here, h, n))
    request-soon me at a x b now may k = absurd (other-kind b kinds.Request refl k)

say-alike : (me : Member) (at : ℕ) (a : Outcome Log) (b : Outcome Knowledge) (kind : Kind) (x : Exchange) (o p : Option Body) → 2 ≤ me.session.shape.life → IsAlike me at a b → at ≤ x.round + told_by me.session.shape.life kind → o ≡ p
    → ((body : Body) → o ≡ Some body → IsSayable me.session.shape.life at x body) → IsAlike me at (machine.say (logs me) me a kind x o) (machine.say (minds me) me b kind x p)
say-alike me at a b kind x o p life w recent e f =
    subst (λ z. IsAlike me at (machine.say (logs me) me a kind x o) (machine.say_or_repeat (minds me) me b x z p)) (w.agree.said kind x (role_of me x) (subst (λ t. round_now a.state ≤ x.round + t) (told-is me.session kind) (subst (λ n. n ≤ x.round + told_by me.session.shape.life kind) (sym w.moment) recent)))
    (subst (λ z. IsAlike me at (machine.say (logs me) me a kind x o) (machine.say_or_repeat (minds me) me b x (first_said (is_of kind x (role_of me x)) a.state) z)) e (go (first_said (is_of kind x (role_of me x)) a.state)))
  where
    go : (s : Option Datagram) → IsAlike me at (machine.say_or_repeat (logs me) me a x s o) (machine.say_or_repeat (minds me) me b x s o)
    go (Some d) = sending-alike me at a b (partner_in me x) d w
    go None = new-alike me at a b x o life w (let few : told_by me.session.shape.life kind ≤ me.session.shape.life = told-in-life me.session.shape.life kind life in omega (arith, recent, few)) f

-- ---- what may be said

ask-sayable : (me : Member) (at : ℕ) (log : Log) (x : Exchange) (k : XKind) (b : Body) → 2 ≤ me.session.shape.life → at ≤ x.round + 1 → ask_body me (known me log) x k ≡ b → IsSayable me.session.shape.life at x b
ask-sayable me at log x Balanced b life h e =
    subst (λ z. IsSayable me.session.shape.life at x z) e (record { part = λ p q. sym (parts-of (x.round, Balanced, Initiator) p q).0; soon = λ k. omega (arith, h); lives = tt })
ask-sayable me at log x Push b life h e =
    subst (λ z. IsSayable me.session.shape.life at x z) e (record { part = λ p q. sym (parts-of (x.round, Push, Initiator) p q).0; soon = λ k. cc; lives = (young-in-life me log x.round life, aged-in-life me log x.round) })

answer-sayable : (me : Member) (at : ℕ) (log : Log) (x : Exchange) (k : XKind) (b : Body) → LogInLife me.session.shape.life log → answer_body me (known me log) x k ≡ Some b → IsSayable me.session.shape.life at x b
answer-sayable me at log x Balanced b l e =
    let same : Response x.round (history me.session (block_of me.session log) x.round) ≡ b = cc in
    subst (λ z. IsSayable me.session.shape.life at x z) same (record { part = λ p q. sym (parts-of (x.round, Balanced, Responder) p q).0; soon = λ k. cc; lives = history-in-life me log x.round })
answer-sayable me at log x Push b l e = go (option_and_then offer_in (body_on me (known me log) kinds.Query x Initiator)) refl e
  where
    reply : (q : List UpdateId × List UpdateId) → InLife me.session.shape.life x.round q.0 × InLife me.session.shape.life x.round q.1 → (c : Bool) → then_some c (reply_body me (known me log) x.round q) ≡ Some b → IsSayable me.session.shape.life at x b
    reply q w false e = cc
    reply q w true e =
        let same : reply_body me (known me log) x.round q ≡ b = cc in
        subst (λ z. IsSayable me.session.shape.life at x z) same
        (record { part = λ p z. sym (parts-of (x.round, Push, Responder) p z).0; soon = λ k. cc; lives = (wanted-in-life me log me.session.shape.life x.round q.0 w.0, given-in-life me log me.session.shape.life x.round q.0 q.1 w.1) })

    go : (o : Option (List UpdateId × List UpdateId)) → option_and_then offer_in (body_on me (known me log) kinds.Query x Initiator) ≡ o → option_and_then (reply_to me (known me log) x.round) o ≡ Some b → IsSayable me.session.shape.life at x b
    go None f e = cc
    go (Some q) f e = reply q (offered-in-life me me.session.shape.life log kinds.Query x Initiator q l f) (nat_lt 0 (length (wanted_of me (known me log) q.0))) e

case-sayable : (me : Member) (at : ℕ) (log : Log) (x : Exchange) (b : Body) → option_map (case_body me (known me log) x) (terms_of me (known me log) x) ≡ Some b → IsSayable me.session.shape.life at x b
case-sayable me at log x b e = go (terms_of me (known me log) x) e
  where
    go : (o : Option Terms) → option_map (case_body me (known me log) x) o ≡ Some b → IsSayable me.session.shape.life at x b
    go None e = cc
    go (Some t) e =
        let same : case_body me (known me log) x t ≡ b = cc in
        subst (λ z. IsSayable me.session.shape.life at x z) same (record { part = λ p q. sym (parts-of (x.round, x.kind, role_of me x) p q).0; soon = λ k. cc; lives = tt })

key-sayable : (me : Member) (at : ℕ) (x : Exchange) (b : Body) → key_body me x ≡ b → IsSayable me.session.shape.life at x b
key-sayable me at x b e = subst (λ z. IsSayable me.session.shape.life at x z) e (record { part = λ p q. sym (parts-of (x.round, x.kind, role_of me x) p q).0; soon = λ k. cc; lives = tt })

-- ---- orders

pub perform-alike : (me : Member) (at : ℕ) (a : Outcome Log) (b : Outcome Knowledge) (o : Order) → 2 ≤ me.session.shape.life → IsAlike me at a b → IsTimely me.session.shape.life at o → IsAlike me at (machine.perform (logs me) me a o) (machine.perform (minds me) me b o)
perform-alike me at a b (Ask x) life w h =
    say-alike me at a b (request_kind x.kind) x _ _ life w (let told = told-request me.session.shape.life x.kind in omega (arith, h, told)) (ap Some (ask-same me (known me a.state) b.state w.agree x x.kind life (let n : round_now a.state ≡ at = w.moment in omega (arith, n, h))))
    (λ body e. ask-sayable me at a.state x x.kind body life h (some-equal _ body e))
perform-alike me at a b (Answer x) life w h =
    say-alike me at a b (answer_kind x.kind) x _ _ life w (let told = told-answer me.session.shape.life x.kind in omega (arith, h, told))
    (answer-same me a.state b.state w.agree x x.kind w.lives (let n : round_now a.state ≡ at = w.moment in omega (arith, n, h)) (let n : round_now a.state ≡ at = w.moment in omega (arith, n, h)))
    (λ body e. answer-sayable me at a.state x x.kind body w.lives e)
perform-alike me at a b (GiveCase x) life w h =
    say-alike me at a b kinds.Case x _ _ life w (omega (arith, h))
    (cases-same me a.state b.state w.agree x w.lives (let n : round_now a.state ≡ at = w.moment in omega (arith, n, h)) (let n : round_now a.state ≡ at = w.moment in omega (arith, n, h)))
    (λ body e. case-sayable me at a.state x body e)
perform-alike me at a b (GiveKey x) life w h = say-alike me at a b kinds.Key x (Some (key_body me x)) (Some (key_body me x)) life w h refl (λ body e. key-sayable me at x body (some-equal _ body e))
perform-alike me at a b (Resend kind x) life w h = say-alike me at a b kind x None None life w h refl (λ body e. cc)
perform-alike me at a b (Reveal x) life w h =
    send_if-alike me at a b (partner_in me x) _ _ w
    (ap (λ o. option_map (λ (r : List ℕ × List UpdateId). Divulge x.round r.0 r.1) o) (w.agree.commits x (subst (λ n. n ≤ x.round + me.session.shape.life) (sym w.moment) h)))
perform-alike me at a b (AskKey x) life w h = send_if-alike me at a b (partner_in me x) (Some (KeyReq x.round x.kind (role_of me x))) (Some (KeyReq x.round x.kind (role_of me x))) w refl
perform-alike me at a b (Report q) life w h = send_if-alike me at a b 0 _ _ w (ap (λ o. option_map Evidence o) (w.agree.evidence q))

pub perform_all-alike : (me : Member) (at : ℕ) (os : List Order) (a : Outcome Log) (b : Outcome Knowledge) → 2 ≤ me.session.shape.life → IsAlike me at a b → AllByRecursion (IsTimely me.session.shape.life at) os → IsAlike me at (machine.perform_all (logs me) me a os) (machine.perform_all (minds me) me b os)
perform_all-alike me at [] a b life w h = w
perform_all-alike me at (o ∷ os) a b life w h = perform_all-alike me at os (machine.perform (logs me) me a o) (machine.perform (minds me) me b o) life (perform-alike me at a b o life w h.0) h.1

-- The CASE of an exchange among what a tick sends.
use Rattle.bar_wire.specs.Bodies.{history_in, reply_in}
use Rattle.bar_wire.specs.Datagram.{Datagram, Body, Divulge, KeyReq, is_of}
use Rattle.bar_wire.specs.Grammar.{is_third}
use Rattle.bar_wire.specs.Inputs as event
use Rattle.bar_wire.specs.declared.kind.Kind.TheVariants as kinds
use Rattle.bar_wire.specs.declared.kind.Kind.{Kind}
use Rattle.bar_window.specs.Exchange.{other_role, same_exchange}
use Rattle.bar_window.specs.Terms.{Terms}
use Rattle.bar_window.specs.declared.exchange.Exchange.{Exchange}
use Rattle.bar_window.specs.declared.exchange.Role.{Role}
use Rattle.bar_window.specs.declared.exchange.Role.TheVariants.{Initiator, Responder}
use Rattle.bar_window.specs.declared.exchange.XKind.{XKind}
use Rattle.bar_window.specs.declared.exchange.XKind.TheVariants.{Balanced, Push}
use Rattle.bar_window.specs.declared.update.UpdateId.{UpdateId}
use Rattle.bar_window.proofs.Exchanges.{same_exchange-is, same_exchange_refl}
use Rattle.bar_session.specs.Time.{last_tick, slot_after}
use Rattle.bar_rules.specs.Runs.{begun}
use Rattle.bar_rules.specs.Member.{Member, IsMember}
use Rattle.bar_rules.specs.Peer.Exchanges.{role_of, partner_in, request_kind, answer_kind, precedes, IsRising, exchanges_said}
use Rattle.bar_rules.specs.Peer.Knowledge.{Knowledge, known, this_round, is_in_time, has_heard_of, has_said_of}
use Rattle.bar_rules.specs.Peer.Log.{Log, Ticked, first_heard, first_said, has_heard, is_announced, names_party, round_now, ticks}
use Rattle.bar_rules.specs.Peer.Machine.{send_if, message_to}
use Rattle.bar_rules.specs.Peer.Machine as machine
use Rattle.bar_rules.specs.Peer.Orders.{Order, Ask, AskKey, Resend, Report}
use Rattle.bar_rules.specs.Peer.Replies.{orders_when}
use Rattle.bar_rules.specs.Peer.Rules.{IsObedient}
use Rattle.bar_rules.specs.Peer.Run.{perform_all, say_or_repeat, take_input, step}
use Rattle.bar_rules.specs.Peer.Terms.{first_on, body_on, terms_of, terms_by}
use Rattle.bar_rules.specs.Peer.Ticks.{is_initiator, reveals, lacks_answer, lacks_partners_case, lacks_keys, lacks_case, lacks_key, case_again, again, asking_partner, new_requests, reports, orders_at_tick}
use Rattle.bar_rules.specs.Values.{unsigned}
use Rattle.bar_rules.proofs.Inserted.{precedes-differs}
use Rattle.std.proofs.Common.{◌≡◌, ℕ, ◌+◌, ◌<◌, ◌≤◌, Bool, true, false, List, [], ◌∷◌, ◌++◌, refl, sym, ap, ◌∙◌, subst, ◌&&◌, ◌||◌, not, eqb, cond, arith, append_assoc}
use Rattle.std.specs.Prelude.{Option, Some, None, is_some, option_map, option_and_then, nat_le, filter, flat_map, map}
use Rattle.std.specs.List.{AllByRecursion, list_any}
use Rattle.std.proofs.lemmas.Bool.{and_parts, and_from, both_ways, cond-true, leb-true, le-leb, lt-leb}
use Rattle.std.proofs.lemmas.List.Concat.{flat_map-append}
use Rattle.bar_bytes.proofs.Options.{or-none}
use Rattle.bar_laws.specs.Again.{IsSaidCase, has_partners_case, is_waiting, divulges_by, divulge_of, key_requests, IsNoCase, SendsCase, SaysCasesAgain}
use Rattle.bar_laws.proofs.Logs.{all-both, all-flat, all-flat-map, all-kept, all-map, all-of, when-all, again-all, tick-all, option_or-some, any-said, any-kept, exchange-is, first_said-was, said-in, said-case, trade-both, offer-both}
use Rattle.bar_laws.proofs.Memory.{opened-rising}
use Rattle.bar_laws.proofs.Repeating.Sends.{Repeats, still-sends}
use Rattle.bar_laws.proofs.Repeating.OtherCases.{IsApart, sends-none, again-apart}

-- ---- an open exchange occurs once

kept-rising : (p : Exchange → Bool) (xs : List Exchange) → IsRising xs → IsRising (filter p xs)
kept-rising p [] h = h
kept-rising p (x ∷ xs) h = go (p x) (kept-rising p xs h.1)
  where
    go : (b : Bool) → IsRising (filter p xs) → IsRising (cond b (x ∷ filter p xs) (filter p xs))
    go true r = (all-kept (λ y. precedes x y ≡ true) p xs h.0, r)
    go false r = r

-- An exchange of a rising list, with those before it and after it.
record StandsOnce (x : Exchange) (xs : List Exchange) : Type 0 where
  before : List Exchange
  after : List Exchange
  split : xs ≡ before ++ x ∷ after
  apart_before : AllByRecursion (λ y. same_exchange x y ≡ false) before
  apart_after : AllByRecursion (λ y. same_exchange x y ≡ false) after

stands-once : (x : Exchange) (xs : List Exchange) → IsRising xs → list_any (same_exchange x) xs ≡ true → StandsOnce x xs
stands-once x [] r e = cc
stands-once x (y ∷ ys) r e = go (same_exchange x y) refl (stands-once x ys r.1)
  where
    go : (b : Bool) → same_exchange x y ≡ b → (list_any (same_exchange x) ys ≡ true → StandsOnce x ys) → StandsOnce x (y ∷ ys)
    go true s rest =
        let one : x ≡ y = same_exchange-is x y s in
        record {
          before = [];
          after = ys;
          split = ap (λ z. z ∷ ys) (sym one);
          apart_before = tt;
          apart_after = all-map (λ z. precedes y z ≡ true) (λ z. same_exchange x z ≡ false) ys (λ z p. subst (λ w. same_exchange w z ≡ false) (sym one) (precedes-differs y z p)) r.0;
        }
    go false s rest =
        let w : StandsOnce x ys = rest (subst (λ b. (b || list_any (same_exchange x) ys) ≡ true) s e) in
        record { before = y ∷ w.before; after = w.after; split = ap (λ l. y ∷ l) w.split; apart_before = (s, w.apart_before); apart_after = w.apart_after }

open-once : (me : Member) (log : Log) (x : Exchange) (d : Datagram) → first_said (is_of kinds.Case x (role_of me x)) log ≡ Some d → round_now log ≤ x.round + me.session.shape.life → StandsOnce x (known me log).opens
open-once me log x d e recent =
    let was = first_said-was (is_of kinds.Case x (role_of me x)) log d e in
    stands-once x (known me log).opens (kept-rising (λ y. nat_le (round_now log) (y.round + me.session.shape.life)) (exchanges_said log) (opened-rising log))
    (any-kept (same_exchange x) (λ y. nat_le (round_now log) (y.round + me.session.shape.life)) (exchanges_said log)
    (λ y s. subst (λ z. nat_le (round_now log) (z.round + me.session.shape.life) ≡ true) (same_exchange-is x y s) (le-leb (round_now log) (x.round + me.session.shape.life) recent))
    ∙ any-said (same_exchange x) log d x (said-in log d was.0) (exchange-is kinds.Case x (role_of me x) d.message was.1) (same_exchange_refl x))

-- ---- a member that has said its CASE has its answer, and what the exchange was begun with

answer-part : {A : Type 0} (f : Body → Option A) (me : Member) (log : Log) (kind : Kind) (x : Exchange) (c : A) → role_of me x ≡ Initiator → option_and_then f (body_on me (known me log) kind x Responder) ≡ Some c
    → has_heard (is_of kind x Responder) log ≡ true
answer-part f me log kind x c side e = go (first_heard (is_of kind x Responder) log) (subst (λ o. option_and_then f (option_map (λ d. d.message.body) o) ≡ Some c) first e)
  where
    first : first_on me (known me log) kind x Responder ≡ first_heard (is_of kind x Responder) log
    first = rw side refl

    go : (o : Option Datagram) → option_and_then f (option_map (λ d. d.message.body) o) ≡ Some c → is_some o ≡ true
    go (Some d) g = refl
    go None g = cc

has-answer : (me : Member) (log : Log) (x : Exchange) (t : Terms) → role_of me x ≡ Initiator → terms_of me (known me log) x ≡ Some t → has_heard (is_of (answer_kind x.kind) x Responder) log ≡ true
has-answer me log x t side = go x.kind
  where
    go : (k : XKind) → terms_by k me (known me log) x ≡ Some t → has_heard (is_of (answer_kind k) x Responder) log ≡ true
    go Balanced e = let p = trade-both _ _ t e in answer-part history_in me log kinds.Response x p.1.0 side p.1.1
    go Push e = let p = offer-both _ _ t e in answer-part reply_in me log kinds.Reply x p.1.0 side p.1.1

has-begun : (me : Member) (log : Log) (x : Exchange) (t : Terms) → x.kind ≡ Balanced → terms_of me (known me log) x ≡ Some t → (a : List ℕ × List UpdateId) × ((known me log).revealed x ≡ Some a)
has-begun me log x t k e = (trade-both _ _ t (subst (λ z. terms_by z me (known me log) x ≡ Some t) k e)).0

-- ---- tests

neither : (a b : Bool) → not a ≡ true → not b ≡ true → not (a || b) ≡ true
neither true b e f = cc
neither false b e f = f

neither-parts : (a b : Bool) → not (a || b) ≡ true → (not a ≡ true) × (not b ≡ true)
neither-parts true b e = cc
neither-parts false b e = (refl, e)

second-of-four : (a b c d : Bool) → a ≡ true → c ≡ true → d ≡ true → (((a && b) && c) && d) ≡ b
second-of-four true true true true e f g = refl
second-of-four true false true true e f g = refl
second-of-four false b c d e f g = cc
second-of-four true b false d e f g = cc
second-of-four true b true false e f g = cc

-- a CASE that doesn't wait isn't lacked
lacked-waits : (me : Member) (k : Knowledge) (x : Exchange) → is_third me.session.shape ≡ true → is_waiting me k x ≡ false → lacks_case me k x ≡ true → ⊥
lacked-waits me k x third none lacks =
    let time = and_parts _ _ lacks in
    let lacked : lacks_keys me k x ≡ true = sym (cond-true (is_third me.session.shape) (lacks_keys me k x) (lacks_partners_case me k x) third) ∙ (and_parts _ _ time.0).1 in
    let keys = neither-parts (has_said_of k kinds.Key x (role_of me x)) (has_heard_of k kinds.Key x (other_role (role_of me x))) lacked in
    both_ways (is_waiting me k x) none (and_from _ _ (and_from _ _ time.1 keys.0) keys.1)

-- ---- what a tick sends

tick-sends : (me : Member) (log : Log) → ticks log < last_tick me.session → (step me log event.Tick).sends ≡ (perform_all me (begun (Ticked ∷ log)) (orders_at_tick me (known me (Ticked ∷ log)))).sends
unfolding machine.step
tick-sends me log early = ap (λ b. (cond b (begun log) (take_input me log event.Tick)).sends) (lt-leb (last_tick me.session) (ticks log) early)

-- the orders for an open exchange, and those after them
abbrev old_orders : Member → Knowledge → Exchange → List Order
old_orders me k y = orders_when (not (k.is_announced (partner_in me y))) (again me k y)

abbrev asking_orders : Member → Knowledge → List Order
asking_orders me k = orders_when (eqb (slot_after k.ticks) 0 && (nat_le 1 (this_round k) && nat_le (this_round k) me.session.shape.rounds)) (new_requests me k (this_round k))

abbrev report_orders : Member → Knowledge → List Order
report_orders me k = orders_when (eqb (slot_after k.ticks) 7) (reports me k)

regrouped : (p x q b c : List Order) → ((p ++ (x ++ q)) ++ b) ++ c ≡ p ++ (x ++ ((q ++ b) ++ c))
regrouped p x q b c =
    ap (λ l. l ++ c) (append_assoc p (x ++ q) b)
    ∙ append_assoc p ((x ++ q) ++ b) c
    ∙ ap (λ l. p ++ (l ++ c)) (append_assoc x q b)
    ∙ ap (λ l. p ++ l) (append_assoc x (q ++ b) c)

orders-split : (me : Member) (k : Knowledge) (x : Exchange) (w : StandsOnce x k.opens)
    → orders_at_tick me k ≡ flat_map (old_orders me k) w.before ++ (old_orders me k x ++ ((flat_map (old_orders me k) w.after ++ asking_orders me k) ++ report_orders me k))
orders-split me k x w =
    ap (λ xs. (flat_map (old_orders me k) xs ++ asking_orders me k) ++ report_orders me k) w.split
    ∙ ap (λ l. (l ++ asking_orders me k) ++ report_orders me k) (flat_map-append (old_orders me k) w.before (x ∷ w.after))
    ∙ regrouped (flat_map (old_orders me k) w.before) (old_orders me k x) (flat_map (old_orders me k) w.after) (asking_orders me k) (report_orders me k)

asking-apart : (me : Member) (k : Knowledge) (x : Exchange) (kind : XKind) → AllByRecursion (IsApart x) (asking_partner me k (this_round k) kind)
asking-apart me k x kind = when-all (IsApart x) _ (Ask _ ∷ []) (λ _. (tt, tt))

reports-apart : (x : Exchange) (qs : List ℕ) → AllByRecursion (IsApart x) (map Report qs)
reports-apart x [] = tt
reports-apart x (q ∷ qs) = (tt, reports-apart x qs)

others-apart : (me : Member) (k : Knowledge) (x : Exchange) (ys : List Exchange) → AllByRecursion (λ y. same_exchange x y ≡ false) ys → AllByRecursion (IsApart x) (flat_map (old_orders me k) ys)
others-apart me k x ys apart =
    all-flat-map (λ y. same_exchange x y ≡ false) (IsApart x) (old_orders me k) ys
    (λ y o. when-all (IsApart x) (not (k.is_announced (partner_in me y))) (again me k y) (λ _. again-apart me k x y (λ e l. both_ways (same_exchange x y) o e))) apart

rest-apart : (me : Member) (k : Knowledge) (x : Exchange) (ys : List Exchange) → AllByRecursion (λ y. same_exchange x y ≡ false) ys
    → AllByRecursion (IsApart x) ((flat_map (old_orders me k) ys ++ asking_orders me k) ++ report_orders me k)
rest-apart me k x ys apart =
    all-both (IsApart x) _ _
    (all-both (IsApart x) _ _ (others-apart me k x ys apart)
    (when-all (IsApart x) _ (new_requests me k (this_round k)) (λ _. all-both (IsApart x) _ _ (asking-apart me k x Balanced) (when-all (IsApart x) _ (asking_partner me k (this_round k) Push) (λ _. asking-apart me k x Push)))))
    (when-all (IsApart x) (eqb (slot_after k.ticks) 7) (reports me k) (λ _. reports-apart x _))

old-repeats : (me : Member) (k : Knowledge) (y : Exchange) → AllByRecursion Repeats (old_orders me k y)
old-repeats me k y = when-all Repeats (not (k.is_announced (partner_in me y))) (again me k y) (λ _. again-all Repeats me k y tt (λ _. (tt, tt)) (λ _. tt))

-- ---- a CASE that waits

module _ (me : Member) (log : Log) (x : Exchange) (d : Datagram) (h : IsObedient me log) (w : IsSaidCase me log x d) where
  -- the moment of the tick
  abbrev now : Log
  now = Ticked ∷ log

  abbrev k : Knowledge
  k = known me (Ticked ∷ log)

  said-now : first_said (is_of kinds.Case x (role_of me x)) now ≡ Some d
  said-now = option_or-some (first_said (is_of kinds.Case x (role_of me x)) log) None d w.said

  terms-now : (t : Terms) × (terms_of me k x ≡ Some t)
  terms-now = let c = said-case me now x (role_of me x) (tt, h) (ap is_some said-now) in (c.0.terms, c.2.terms)

  has-its-answer : lacks_answer me k x ≡ false
  has-its-answer = go (role_of me x) refl
    where
      time : Bool
      time = is_in_time me.session k kinds.Request x.round

      go : (r : Role) → role_of me x ≡ r → (is_initiator r && not (has_heard_of k (answer_kind x.kind) x Responder) && time) ≡ false
      go Initiator side = ap (λ b. not b && time) (has-answer me now x terms-now.0 side terms-now.1)
      go Responder side = refl

  -- what precedes it
  abbrev front_of : XKind → Role → Bool → List (ℕ × Datagram)
  front_of sort r heard = (perform_all me (begun now) (orders_when (not heard) (reveals sort r x))).sends

  divulge-sent : (sort : XKind) (r : Role) (heard : Bool) → x.kind ≡ sort → divulges_by sort r heard ≡ true → (a : List ℕ × List UpdateId) × (k.revealed x ≡ Some a) × (front_of sort r heard ≡ divulge_of me x a ∷ [])
  divulge-sent Balanced Initiator false kind e =
      let a = has-begun me now x terms-now.0 kind terms-now.1 in
      (a.0, a.1, ap (λ o. (send_if me (begun now) (partner_in me x) (option_map (λ (c : List ℕ × List UpdateId). Divulge x.round c.0 c.1) o)).sends) a.1)
  divulge-sent Balanced Initiator true kind e = cc
  divulge-sent Balanced Responder heard kind e = cc
  divulge-sent Push r heard kind e = cc

  divulge-none : (sort : XKind) (r : Role) (heard : Bool) → divulges_by sort r heard ≡ false → front_of sort r heard ≡ []
  divulge-none Balanced Initiator false e = cc
  divulge-none Balanced Initiator true e = refl
  divulge-none Balanced Responder true e = refl
  divulge-none Balanced Responder false e = refl
  divulge-none Push Initiator true e = refl
  divulge-none Push Initiator false e = refl
  divulge-none Push Responder true e = refl
  divulge-none Push Responder false e = refl

  -- what follows it
  back-is : (perform_all me (begun now) (orders_when (has_partners_case me k x) (AskKey x ∷ []))).sends ≡ key_requests me k x
  back-is = go (has_partners_case me k x)
    where
      go : (b : Bool) → (perform_all me (begun now) (orders_when b (AskKey x ∷ []))).sends ≡ cond b ((partner_in me x, unsigned (message_to me x (KeyReq x.round x.kind (role_of me x)))) ∷ []) []
      go true = refl
      go false = refl

  resent : (perform_all me (begun now) (Resend kinds.Case x ∷ [])).sends ≡ (partner_in me x, d) ∷ []
  resent = ap (λ o. (say_or_repeat me (begun now) x o None).sends) said-now

  module _ (life : 2 ≤ me.session.shape.life) (waits : is_waiting me k x ≡ true) where
    soon : round_now now ≤ x.round + 2
    soon = leb-true (round_now now) (x.round + 2) (and_parts _ _ (and_parts _ _ waits).0).0

    lacks : lacks_case me k x ≡ true
    lacks =
        let keys = and_parts _ _ waits in
        let time = and_parts _ _ keys.0 in
        and_from _ _
        (and_from _ _ (ap is_some said-now)
        (cond-true (is_third me.session.shape) (lacks_keys me k x) (lacks_partners_case me k x) w.third
        ∙ neither (has_said_of k kinds.Key x (role_of me x)) (has_heard_of k kinds.Key x (other_role (role_of me x))) time.1 keys.1))
        time.0

    asks : lacks_key me k x ≡ has_partners_case me k x
    asks =
        second-of-four (has_said_of k kinds.Case x (role_of me x)) (has_partners_case me k x) (not (has_heard_of k kinds.Key x (other_role (role_of me x))))
        (nat_le (round_now now) (x.round + me.session.shape.life)) (ap is_some said-now) (and_parts _ _ waits).1
        (le-leb (round_now now) (x.round + me.session.shape.life) (omega (arith, soon, life)))

    -- the orders for the exchange
    abbrev first_orders : List Order
    first_orders = orders_when (lacks_partners_case me k x) (reveals x.kind (role_of me x) x)

    abbrev last_orders : List Order
    last_orders = orders_when (has_partners_case me k x) (AskKey x ∷ [])

    orders-are : old_orders me k x ≡ (first_orders ++ Resend kinds.Case x ∷ []) ++ last_orders
    orders-are =
        let here : is_announced now (partner_in me x) ≡ false = ap is_some (or-none (first_heard (names_party (partner_in me x)) log)) ∙ w.present in
        (λ i. orders_when (not (here i)) (again me k x))
        ∙ (λ i. cond (has-its-answer i) (Resend (request_kind x.kind) x ∷ []) (orders_when (lacks i) (case_again me k x) ++ orders_when (asks i) (AskKey x ∷ [])))

    first-repeats : AllByRecursion Repeats first_orders
    first-repeats = when-all Repeats (lacks_partners_case me k x) (reveals x.kind (role_of me x) x) (λ _. go x.kind (role_of me x))
      where
        go : (sort : XKind) (r : Role) → AllByRecursion Repeats (reveals sort r x)
        go Balanced Initiator = (tt, tt)
        go Balanced Responder = tt
        go Push Initiator = tt
        go Push Responder = tt

    -- what they send
    own-sends : (perform_all me (begun now) (old_orders me k x)).sends ≡ front_of x.kind (role_of me x) (has_partners_case me k x) ++ (partner_in me x, d) ∷ key_requests me k x
    own-sends =
        ap (λ os. (perform_all me (begun now) os).sends) orders-are
        ∙ still-sends me now (first_orders ++ Resend kinds.Case x ∷ []) last_orders (all-both Repeats first_orders (Resend kinds.Case x ∷ []) first-repeats (tt, tt))
        ∙ (λ i. still-sends me now first_orders (Resend kinds.Case x ∷ []) first-repeats i ++ back-is i)
        ∙ (λ i. (front_of x.kind (role_of me x) (has_partners_case me k x) ++ resent i) ++ key_requests me k x)
        ∙ append_assoc (front_of x.kind (role_of me x) (has_partners_case me k x)) ((partner_in me x, d) ∷ []) (key_requests me k x)

    sends-case : SendsCase me log x d
    sends-case = record {
      before = (perform_all me (begun now) before_orders).sends;
      front = front_of x.kind (role_of me x) (has_partners_case me k x);
      after = (perform_all me (begun now) after_orders).sends;
      sends =
          tick-sends me log w.in_time
          ∙ ap (λ os. (perform_all me (begun now) os).sends) (orders-split me k x once)
          ∙ still-sends me now before_orders (old_orders me k x ++ after_orders) (all-flat Repeats (old_orders me k) once.before (old-repeats me k))
          ∙ ap (λ s. (perform_all me (begun now) before_orders).sends ++ s) (still-sends me now (old_orders me k x) after_orders (old-repeats me k x))
          ∙ ap (λ s. (perform_all me (begun now) before_orders).sends ++ (s ++ (perform_all me (begun now) after_orders).sends)) own-sends;
      divulged = record { sent = divulge-sent x.kind (role_of me x) (has_partners_case me k x) refl; none = divulge-none x.kind (role_of me x) (has_partners_case me k x) };
      none_before = sends-none me x before_orders now (others-apart me k x once.before once.apart_before);
      none_after = sends-none me x after_orders now (rest-apart me k x once.after once.apart_after);
    }
      where
        once : StandsOnce x k.opens
        once = open-once me now x d said-now (omega (arith, soon, life))

        before_orders : List Order
        before_orders = flat_map (old_orders me k) once.before

        after_orders : List Order
        after_orders = (flat_map (old_orders me k) once.after ++ asking_orders me k) ++ report_orders me k

  -- ---- one that doesn't

  sends-no-case : is_waiting me k x ≡ false → AllByRecursion (IsNoCase x) (step me log event.Tick).sends
  sends-no-case none =
      subst (λ s. AllByRecursion (IsNoCase x) s) (sym (tick-sends me log w.in_time))
      (sends-none me x (orders_at_tick me k) now
      (tick-all (IsApart x) (λ y. Unit {0}) me k (all-of (λ y. Unit {0}) k.opens (λ y c. tt))
      (λ y r. again-apart me k x y (λ e l. lacked-waits me k x w.third none (subst (λ z. lacks_case me k z ≡ true) (sym (same_exchange-is x y e)) l))) (asking-apart me k x) (λ q. tt)))

pub says-cases-again : (me : Member) (log : Log) → IsMember me → IsObedient me log → SaysCasesAgain me log
says-cases-again me log is h = record {
  said = λ x d w waits. sends-case me log x d h w is.session.shape.life_low waits;
  not_said = λ x d w none. sends-no-case me log x d h w none;
}

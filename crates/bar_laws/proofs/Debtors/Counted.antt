-- Few exchanges are with a party that never gives its KEY, and little is opened in them.
use Rattle.bar_terms.specs.Terms.{promise, can_promise}
use Rattle.bar_wire.specs.Datagram.{Datagram, Body, Request, Query, Briefcase, is_of, kind_number, round_of}
use Rattle.bar_wire.specs.Inputs.{Input}
use Rattle.bar_wire.specs.Kinds.{code_of}
use Rattle.bar_wire.specs.declared.kind.Kind.TheVariants as kinds
use Rattle.bar_window.specs.Exchange.{party_on, other_role, kind_code}
use Rattle.bar_window.specs.declared.exchange.Exchange.{Exchange}
use Rattle.bar_window.specs.declared.exchange.Role.{Role}
use Rattle.bar_window.specs.declared.exchange.Role.TheVariants.{Initiator, Responder}
use Rattle.bar_window.specs.declared.exchange.XKind.{XKind}
use Rattle.bar_window.specs.declared.exchange.XKind.TheVariants.{Balanced, Push}
use Rattle.bar_window.proofs.Exchanges.{same_kind-is}
use Rattle.bar_rules.specs.Member.{Member}
use Rattle.bar_rules.specs.Peer.Exchanges.{role_of, partner_in, request_kind, seat}
use Rattle.bar_rules.specs.Peer.Knowledge.{known}
use Rattle.bar_rules.specs.Peer.Log.{Log, Heard, Said, first_heard, first_said, has_heard, has_said, round_now}
use Rattle.bar_rules.specs.Peer.Rules.{IsObedient}
use Rattle.bar_rules.specs.Peer.Run.{log_after, sends_of}
use Rattle.bar_rules.specs.Peer.Terms.{case_said, promise_size, totals_with}
use Rattle.std.proofs.Common.{◌≡◌, ℕ, zero, suc, ◌+◌, ◌-◌, ◌*◌, ◌<◌, ◌≤◌, Bool, true, false, List, [], ◌∷◌, length, refl, sym, ap, ◌∙◌, subst, inl, inr, eqb, ◌&&◌, cond, arith}
use Rattle.std.specs.Prelude.{Option, Some, None, ◌⊎◌, is_some, nat_le, nat_lt}
use Rattle.std.specs.List.{sum_by}
use Rattle.std.proofs.lemmas.Bool.{and_parts, both_ways, eqb-true, eq-eqb, leb-true, ltb-true}
use Rattle.std.proofs.lemmas.List.Sums.{sum_by-cons}
use Rattle.bar_laws.specs.Balance.{key_was_sent, totals_of}
use Rattle.bar_laws.specs.Debts.{begins, is_begun_with, most_with_debtor, IsNeverPaid, ServesNoDebtor}
use Rattle.bar_laws.specs.Rooms.{Room, asking_of, room_of, is_kept}
use Rattle.bar_laws.proofs.Logs.{allowed-at, admitted-row, some-is, first_heard-was, first_said-was, said-rule, is_of-is, was-heard-own, receiver-on, sender-on, round-of-exchange, promises_equal, promises_few, terms_promise, said-case}
use Rattle.bar_laws.proofs.Keeping.{IsNumbering, numbered-few, said-now, heard-near, own-said, asked-at, place-parts}
use Rattle.bar_laws.proofs.Runs.{run-obedient, seat-heard}
use Rattle.bar_laws.proofs.Debtors.Refused.{refused, begins-unowed}
use Rattle.bar_laws.proofs.Debtors.Spared.{spares-debtors}
use Rattle.bar_laws.proofs.Debtors.Moments.{none-after, begins-early}

-- ---- an exchange that was begun with the party

asks-begin : (b : Body) (k : XKind) → eqb (kind_number b) (code_of (request_kind k)) ≡ true → begins b ≡ true
asks-begin (Request r seed c) k e = refl
asks-begin (Query r seed young aged) k e = refl
asks-begin b Balanced e = absurd (both_ways (eqb (kind_number b) (code_of (request_kind Balanced))) refl e)
asks-begin b Push e = absurd (both_ways (eqb (kind_number b) (code_of (request_kind Push))) refl e)

initiator-own : (me : Member) (y : Exchange) → role_of me y ≡ Initiator → y.initiator ≡ me.party
initiator-own me y e = go (eqb y.initiator me.party) refl e
  where
    go : (b : Bool) → eqb y.initiator me.party ≡ b → cond b Initiator Responder ≡ Initiator → y.initiator ≡ me.party
    go true f g = eqb-true y.initiator me.party f
    go false f g = cc

-- The rounds of an exchange by its side, and its parties.
record IsEarly (me : Member) (party round : ℕ) (y : Exchange) : Type 0 where
  low : round ≤ y.round
  partner : partner_in me y ≡ party
  asked : role_of me y ≡ Initiator → y.round ≤ round + 1
  answered : role_of me y ≡ Responder → (y.round ≤ round + 2) × (y.responder ≡ me.party)

is-early : (me : Member) (log : Log) (x : Exchange) (w : IsNeverPaid me log x) (y : Exchange) → IsObedient me log → round_now w.earlier ≤ x.round + 1 → is_begun_with me log (partner_in me x) x.round y ≡ true
    → IsEarly me (partner_in me x) x.round y
is-early me log x w y h soon e = record { low = leb-true x.round y.round span.0; partner = partner; asked = asked; answered = answered }
  where
    near : (eqb (partner_in me y) (partner_in me x) ≡ true) × ((nat_le x.round y.round && nat_lt y.round (x.round + me.session.shape.life)) ≡ true)
    near = and_parts _ _ (and_parts _ _ e).0

    span : (nat_le x.round y.round ≡ true) × (nat_lt y.round (x.round + me.session.shape.life) ≡ true)
    span = and_parts _ _ near.1

    partner : partner_in me y ≡ partner_in me x
    partner = eqb-true (partner_in me y) (partner_in me x) near.0

    high : y.round < x.round + me.session.shape.life
    high = ltb-true y.round (x.round + me.session.shape.life) span.1

    room : (p : Room) × (room_of me (known me log) y ≡ Some p)
    room = some-is (room_of me (known me log) y) (and_parts (eqb (partner_in me y) (partner_in me x) && (nat_le x.round y.round && nat_lt y.round (x.round + me.session.shape.life))) (is_kept me (known me log) y) e).1

    asking : asking_of (known me log) y (role_of me y) ≡ Some room.0.asking
    asking = (place-parts y (asking_of (known me log) y (role_of me y)) room.0 room.1).1

    asked : role_of me y ≡ Initiator → y.round ≤ x.round + 1
    asked side =
        let said : has_said (is_of (request_kind y.kind) y Initiator) log ≡ true = (own-said (has_said (is_of (request_kind y.kind) y Initiator) log) room.0.asking (subst (λ r. asking_of (known me log) y r ≡ Some room.0.asking) side asking)).0 in
        let f = some-is (first_said (is_of (request_kind y.kind) y Initiator) log) said in
        let was = first_said-was (is_of (request_kind y.kind) y Initiator) log f.0 f.1 in
        let kind = (and_parts _ _ was.1).0 in
        let now : round_of f.0.message.body ≡ round_now was.0.before = said-now me was.0.before f.0.message.to f.0.message.body y.kind kind (said-rule me log f.0 was.0 h).rule.rule in
        let round : round_of f.0.message.body ≡ y.round = round-of-exchange (request_kind y.kind) y Initiator f.0.message was.1 in
        let to : f.0.message.to ≡ partner_in me x = receiver-on (request_kind y.kind) y Initiator f.0.message was.1 ∙ ap (λ r. party_on y (other_role r)) (sym side) ∙ partner in
        go (round_now was.0.before) (sym now ∙ round) (begins-early me log x w was.0.before (Said f.0) h soon was.0.place (asks-begin f.0.message.body y.kind kind, to))
      where
        go : (m : ℕ) → m ≡ y.round → (m ≤ x.round + 1) ⊎ (x.round + me.session.shape.life < m) → y.round ≤ x.round + 1
        go m e (inl early) = omega (arith, e, early)
        go m e (inr past) = absurd (omega (arith, e, past, high))

    answered : role_of me y ≡ Responder → (y.round ≤ x.round + 2) × (y.responder ≡ me.party)
    answered side =
        let n = asked-at (seat log y) room.0.asking (subst (λ r. asking_of (known me log) y r ≡ Some room.0.asking) side asking) in
        let heard : has_heard (is_of (request_kind y.kind) y Initiator) log ≡ true = seat-heard log y (ap is_some n.1) in
        let f = some-is (first_heard (is_of (request_kind y.kind) y Initiator) log) heard in
        let was = first_heard-was (is_of (request_kind y.kind) y Initiator) log f.0 f.1 in
        let kind = (and_parts _ _ was.1).0 in
        let al = allowed-at me log was.0.before (Heard f.0) was.0.place h in
        let times = heard-near me was.0.before f.0.message.from f.0.message.to f.0.message.body y.kind kind (admitted-row me was.0.before f.0 al.0.0) in
        let round : round_of f.0.message.body ≡ y.round = round-of-exchange (request_kind y.kind) y Initiator f.0.message was.1 in
        let from : f.0.message.from ≡ partner_in me x = sender-on (request_kind y.kind) y Initiator f.0.message was.1 ∙ ap (λ r. party_on y (other_role r)) (sym side) ∙ partner in
        let at = is_of-is (request_kind y.kind) y Initiator f.0.message was.1 in
        let own = was-heard-own me log f.0 (at.round, at.sort, Initiator) was.0 h at.part in (
          go (round_now was.0.before) (subst (λ r. r ≤ round_now was.0.before + 1) round times.0) (subst (λ r. round_now was.0.before ≤ r + 1) round times.1)
              (begins-early me log x w was.0.before (Heard f.0) h soon was.0.place (asks-begin f.0.message.body y.kind kind, from)),
          sym (receiver-on (request_kind y.kind) y Initiator f.0.message was.1) ∙ own.to,
        )
      where
        go : (m : ℕ) → y.round ≤ m + 1 → m ≤ y.round + 1 → (m ≤ x.round + 1) ⊎ (x.round + me.session.shape.life < m) → y.round ≤ x.round + 2
        go m a b (inl early) = omega (arith, a, early)
        go m a b (inr past) = absurd (omega (arith, b, past, high))

-- ---- their numbers

place_by_side : Role → ℕ → ℕ
place_by_side Initiator n = n
place_by_side Responder n = 2 + n

number_with : Member → ℕ → Exchange → ℕ
number_with me round y = 5 * kind_code y.kind + place_by_side (role_of me y) (y.round - round)

place-below : (me : Member) (party round : ℕ) (y : Exchange) → IsEarly me party round y → place_by_side (role_of me y) (y.round - round) < 5
unfolding place_by_side
place-below me party round y w = go (role_of me y) w.asked w.answered
  where
    go : (r : Role) → (r ≡ Initiator → y.round ≤ round + 1) → (r ≡ Responder → (y.round ≤ round + 2) × (y.responder ≡ me.party)) → place_by_side r (y.round - round) < 5
    go Initiator f g = let high = f refl in omega (arith, high)
    go Responder f g = let high = (g refl).0 in omega (arith, high)

few-kinds : (k : XKind) → kind_code k ≤ 1
few-kinds Balanced = omega arith
few-kinds Push = omega arith

-- a side, round and kind determine one exchange
one-place : (me : Member) (party round : ℕ) (y z : Exchange) → IsEarly me party round y → IsEarly me party round z → y.kind ≡ z.kind → place_by_side (role_of me y) (y.round - round) ≡ place_by_side (role_of me z) (z.round - round) → y ≡ z
unfolding place_by_side
one-place me party round y z v w kind e = go (role_of me y) (role_of me z) refl refl e
  where
    partner-on : (u : Exchange) (r : Role) → role_of me u ≡ r → IsEarly me party round u → party_on u (other_role r) ≡ party
    partner-on u r side w = ap (λ s. party_on u (other_role s)) (sym side) ∙ w.partner

    go : (a b : Role) → role_of me y ≡ a → role_of me z ≡ b → place_by_side a (y.round - round) ≡ place_by_side b (z.round - round) → y ≡ z
    go Initiator Initiator f g e =
        let rounds : y.round ≡ z.round = omega (arith, e, v.low, w.low) in
        let parties : y.initiator ≡ z.initiator = initiator-own me y f ∙ sym (initiator-own me z g) in
        let others : y.responder ≡ z.responder = partner-on y Initiator f v ∙ sym (partner-on z Initiator g w) in
        (λ i. record { round = rounds i; kind = kind i; initiator = parties i; responder = others i })
    go Responder Responder f g e =
        let rounds : y.round ≡ z.round = omega (arith, e, v.low, w.low) in
        let parties : y.responder ≡ z.responder = (v.answered f).1 ∙ sym (w.answered g).1 in
        let others : y.initiator ≡ z.initiator = partner-on y Responder f v ∙ sym (partner-on z Responder g w) in
        (λ i. record { round = rounds i; kind = kind i; initiator = others i; responder = parties i })
    go Initiator Responder f g e = let high = v.asked f in absurd (omega (arith, e, high))
    go Responder Initiator f g e = let high = w.asked g in absurd (omega (arith, e, high))

numbers-with : (me : Member) (log : Log) (x : Exchange) (w : IsNeverPaid me log x) → IsObedient me log → round_now w.earlier ≤ x.round + 1
    → IsNumbering (is_begun_with me log (partner_in me x) x.round) (number_with me x.round) most_with_debtor
unfolding number_with
numbers-with me log x w h soon = record { one = one; below = below }
  where
    party : ℕ
    party = partner_in me x

    one : (y z : Exchange) → is_begun_with me log party x.round y ≡ true → is_begun_with me log party x.round z ≡ true → number_with me x.round y ≡ number_with me x.round z → y ≡ z
    one y z a b e =
        let v : IsEarly me party x.round y = is-early me log x w y h soon a in
        let u : IsEarly me party x.round z = is-early me log x w z h soon b in
        let p = place-below me party x.round y v in
        let q = place-below me party x.round z u in
        let kinds : kind_code y.kind ≡ kind_code z.kind = omega (arith, e, p, q) in
        let places : place_by_side (role_of me y) (y.round - x.round) ≡ place_by_side (role_of me z) (z.round - x.round) = omega (arith, e, p, q) in
        one-place me party x.round y z v u (same_kind-is y.kind z.kind (eq-eqb (kind_code y.kind) (kind_code z.kind) kinds)) places

    below : (y : Exchange) → is_begun_with me log party x.round y ≡ true → number_with me x.round y < most_with_debtor
    below y a = let p = place-below me party x.round y (is-early me log x w y h soon a) in let k = few-kinds y.kind in omega (arith, p, k)

-- ---- what is opened

promise-few : (cap : ℕ) (c : Briefcase) → can_promise cap c.terms ≡ true → length (promise cap c.terms c.role) ≤ cap
promise-few cap c e = go c.role
  where
    go : (r : Role) → length (promise cap c.terms r) ≤ cap
    go Initiator = promises_few cap c.terms e
    go Responder = omega (arith, promises_few cap c.terms e, promises_equal cap c.terms e)

promised-few : (me : Member) (log : Log) (y : Exchange) → IsObedient me log → promise_size me.session (case_said me (known me log) y) ≤ me.session.cap
promised-few me log y h = go (has_said (is_of kinds.Case y (role_of me y)) log) refl
  where
    go : (b : Bool) → has_said (is_of kinds.Case y (role_of me y)) log ≡ b → promise_size me.session (case_said me (known me log) y) ≤ me.session.cap
    go true e =
        let c = said-case me log y (role_of me y) h e in
        rw c.1 (promise-few me.session.cap c.0 (terms_promise me.session.cap me.session.shape.life y.round c.2.valid.0 c.0.terms c.2.valid.1))
    go false e = none (first_said (is_of kinds.Case y (role_of me y)) log) refl e
      where
        none : (o : Option Datagram) → first_said (is_of kinds.Case y (role_of me y)) log ≡ o → is_some o ≡ false → promise_size me.session (case_said me (known me log) y) ≤ me.session.cap
        none None f g = rw f (omega arith)
        none (Some d) f g = cc

opened-few : (me : Member) (inputs : List Input) (y : Exchange) → IsObedient me (log_after me [] inputs) → (totals_of me inputs y).opened ≤ me.session.cap
opened-few me inputs y h = go (key_was_sent me y (sends_of me inputs))
  where
    go : (b : Bool) → (totals_with me (known me (log_after me [] inputs)) y b).opened ≤ me.session.cap
    go true = promised-few me (log_after me [] inputs) y h
    go false = omega arith

sum-few : (f : Exchange → ℕ) (cap : ℕ) (xs : List Exchange) (n : ℕ) → ((y : Exchange) → f y ≤ cap) → length xs ≤ n → sum_by f xs ≤ n * cap
sum-few f cap [] n k h = omega arith
sum-few f cap (x ∷ xs) zero k h = absurd (omega (arith, h))
sum-few f cap (x ∷ xs) (suc n) k h =
    let rest : sum_by f xs ≤ n * cap = sum-few f cap xs n k (omega (arith, h)) in
    omega (arith, rest, k x, sum_by-cons f x xs)

-- ---- a debtor isn't served

pub serves-no-debtor : (me : Member) (inputs : List Input) → ServesNoDebtor me inputs
serves-no-debtor me inputs = record {
  admits = refused me log;
  sends = spares-debtors me log;
  begun = λ later before e party split b. begins-unowed me log before e party h (record { after = later; split = split }) b;
  none_after = λ x w new between e split b. none-after me log x w new between e h split b;
  few = λ x w soon xs distinct all.
      (let count : length xs ≤ most_with_debtor = numbered-few (is_begun_with me log (partner_in me x) x.round) (number_with me x.round) most_with_debtor xs (numbers-with me log x w h soon) distinct all in
      record { exchanges = count; opened = sum-few (λ y. (totals_of me inputs y).opened) me.session.cap xs most_with_debtor (λ y. opened-few me inputs y h) count });
}
  where
    log : Log
    log = log_after me [] inputs

    h : IsObedient me log
    h = run-obedient me [] inputs tt

-- What the rules read of debts, in plain terms.
use Rattle.bar_window.specs.Exchange.{other_role, same_exchange}
use Rattle.bar_window.specs.declared.exchange.Exchange.{Exchange}
use Rattle.bar_window.specs.declared.exchange.Role.{Role}
use Rattle.bar_window.specs.declared.exchange.XKind.{XKind}
use Rattle.bar_window.proofs.Exchanges.{same_exchange-is}
use Rattle.bar_wire.specs.Datagram.{Message, Datagram, is_of, kind_number, round_of, part_of, exchange_of, exchange_by, Place, place_by}
use Rattle.bar_wire.specs.Grammar.{is_third}
use Rattle.bar_wire.specs.declared.kind.Kind.TheVariants as kinds
use Rattle.bar_wire.specs.declared.kind.Kind.{Kind}
use Rattle.bar_rules.specs.Member.{Member}
use Rattle.bar_rules.specs.Peer.Debts.{is_due, is_owed, owes}
use Rattle.bar_rules.specs.Peer.Exchanges.{role_of, partner_in, precedes, inserted, with_exchange, exchange_said, exchanges_said}
use Rattle.bar_rules.specs.Peer.Knowledge.{Knowledge, known, this_round, with_said, has_heard_of, answer_deadline}
use Rattle.bar_rules.specs.Peer.Log.{Log, Entry, Heard, Said, said_in, first_heard, first_said, has_heard, round_now}
use Rattle.std.proofs.Common.{◌≡◌, ℕ, zero, suc, ◌+◌, ◌<◌, ◌≤◌, Bool, true, false, List, [], ◌∷◌, length, refl, sym, ap, ◌∙◌, subst, inl, inr, ◌&&◌, ◌||◌, not, eqb, cond, arith}
use Rattle.std.specs.Prelude.{Option, Some, None, ◌⊎◌, is_some, option_map, nat_le, filter, Contains, slice_index_or}
use Rattle.std.specs.List.{list_any}
use Rattle.std.proofs.lemmas.Bool.{and_parts, and_from, and_left, or_cases, or_left, or_right, both_ways, eqb-true, eq-eqb, leb-true, le-leb, not-true, not_from_false, false_from_ne_true}
use Rattle.bar_bytes.proofs.Options.{or-untold}
use Rattle.bar_laws.specs.Debts.{IsDebt}
use Rattle.bar_laws.proofs.Logs.Facts.{round-by}
use Rattle.bar_laws.proofs.Logs.FirstFinds.{entry-of, contains-entry}
use Rattle.bar_laws.proofs.Logs.LaterLogs.{WasSaid, first_heard-was, first_said-was, some-is}
use Rattle.bar_laws.proofs.Logs.OneIdentity.{said-found, heard-found, part-round}
use Rattle.bar_laws.proofs.Logs.Elsewhere.{is_of-is}
use Rattle.bar_laws.proofs.Logs.Unique.{SaidIn, said-in}

-- ---- the exchanges in which a message was said

either-twice : (a b : Bool) → (a || b) ≡ (a || (a || b))
either-twice true b = refl
either-twice false b = refl

either-swap : (a b c : Bool) → (a || (b || c)) ≡ (b || (a || c))
either-swap true true c = refl
either-swap true false c = refl
either-swap false b c = refl

any-inserted : (p : Exchange → Bool) (x : Exchange) (xs : List Exchange) → list_any p (inserted x xs) ≡ (p x || list_any p xs)
any-inserted p x [] = refl
any-inserted p x (y ∷ ys) = go (same_exchange x y) (precedes x y) refl (any-inserted p x ys)
  where
    go : (a b : Bool) → same_exchange x y ≡ a → list_any p (inserted x ys) ≡ (p x || list_any p ys)
        → list_any p (cond a (y ∷ ys) (cond b (x ∷ y ∷ ys) (y ∷ inserted x ys))) ≡ (p x || (p y || list_any p ys))
    go true b e w = subst (λ z. (p y || list_any p ys) ≡ (p z || (p y || list_any p ys))) (sym (same_exchange-is x y e)) (either-twice (p y) (list_any p ys))
    go false true e w = refl
    go false false e w = ap (λ z. p y || z) w ∙ either-swap (p y) (p x) (list_any p ys)

pub any-said : (p : Exchange → Bool) (log : Log) (d : Datagram) (x : Exchange) → SaidIn log d → exchange_of d.message ≡ Some x → p x ≡ true → list_any p (exchanges_said log) ≡ true
any-said p [] d x s e h = absurd s
any-said p (y ∷ log) d x (inl same) e h =
    subst (λ (z : Entry). list_any p (exchanges_said (z ∷ log)) ≡ true) (sym same)
    (subst (λ o. list_any p (with_exchange o (exchanges_said log)) ≡ true) (sym e) (any-inserted p x (exchanges_said log) ∙ or_left (p x) (list_any p (exchanges_said log)) h))
any-said p (y ∷ log) d x (inr s) e h = go (exchange_said (said_in y)) (any-said p log d x s e h)
  where
    go : (o : Option Exchange) → list_any p (exchanges_said log) ≡ true → list_any p (with_exchange o (exchanges_said log)) ≡ true
    go None w = w
    go (Some z) w = any-inserted p z (exchanges_said log) ∙ or_right (p z) (list_any p (exchanges_said log)) w

-- a filter doesn't change a test if it keeps all exchanges that pass it
pub any-kept : (p r : Exchange → Bool) (xs : List Exchange) → ((x : Exchange) → p x ≡ true → r x ≡ true) → list_any p (filter r xs) ≡ list_any p xs
any-kept p r [] f = refl
any-kept p r (x ∷ xs) f = go (r x) (p x) refl refl (any-kept p r xs f)
  where
    go : (b c : Bool) → r x ≡ b → p x ≡ c → list_any p (filter r xs) ≡ list_any p xs → list_any p (cond b (x ∷ filter r xs) (filter r xs)) ≡ (p x || list_any p xs)
    go true c e g w = ap (λ z. p x || z) w
    go false true e g w = absurd (both_ways (r x) e (f x g))
    go false false e g w = w ∙ ap (λ z. z || list_any p xs) (sym g)

any-found : (p : Exchange → Bool) (xs : List Exchange) → list_any p xs ≡ true → (x : Exchange) × (p x ≡ true)
any-found p [] e = cc
any-found p (x ∷ xs) e = go (or_cases _ _ e) (any-found p xs)
  where
    go : (p x ≡ true) ⊎ (list_any p xs ≡ true) → (list_any p xs ≡ true → (x : Exchange) × (p x ≡ true)) → (x : Exchange) × (p x ≡ true)
    go (inl h) f = (x, h)
    go (inr h) f = f h

-- the exchange of a message is one of them
pub exchange-is : (kind : Kind) (x : Exchange) (role : Role) (m : Message) → is_of kind x role m ≡ true → exchange_of m ≡ Some x
exchange-is kind x role m e =
    let w = is_of-is kind x role m e in
    ap (λ (o : Option (ℕ × XKind × Role)). option_map (λ (q : Place). q.exchange) (option_map (place_by m.from m.to) o)) w.part ∙ ap Some w.exchange

-- ---- a debt

-- what is owed is of a round whose keys are due
owed-due : (me : Member) (k : Knowledge) (party : ℕ) (x : Exchange) → is_owed me k party x ≡ true → (x.round + answer_deadline ≤ this_round k) × (this_round k ≤ x.round + me.session.shape.life)
owed-due me k party x e =
    let due = and_parts _ _ (and_parts _ _ (and_parts _ _ (and_parts _ _ e).0).0).1 in
    (leb-true (x.round + answer_deadline) (this_round k) due.0, leb-true (this_round k) (x.round + me.session.shape.life) due.1)

never-heard : (p : Message → Bool) (log : Log) (d : Datagram) → has_heard p log ≡ false → Contains log (Heard d) → p d.message ≡ false
never-heard p log d none c =
    let w = entry-of log (Heard d) c in
    false_from_ne_true (p d.message) (λ t. both_ways (has_heard p log) none (heard-found p log d (record { before = w.0; place = w.1 }) t))

none-heard : (p : Message → Bool) (log : Log) → ((d : Datagram) → Contains log (Heard d) → p d.message ≡ false) → has_heard p log ≡ false
none-heard p log f = false_from_ne_true (has_heard p log) no
  where
    no : has_heard p log ≡ true → ⊥
    no t =
        let g = some-is (first_heard p log) t in
        let was = first_heard-was p log g.0 g.1 in
        both_ways (p g.0.message) (f g.0 (contains-entry log was.0.before (Heard g.0) was.0.place)) was.1

pub debt-read : (me : Member) (log : Log) (party : ℕ) → owes me (known me log) party ≡ true → IsDebt me log party
debt-read me log party e = (let p = and_parts (is_third me.session.shape) (list_any (is_owed me (known me log) party) (known me log).opens) e in at p.0 (any-found (is_owed me (known me log) party) (known me log).opens p.1))
  where
    at : is_third me.session.shape ≡ true → (x : Exchange) × (is_owed me (known me log) party x ≡ true) → IsDebt me log party
    at third f =
        let x : Exchange = f.0 in
        let mine : Message → Bool = is_of kinds.Key x (role_of me x) in
        let theirs : Message → Bool = is_of kinds.Key x (other_role (role_of me x)) in
        let unheard = and_parts _ _ f.1 in
        let said = and_parts _ _ unheard.0 in
        let g = some-is (first_said mine log) said.1 in
        let was = first_said-was mine log g.0 g.1 in
        let due = owed-due me (known me log) party x f.1 in
        record {
          third = third;
          exchange = x;
          partner = eqb-true (partner_in me x) party (and_parts _ _ said.0).0;
          from = due.0;
          to = due.1;
          key = g.0;
          said = contains-entry log was.0.before (Said g.0) was.0.place;
          mine = was.1;
          unpaid = λ d c. never-heard theirs log d (not-true (has_heard theirs log) unheard.1) c;
        }

pub debt-there : (me : Member) (log : Log) (party : ℕ) → IsDebt me log party → owes me (known me log) party ≡ true
debt-there me log party w =
    and_from (is_third me.session.shape) _ w.third
    (any-kept test (λ y. nat_le (round_now log) (y.round + me.session.shape.life)) (exchanges_said log) (λ y h. le-leb (round_now log) (y.round + me.session.shape.life) (owed-due me (known me log) party y h).1)
    ∙ any-said test log w.key x (said-in log w.key said) (exchange-is kinds.Key x (role_of me x) w.key.message w.mine) passes)
  where
    x : Exchange
    x = w.exchange

    test : Exchange → Bool
    test = is_owed me (known me log) party

    said : WasSaid log w.key
    said = let f = entry-of log (Said w.key) w.said in record { before = f.0; place = f.1 }

    passes : is_owed me (known me log) party x ≡ true
    passes =
        and_from _ _
        (and_from _ _
        (and_from _ _ (eq-eqb (partner_in me x) party w.partner)
        (and_from _ _ (le-leb (x.round + answer_deadline) (round_now log) w.from) (le-leb (round_now log) (x.round + me.session.shape.life) w.to)))
        (said-found (is_of kinds.Key x (role_of me x)) log w.key said w.mine))
        (not_from_false (has_heard (is_of kinds.Key x (other_role (role_of me x))) log) (none-heard (is_of kinds.Key x (other_role (role_of me x))) log w.unpaid))

-- in versions 1 and 2 no party owes a key
pub never-owes : (me : Member) (k : Knowledge) (party : ℕ) → is_third me.session.shape ≡ false → owes me k party ≡ false
never-owes me k party e = and_left (is_third me.session.shape) (list_any (is_owed me k party) k.opens) e

-- ---- only a KEY that is said makes a debt

abbrev pub IsNoKey : Datagram → Type 0
IsNoKey d = eqb (kind_number d.message.body) 10 ≡ false

other-entry : (log : Log) (d e : Datagram) → Contains (Said d ∷ log) (Said e) → (d ≡ e) ⊎ Contains log (Said e)
other-entry log d e c = go c.0 c.1 c.2
  where
    go : (k : ℕ) → k < length (Said d ∷ log) → slice_index_or (Said d ∷ log) k (Said e) ≡ Said e → (d ≡ e) ⊎ Contains log (Said e)
    go zero lt at = inl (cc)
    go (suc k) lt at = inr (k, omega (arith, lt), at)

pub still-unowed : (me : Member) (log : Log) (d : Datagram) (party : ℕ) → IsNoKey d → owes me (known me log) party ≡ false → owes me (known me (Said d ∷ log)) party ≡ false
still-unowed me log d party quiet h = false_from_ne_true (owes me (known me (Said d ∷ log)) party) (λ t. both_ways (owes me (known me log) party) h (debt-there me log party (older (debt-read me (Said d ∷ log) party t))))
  where
    now : round_now (Said d ∷ log) ≡ round_now log
    now = omega arith

    older : IsDebt me (Said d ∷ log) party → IsDebt me log party
    older w =
        record {
          third = w.third;
          exchange = w.exchange;
          partner = w.partner;
          from = subst (λ n. w.exchange.round + 2 ≤ n) now w.from;
          to = subst (λ n. n ≤ w.exchange.round + me.session.shape.life) now w.to;
          key = w.key;
          said = go (other-entry log d w.key w.said);
          mine = w.mine;
          unpaid = λ e c. w.unpaid e (suc c.0, omega (arith, c.1), c.2);
        }
      where
        go : (d ≡ w.key) ⊎ Contains log (Said w.key) → Contains log (Said w.key)
        go (inr c) = c
        go (inl same) = absurd (both_ways (eqb (kind_number w.key.message.body) 10) (subst (λ (z : Datagram). IsNoKey z) same quiet) (and_parts _ _ w.mine).0)

-- nor does it make one in what is known, if it is of a round whose keys aren't due
pub debts-stay : (me : Member) (k : Knowledge) (d : Datagram) (party : ℕ) → IsNoKey d → this_round k ≤ round_of d.message.body + 1 → owes me (with_said me d k) party ≡ owes me k party
debts-stay me k d party quiet soon =
    ap (λ b. is_third me.session.shape && b)
    ((λ i. list_any (λ x. same x i) (with_said me d k).opens)
    ∙ any-kept test (λ x. nat_le (this_round k) (x.round + me.session.shape.life)) (with_exchange (exchange_of d.message) k.opens) (λ x h. le-leb (this_round k) (x.round + me.session.shape.life) (owed-due me k party x h).1)
    ∙ new (part_of d.message.body) refl)
  where
    test : Exchange → Bool
    test = is_owed me k party

    same : (x : Exchange) → is_owed me (with_said me d k) party x ≡ is_owed me k party x
    same x =
        let role : Role = role_of me x in
        ap (λ o. ((eqb (partner_in me x) party && is_due me.session.shape.life x.round (this_round k)) && is_some o) && not (has_heard_of k kinds.Key x (other_role role)))
        (or-untold (k.said kinds.Key x role) (is_of kinds.Key x role d.message) d (and_left _ _ quiet))

    new : (o : Option (ℕ × XKind × Role)) → part_of d.message.body ≡ o
        → list_any test (with_exchange (option_map (λ (q : Place). q.exchange) (option_map (place_by d.message.from d.message.to) o)) k.opens) ≡ list_any test k.opens
    new None e = refl
    new (Some p) e = any-inserted test x k.opens ∙ ap (λ b. b || list_any test k.opens) (false_from_ne_true (test x) early)
      where
        x : Exchange
        x = exchange_by p.0 p.1 p.2 d.message.from d.message.to

        early : test x ≡ true → ⊥
        early h =
            let due : x.round + 2 ≤ this_round k = (owed-due me k party x h).0 in
            let round : x.round ≡ p.0 = round-by p.0 p.1 p.2 d.message.from d.message.to in
            let of : round_of d.message.body ≡ p.0 = part-round d.message.body p.0 p.1 p.2 e in
            omega (arith, due, round, of, soon)

-- When exchanges begin with a party that never gives its KEY.
use Rattle.bar_wire.specs.Datagram.{Body, Request, Query, kind_number}
use Rattle.bar_rules.specs.Member.{Member}
use Rattle.bar_rules.specs.Peer.Debts.{owes}
use Rattle.bar_rules.specs.Peer.Exchanges.{partner_in}
use Rattle.bar_rules.specs.Peer.Knowledge.{known}
use Rattle.bar_rules.specs.Peer.Log.{Log, Entry, Heard, Said, round_now}
use Rattle.bar_rules.specs.Peer.Rules.{IsObedient}
use Rattle.bar_window.specs.declared.exchange.Exchange.{Exchange}
use Rattle.std.proofs.Common.{◌≡◌, suc, ◌+◌, ◌<◌, ◌≤◌, true, false, [], ◌∷◌, ◌++◌, refl, sym, ap, ◌∙◌, subst, inl, inr, eqb, arith, append_assoc}
use Rattle.std.specs.Prelude.{◌⊎◌, Contains}
use Rattle.std.proofs.lemmas.Bool.{and_parts, both_ways, cases_lt}
use Rattle.bar_laws.specs.Debts.{begins, BeginsWith, IsNeverPaid}
use Rattle.bar_laws.specs.Growing.{IsLater}
use Rattle.bar_laws.proofs.Logs.{IsEntry, contains-entry, later-entry, round-later, debt-there}
use Rattle.bar_laws.proofs.Debtors.Refused.{begins-unowed}

-- ---- entries of a log

contains-more : (new before : Log) (e : Entry) → Contains before e → Contains (new ++ before) e
contains-more [] before e c = c
contains-more (x ∷ new) before e c = let d = contains-more new before e c in (suc d.0, omega (arith, d.1), d.2)

contains-later : (log before : Log) (e : Entry) → IsLater log before → Contains before e → Contains log e
contains-later log before e later c = subst (λ l. Contains l e) (sym later.split) (contains-more later.new before e c)

-- of two entries, one is after the other, or they are the same
compare-places : (a : Log) (x : Entry) (b c : Log) (y : Entry) (d : Log) → a ++ x ∷ b ≡ c ++ y ∷ d → IsLater b (y ∷ d) ⊎ ((x ≡ y) ⊎ IsLater d (x ∷ b))
compare-places [] x b [] y d e = inr (inl (cc))
compare-places [] x b (z ∷ c) y d e = inl (record { new = c; split = cc })
compare-places (w ∷ a) x b [] y d e = inr (inr (record { new = a; split = cc }))
compare-places (w ∷ a) x b (z ∷ c) y d e = let rest : a ++ x ∷ b ≡ c ++ y ∷ d = cc in compare-places a x b c y d rest

-- ---- moments

-- After the KEY no exchange with the party begins while it owes.
pub outside-debt : (me : Member) (log : Log) (x : Exchange) (w : IsNeverPaid me log x) (before : Log) (e : Entry) → IsObedient me log → IsEntry log before e → BeginsWith (partner_in me x) e → Contains before (Said w.key)
    → (round_now before < x.round + 2) ⊎ (x.round + me.session.shape.life < round_now before)
outside-debt me log x w before e h place b c = early (cases_lt (round_now before) (x.round + 2))
  where
    late : x.round + 2 ≤ round_now before → (x.round + me.session.shape.life < round_now before) ⊎ (round_now before ≤ x.round + me.session.shape.life)
        → (round_now before < x.round + 2) ⊎ (x.round + me.session.shape.life < round_now before)
    late low (inl past) = inr past
    late low (inr high) =
        absurd
        (both_ways (owes me (known me before) (partner_in me x)) (begins-unowed me log before e (partner_in me x) h place b)
        (debt-there me before (partner_in me x)
        (record {
          third = w.third;
          exchange = x;
          partner = refl;
          from = low;
          to = high;
          key = w.key;
          said = c;
          mine = w.mine;
          unpaid = λ d g. w.unpaid d (contains-later log before (Heard d) (later-entry log before e place) g);
        })))

    early : (round_now before < x.round + 2) ⊎ (x.round + 2 ≤ round_now before) → (round_now before < x.round + 2) ⊎ (x.round + me.session.shape.life < round_now before)
    early (inl soon) = inl soon
    early (inr low) = late low (cases_lt (x.round + me.session.shape.life) (round_now before))

pub none-after : (me : Member) (log : Log) (x : Exchange) (w : IsNeverPaid me log x) (new between : Log) (e : Entry) → IsObedient me log → w.later ≡ new ++ e ∷ between → BeginsWith (partner_in me x) e
    → (round_now (between ++ Said w.key ∷ w.earlier) < x.round + 2) ⊎ (x.round + me.session.shape.life < round_now (between ++ Said w.key ∷ w.earlier))
none-after me log x w new between e h split b =
    outside-debt me log x w (between ++ Said w.key ∷ w.earlier) e h
    (record { after = new; split = w.split ∙ ap (λ l. l ++ Said w.key ∷ w.earlier) split ∙ append_assoc new (e ∷ between) (Said w.key ∷ w.earlier) }) b
    (contains-entry (between ++ Said w.key ∷ w.earlier) w.earlier (Said w.key) (record { after = between; split = refl }))

begins-no-key : (b : Body) → begins b ≡ true → eqb (kind_number b) 10 ≡ false
begins-no-key (Request r seed c) e = refl
begins-no-key (Query r seed young aged) e = refl
begins-no-key _ e = cc

-- if the KEY was said at most a round after its exchange's, all exchanges begin by then or when the debt is past
pub begins-early : (me : Member) (log : Log) (x : Exchange) (w : IsNeverPaid me log x) (before : Log) (e : Entry) → IsObedient me log → round_now w.earlier ≤ x.round + 1 → IsEntry log before e → BeginsWith (partner_in me x) e
    → (round_now before ≤ x.round + 1) ⊎ (x.round + me.session.shape.life < round_now before)
begins-early me log x w before e h soon place b = go (compare-places place.after e before w.later (Said w.key) w.earlier (sym place.split ∙ w.split))
  where
    by : (round_now before < x.round + 2) ⊎ (x.round + me.session.shape.life < round_now before) → (round_now before ≤ x.round + 1) ⊎ (x.round + me.session.shape.life < round_now before)
    by (inl m) = inl (omega (arith, m))
    by (inr m) = inr m

    key : (e : Entry) → e ≡ Said w.key → BeginsWith (partner_in me x) e → ⊥
    key e same b =
        let said : BeginsWith (partner_in me x) (Said w.key) = subst (λ z. BeginsWith (partner_in me x) z) same b in
        both_ways (eqb (kind_number w.key.message.body) 10) (begins-no-key w.key.message.body said.0) (and_parts _ _ w.mine).0

    go : IsLater before (Said w.key ∷ w.earlier) ⊎ ((e ≡ Said w.key) ⊎ IsLater w.earlier (e ∷ before)) → (round_now before ≤ x.round + 1) ⊎ (x.round + me.session.shape.life < round_now before)
    go (inl later) = by (outside-debt me log x w before e h place b (contains-entry before w.earlier (Said w.key) (record { after = later.new; split = later.split })))
    go (inr (inl same)) = absurd (key e same b)
    go (inr (inr later)) =
        let order : round_now before ≤ round_now w.earlier = round-later w.earlier before (later-entry w.earlier before e (record { after = later.new; split = later.split })) in
        inl (omega (arith, order, soon))

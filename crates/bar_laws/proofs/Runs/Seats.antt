-- Two exchanges of one round and kind have different seats.
use Rattle.bar_wire.specs.Kinds.{code_of}
use Rattle.bar_rules.specs.Peer.Exchanges.{request_kind, seat}
use Rattle.bar_rules.specs.Peer.Log.{Log, Entry, heard_in, if_passes, count_heard, has_kind_and_round}
use Rattle.bar_window.specs.declared.exchange.Exchange.{Exchange}
use Rattle.bar_window.specs.declared.exchange.Role.{Role}
use Rattle.bar_window.specs.declared.exchange.Role.TheVariants.{Initiator}
use Rattle.bar_window.specs.declared.exchange.XKind.{XKind}
use Rattle.bar_window.specs.declared.exchange.XKind.TheVariants.{Balanced, Push}
use Rattle.bar_window.proofs.Exchanges.{same_exchange-is}
use Rattle.bar_wire.specs.Datagram.{is_place, place_by, Message, Datagram, Body, Request, Query, is_of, kind_number, part_of, exchange_by, round_of}
use Rattle.std.proofs.Common.{◌≡◌, ℕ, ◌<◌, ◌≤◌, ◌+◌, Bool, true, false, [], ◌∷◌, refl, sym, ap, ◌∙◌, subst, inl, inr, ◌&&◌, eqb, arith}
use Rattle.std.specs.Prelude.{Option, Some, None, ◌⊎◌, option_map}
use Rattle.std.specs.Option.{option_map_or}
use Rattle.std.proofs.lemmas.Bool.{and_parts, eq-eqb}
use Rattle.bar_laws.proofs.Logs.{option_or-cases, if_passes-is}

-- a request of an exchange is one of its kind and round
asks-counts : (x : Exchange) (m : Message) → is_of (request_kind x.kind) x Initiator m ≡ true → has_kind_and_round (request_kind x.kind) x.round m ≡ true
asks-counts x m e = go x.kind m.body e
  where
    go : (k : XKind) (b : Body) → (eqb (kind_number b) (code_of (request_kind k)) && option_map_or (is_place x Initiator) (option_map (place_by m.from m.to) (part_of b)) false) ≡ true
        → (eqb (kind_number b) (code_of (request_kind k)) && eqb (round_of b) x.round) ≡ true
    go Balanced (Request r s c) e =
        let same : exchange_by r Balanced Initiator m.from m.to ≡ x = same_exchange-is (exchange_by r Balanced Initiator m.from m.to) x (and_parts _ _ e).0 in
        eq-eqb _ _ (ap (λ (z : Exchange). z.round) same)
    go Push (Query r s y o) e =
        let same : exchange_by r Push Initiator m.from m.to ≡ x = same_exchange-is (exchange_by r Push Initiator m.from m.to) x (and_parts _ _ e).0 in
        eq-eqb _ _ (ap (λ (z : Exchange). z.round) same)
    go Balanced _ e = cc
    go Push _ e = cc

-- one message asks for only one exchange
asks-one : (x y : Exchange) (m : Message) → x.kind ≡ y.kind → is_of (request_kind x.kind) x Initiator m ≡ true → is_of (request_kind y.kind) y Initiator m ≡ true → x ≡ y
asks-one x y m k e f = go (part_of m.body) (and_parts _ _ e).1 (and_parts _ _ f).1
  where
    go : (o : Option (ℕ × XKind × Role)) → option_map_or (is_place x Initiator) (option_map (place_by m.from m.to) o) false ≡ true
        → option_map_or (is_place y Initiator) (option_map (place_by m.from m.to) o) false ≡ true → x ≡ y
    go None e f = cc
    go (Some p) e f = sym (same_exchange-is _ x (and_parts _ _ e).0) ∙ same_exchange-is _ y (and_parts _ _ f).0

-- a new seat is the count so far, at a request of this exchange
pub new-seat : (log : Log) (x : Exchange) (e : Entry) (n : ℕ) → option_map (λ d. count_heard (has_kind_and_round (request_kind x.kind) x.round) log) (if_passes (is_of (request_kind x.kind) x Initiator) (heard_in e)) ≡ Some n
    → (n ≡ count_heard (has_kind_and_round (request_kind x.kind) x.round) log) × ((d : Datagram) × (heard_in e ≡ Some d) × (is_of (request_kind x.kind) x Initiator d.message ≡ true))
new-seat log x e n h = go (if_passes (is_of (request_kind x.kind) x Initiator) (heard_in e)) refl h
  where
    go : (o : Option Datagram) → if_passes (is_of (request_kind x.kind) x Initiator) (heard_in e) ≡ o → option_map (λ d. count_heard (has_kind_and_round (request_kind x.kind) x.round) log) o ≡ Some n
        → (n ≡ count_heard (has_kind_and_round (request_kind x.kind) x.round) log) × ((d : Datagram) × (heard_in e ≡ Some d) × (is_of (request_kind x.kind) x Initiator d.message ≡ true))
    go None f h = cc
    go (Some d) f h = let p = if_passes-is (is_of (request_kind x.kind) x Initiator) (heard_in e) d f in (cc, (d, p.0, p.1))

count-grows : (p : Message → Bool) (e : Entry) (log : Log) → count_heard p log ≤ count_heard p (e ∷ log)
count-grows p e log = omega arith

count-one : (p : Message → Bool) (e : Entry) (log : Log) (d : Datagram) → heard_in e ≡ Some d → p d.message ≡ true → count_heard p (e ∷ log) ≡ count_heard p log + 1
count-one p e log d h k = rw (h, k) refl

-- a seat is below the count of requests
seat-below : (log : Log) (x : Exchange) (n : ℕ) → seat log x ≡ Some n → n < count_heard (has_kind_and_round (request_kind x.kind) x.round) log
seat-below [] x n e = cc
seat-below (e ∷ log) x n h = go (option_or-cases (seat log x) _ n h) (seat-below log x n)
  where
    go : (seat log x ≡ Some n) ⊎ ((seat log x ≡ None) × (option_map (λ d. count_heard (has_kind_and_round (request_kind x.kind) x.round) log) (if_passes (is_of (request_kind x.kind) x Initiator) (heard_in e)) ≡ Some n))
        → (seat log x ≡ Some n → n < count_heard (has_kind_and_round (request_kind x.kind) x.round) log) → n < count_heard (has_kind_and_round (request_kind x.kind) x.round) (e ∷ log)
    go (inl s) k = let below = k s in let grows = count-grows (has_kind_and_round (request_kind x.kind) x.round) e log in omega (arith, below, grows)
    go (inr s) k =
        let w = new-seat log x e n s.1 in
        let one = count-one (has_kind_and_round (request_kind x.kind) x.round) e log w.1.0 w.1.1 (asks-counts x w.1.0.message w.1.2) in
        let is : n ≡ count_heard (has_kind_and_round (request_kind x.kind) x.round) log = w.0 in
        omega (arith, one, is)

-- a new seat is one that no exchange of its round and kind has
new-differs : (log : Log) (x y : Exchange) (e : Entry) (n : ℕ) → x.kind ≡ y.kind → x.round ≡ y.round → seat log x ≡ Some n
    → option_map (λ d. count_heard (has_kind_and_round (request_kind y.kind) y.round) log) (if_passes (is_of (request_kind y.kind) y Initiator) (heard_in e)) ≡ Some n → ⊥
new-differs log x y e n k r a b =
    let below : n < count_heard (has_kind_and_round (request_kind y.kind) y.round) log = rw (← k, ← r) (seat-below log x n a) in
    let is : n ≡ count_heard (has_kind_and_round (request_kind y.kind) y.round) log = (new-seat log y e n b).0 in
    omega (arith, below, is)

both-new : (log : Log) (x y : Exchange) (e : Entry) (n : ℕ) → x.kind ≡ y.kind
    → (d : Datagram) × (heard_in e ≡ Some d) × (is_of (request_kind x.kind) x Initiator d.message ≡ true)
    → (d : Datagram) × (heard_in e ≡ Some d) × (is_of (request_kind y.kind) y Initiator d.message ≡ true) → x ≡ y
both-new log x y e n k a b =
    let same : a.0 ≡ b.0 = (let p = a.1 in let q = b.1 in cc) in
    asks-one x y b.0.message k (subst (λ z. is_of (request_kind x.kind) x Initiator z.message ≡ true) same a.2) b.2

-- a seat of a round and kind belongs to one exchange
pub seat-unique : (log : Log) (x y : Exchange) (n : ℕ) → x.kind ≡ y.kind → x.round ≡ y.round → seat log x ≡ Some n → seat log y ≡ Some n → x ≡ y
seat-unique [] x y n k r a b = cc
seat-unique (e ∷ log) x y n k r a b = go (option_or-cases (seat log x) _ n a) (option_or-cases (seat log y) _ n b) (seat-unique log x y n k r)
  where
    go : (seat log x ≡ Some n) ⊎ ((seat log x ≡ None) × (option_map (λ d. count_heard (has_kind_and_round (request_kind x.kind) x.round) log) (if_passes (is_of (request_kind x.kind) x Initiator) (heard_in e)) ≡ Some n))
        → (seat log y ≡ Some n) ⊎ ((seat log y ≡ None) × (option_map (λ d. count_heard (has_kind_and_round (request_kind y.kind) y.round) log) (if_passes (is_of (request_kind y.kind) y Initiator) (heard_in e)) ≡ Some n))
        → (seat log x ≡ Some n → seat log y ≡ Some n → x ≡ y) → x ≡ y
    go (inl p) (inl q) f = f p q
    go (inl p) (inr q) f = absurd (new-differs log x y e n k r p q.1)
    go (inr p) (inl q) f = absurd (new-differs log y x e n (sym k) (sym r) q p.1)
    go (inr p) (inr q) f = both-new log x y e n k (new-seat log x e n p.1).1 (new-seat log y e n q.1).1

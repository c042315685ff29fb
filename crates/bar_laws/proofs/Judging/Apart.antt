-- Two datagrams of one sender to one receiver, of different exchanges, show nothing but the leaves of their signatures.
use Rattle.std.proofs.Common.{◌≡◌, ℕ, Bool, true, false, ◌∷◌, refl, sym, ap, ◌∙◌, ◌&&◌, eqb}
use Rattle.std.specs.Prelude.{Option, Some, None, option_map}
use Rattle.std.specs.Bool.{then_some}
use Rattle.std.specs.Option.{option_or, option_map_or}
use Rattle.std.specs.Str.{bytes_eq}
use Rattle.std.proofs.lemmas.Bool.{and_left, and_right, both_ways}
use Rattle.bar_terms.specs.Table.{Table}
use Rattle.bar_window.specs.Exchange.{same_exchange, same_role, kind_code, role_code}
use Rattle.bar_window.specs.declared.exchange.Exchange.{Exchange}
use Rattle.bar_window.specs.declared.exchange.Role.{Role}
use Rattle.bar_window.specs.declared.exchange.Role.TheVariants.{Initiator, Responder}
use Rattle.bar_window.specs.declared.exchange.XKind.{XKind}
use Rattle.bar_window.specs.declared.exchange.XKind.TheVariants.{Balanced, Push}
use Rattle.bar_window.proofs.Exchanges.{same_exchange-is, same_exchange_refl}
use Rattle.bar_wire.specs.Bodies.{briefcase_in, key_in, is_peer_kind}
use Rattle.bar_wire.specs.Datagram.{Message, Datagram, Body, Request, Response, Query, Reply, Case, Key, Briefcase, KeyGiven, kind_number, part_of, named, identity_of, exchange_by, exchange_of, place_by}
use Rattle.bar_rules.specs.Values.{leaf_named}
use Rattle.bar_rules.specs.Member.{Session}
use Rattle.bar_rules.specs.Judge.Verdict.{LeafTwice, same_place, key_fits, pair_opening, bad_opening, is_twice, fault_by_case, fault_in_order, fault_of_two}
use Rattle.bar_wire.proofs.Codes.{same_kind_code, same_role_code}
use Rattle.bar_laws.proofs.Logs.{same_bytes-is, briefcase-is}
use Rattle.bar_laws.proofs.Judging.ShownStays.{key_of-is}

-- ---- what identities name

abbrev Part : Type 0
Part = ℕ × XKind × Role

same-part : (r q : ℕ) (k j : XKind) (role side : Role) → r ≡ q → kind_code k ≡ kind_code j → role_code role ≡ role_code side → ◌≡◌ {A = Option Part} (Some (r, k, role)) (Some (q, j, side))
same-part r q k j role side a b c =
    let kinds : k ≡ j = same_kind_code k j b in
    let roles : role ≡ side = same_role_code role side c in
    λ i. Some (a i, kinds i, roles i)

-- messages that peers sign with one identity are of one part of an exchange
one-part : (a b : Body) (from to : ℕ) → is_peer_kind a ≡ true → is_peer_kind b ≡ true → kind_number a ∷ named a from to ≡ kind_number b ∷ named b from to → part_of a ≡ part_of b
one-part (Request r s c) (Request q t d) from to p o e = let same : r ≡ q = cc in same-part r q Balanced Balanced Initiator Initiator same refl refl
one-part (Response r hb) (Response q hc) from to p o e = let same : r ≡ q = cc in same-part r q Balanced Balanced Responder Responder same refl refl
one-part (Query r s us vs) (Query q t xs ys) from to p o e = let same : r ≡ q = cc in same-part r q Push Push Initiator Initiator same refl refl
one-part (Reply r us vs z) (Reply q xs ys y) from to p o e = let same : r ≡ q = cc in same-part r q Push Push Responder Responder same refl refl
one-part (Case c) (Case d) from to p o e =
    let round : c.round ≡ d.round = cc in
    let kind : kind_code c.kind ≡ kind_code d.kind = cc in
    let role : role_code c.role ≡ role_code d.role = cc in
    same-part c.round d.round c.kind d.kind c.role d.role round kind role
one-part (Key c) (Key d) from to p o e =
    let round : c.round ≡ d.round = cc in
    let kind : kind_code c.kind ≡ kind_code d.kind = cc in
    let role : role_code c.role ≡ role_code d.role = cc in
    same-part c.round d.round c.kind d.kind c.role d.role round kind role
one-part _ _ from to p o e = cc

-- so they are of one exchange, if their sender and receiver are the same
one-exchange : (m n : Message) → is_peer_kind m.body ≡ true → is_peer_kind n.body ≡ true → m.from ≡ n.from → m.to ≡ n.to → identity_of m ≡ identity_of n → exchange_of m ≡ exchange_of n
one-exchange m n p q from to e =
    let names : kind_number m.body ∷ named m.body m.from m.to ≡ kind_number n.body ∷ named n.body m.from m.to =
    e ∙ (λ i. kind_number n.body ∷ named n.body (sym from i) (sym to i))
    in
    λ i. option_map (λ p. p.exchange) (option_map (place_by (from i) (to i)) (one-part m.body n.body m.from m.to p q names i))

-- ---- what peers sign is of an exchange

in-exchange : (m : Message) → is_peer_kind m.body ≡ true → (x : Exchange) × (exchange_of m ≡ Some x)
in-exchange m p = go m.body p
  where
    go : (b : Body) → is_peer_kind b ≡ true → (x : Exchange) × (option_map (λ p. p.exchange) (option_map (place_by m.from m.to) (part_of b)) ≡ Some x)
    go (Request r s c) p = (exchange_by r Balanced Initiator m.from m.to, refl)
    go (Response r hb) p = (exchange_by r Balanced Responder m.from m.to, refl)
    go (Query r s us vs) p = (exchange_by r Push Initiator m.from m.to, refl)
    go (Reply r us vs z) p = (exchange_by r Push Responder m.from m.to, refl)
    go (Case c) p = (exchange_by c.round c.kind c.role m.from m.to, refl)
    go (Key k) p = (exchange_by k.round k.kind k.role m.from m.to, refl)
    go _ p = cc

abbrev same_of : Option Exchange → Option Exchange → Bool
same_of o p = option_map_or (λ x. option_map_or (λ y. same_exchange x y) p false) o false

place-same : (m n : Message) → is_peer_kind m.body ≡ true → exchange_of m ≡ exchange_of n → same_place m n ≡ true
place-same m n p e =
    let x = in-exchange m p in
    (λ i. same_of (x.1 i) ((sym e ∙ x.1) i)) ∙ same_exchange_refl x.0

place-is : (m n : Message) → same_place m n ≡ true → exchange_of m ≡ exchange_of n
place-is m n e = go (exchange_of m) (exchange_of n) e
  where
    go : (o p : Option Exchange) → same_of o p ≡ true → o ≡ p
    go None p e = cc
    go (Some x) None e = cc
    go (Some x) (Some y) e = ap Some (same_exchange-is x y e)

-- two datagrams of one sender to one receiver, of two exchanges
pub record AreApart (d e : Datagram) : Type 0 where
  pub one : is_peer_kind d.message.body ≡ true
  pub two : is_peer_kind e.message.body ≡ true
  pub from : d.message.from ≡ e.message.from
  pub to : d.message.to ≡ e.message.to
  pub apart : same_place d.message e.message ≡ false

flipped : (d e : Datagram) → AreApart d e → AreApart e d
flipped d e a = record { one = a.two; two = a.one; from = sym a.from; to = sym a.to; apart = other (same_place e.message d.message) refl }
  where
    other : (b : Bool) → same_place e.message d.message ≡ b → b ≡ false
    other false f = refl
    other true f = absurd (both_ways _ a.apart (place-same d.message e.message a.one (sym (place-is e.message d.message f))))

other-identity : (d e : Datagram) → AreApart d e → bytes_eq (identity_of d.message) (identity_of e.message) ≡ false
other-identity d e a = go (bytes_eq (identity_of d.message) (identity_of e.message)) refl
  where
    go : (b : Bool) → bytes_eq (identity_of d.message) (identity_of e.message) ≡ b → b ≡ false
    go false f = refl
    go true f =
        absurd (both_ways _ a.apart (place-same d.message e.message a.one
        (one-exchange d.message e.message a.one a.two a.from a.to (same_bytes-is _ _ f))))

-- ---- what the two show

no-opening : (s : Session) (t : Table) (d e : Datagram) → AreApart d e → bad_opening s t d.message e.message (briefcase_in d.message.body) (key_in e.message.body) ≡ false
no-opening s t d e a = go (briefcase_in d.message.body) (key_in e.message.body) refl refl
  where
    of-two : (c : Briefcase) (k : KeyGiven) → d.message.body ≡ Case c → e.message.body ≡ Key k
        → same_exchange (exchange_by c.round c.kind c.role d.message.from d.message.to) (exchange_by k.round k.kind k.role e.message.from e.message.to) ≡ false
    of-two c k p q =
        (λ i. same_of (option_map (λ p. p.exchange) (option_map (place_by d.message.from d.message.to) (part_of (sym p i))))
        (option_map (λ p. p.exchange) (option_map (place_by e.message.from e.message.to) (part_of (sym q i)))))
        ∙ a.apart

    go : (oc : Option Briefcase) (ok : Option KeyGiven) → briefcase_in d.message.body ≡ oc → key_in e.message.body ≡ ok → bad_opening s t d.message e.message oc ok ≡ false
    go None ok p q = refl
    go (Some c) None p q = refl
    go (Some c) (Some k) p q =
        and_left (key_fits d.message c e.message k) (pair_opening s t d.message c k)
        (and_left (eqb d.message.to e.message.to && same_exchange (exchange_by c.round c.kind c.role d.message.from d.message.to) (exchange_by k.round k.kind k.role e.message.from e.message.to)) (same_role c.role k.role)
        (and_right (eqb d.message.to e.message.to) _ (of-two c k (briefcase-is d.message.body c p) (key_of-is e.message.body k q))))

no-words-of_case : (s : Session) (m n : Message) (o : Option Briefcase) → same_place m n ≡ false → fault_by_case s m n o ≡ None
no-words-of_case s m n None e = refl
no-words-of_case s m n (Some c) e = rw e refl

no-fault : (s : Session) (t : Table) (d e : Datagram) → AreApart d e → fault_in_order s t d.message e.message ≡ None
no-fault s t d e a =
    let opening = no-opening s t d e a in
    let twice : is_twice s d.message e.message ≡ false = and_left (bytes_eq (identity_of d.message) (identity_of e.message)) _ (other-identity d e a) in
    let case = no-words-of_case s d.message e.message (briefcase_in e.message.body) a.apart in
    rw (opening, twice, case) refl

-- nothing but that their signatures name one leaf
pub apart-shows : (s : Session) (t : Table) (d e : Datagram) → AreApart d e → fault_of_two s t d e ≡ then_some (eqb (leaf_named s d) (leaf_named s e)) LeafTwice
apart-shows s t d e a =
    let first = no-fault s t d e a in
    let second = no-fault s t e d (flipped d e a) in
    let other = other-identity d e a in
    rw (first, second, other) (last (eqb (leaf_named s d) (leaf_named s e)))
  where
    last : (b : Bool) → option_or (then_some b LeafTwice) None ≡ then_some b LeafTwice
    last true = refl
    last false = refl

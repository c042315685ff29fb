-- The recorded exchanges as one list: inserting into a rising list, and rising lists with the same members are equal.
use Rattle.std.proofs.Common.{◌≡◌, ◌⊎◌, ◌↔◌, ℕ, Bool, true, false, List, [], ◌∷◌, ◌++◌, refl, sym, ap, ◌∙◌, subst, cond, inl, inr, arith}
use Rattle.std.specs.Prelude.{◌==◌, Option, Some, None, option_map, option_and_then, is_some, find, filter, Contains}
use Rattle.std.specs.List.{AllByRecursion}
use Rattle.std.specs.Option.{option_map_or}
use Rattle.std.proofs.lemmas.Bool.{and_parts, both_ways, or_cases}
use Rattle.bar_window.specs.declared.exchange.Exchange.{Exchange}
use Rattle.bar_window.specs.declared.exchange.Role.{Role}
use Rattle.bar_window.specs.declared.exchange.Role.TheVariants.{Initiator, Responder}
use Rattle.bar_window.specs.Exchange.{same_exchange, other_role, party_on}
use Rattle.bar_wire.specs.Bodies.{briefcase_in}
use Rattle.bar_wire.specs.Datagram.{Datagram, Message, Place, exchange_of, is_of, is_place, place_of}
use Rattle.bar_wire.specs.Inputs.{Input}
use Rattle.bar_wire.specs.declared.kind.Kind.{Kind}
use Rattle.bar_wire.specs.declared.kind.Kind.TheVariants as kinds
use Rattle.bar_rules.specs.Member.{Session}
use Rattle.bar_rules.specs.Peer.Exchanges.{inserted, precedes, IsRising}
use Rattle.bar_rules.proofs.Inserted.{precedes-not_same, precedes-chain}
use Rattle.bar_rules.proofs.Rising.{inserted-rising}
use Rattle.bar_audit.specs.Exchanges.{AreRecorded, is_found, is_recorded}
use Rattle.bar_audit.specs.Code.Found.{is_case, is_key, case_in, has_key_in}
use Rattle.bar_audit.specs.Listed.{exchanges_in, exchanges_named, in_order, recorded}
use Rattle.bar_audit.specs.Recordings.{Recording, datagrams_in, inputs_of}
use Rattle.bar_window.proofs.Ranges.{Contains-later}
use Rattle.bar_window.proofs.Exchanges.{same_exchange-is, same_exchange_refl}
use Rattle.bar_audit.proofs.Lists.{any-found, contains-cases, contains-filter, contains-here, filter-contains, find-found, mapped}

-- ---- inserting into a rising list

in_order-rising : (xs : List Exchange) → IsRising (in_order xs)
in_order-rising [] = tt
in_order-rising (x ∷ xs) = inserted-rising x (in_order xs) (in_order-rising xs)

-- ---- its members

inserted-holds : (x : Exchange) (xs : List Exchange) → Contains (inserted x xs) x
inserted-holds x [] = contains-here x x [] refl
inserted-holds x (y ∷ ys) = go (same_exchange x y) (precedes x y) refl (inserted-holds x ys)
  where
    go : (a b : Bool) → same_exchange x y ≡ a → Contains (inserted x ys) x
        → Contains (cond a (y ∷ ys) (cond b (x ∷ y ∷ ys) (y ∷ inserted x ys))) x
    go true b e w = contains-here y x ys (sym (same_exchange-is x y e))
    go false true e w = contains-here x x (y ∷ ys) refl
    go false false e w = Contains-later y x (inserted x ys) w

inserted-keeps : (x z : Exchange) (xs : List Exchange) → Contains xs z → Contains (inserted x xs) z
inserted-keeps x z [] c = absurd (omega (arith, c.1))
inserted-keeps x z (y ∷ ys) c = go (same_exchange x y) (precedes x y) (inserted-keeps x z ys)
  where
    go : (a b : Bool) → (Contains ys z → Contains (inserted x ys) z)
        → Contains (cond a (y ∷ ys) (cond b (x ∷ y ∷ ys) (y ∷ inserted x ys))) z
    go true b rest = c
    go false true rest = Contains-later x z (y ∷ ys) c
    go false false rest =
        contains-cases (Contains (y ∷ inserted x ys) z) y z ys c (λ same. contains-here y z (inserted x ys) same)
        (λ more. Contains-later y z (inserted x ys) (rest more))

inserted-only : (x z : Exchange) (xs : List Exchange) → Contains (inserted x xs) z → (x ≡ z) ⊎ Contains xs z
inserted-only x z [] c = contains-cases ((x ≡ z) ⊎ Contains [] z) x z [] c (λ same. inl same) (λ more. inr more)
inserted-only x z (y ∷ ys) c = go (same_exchange x y) (precedes x y) c (inserted-only x z ys)
  where
    go : (a b : Bool) → Contains (cond a (y ∷ ys) (cond b (x ∷ y ∷ ys) (y ∷ inserted x ys))) z
        → (Contains (inserted x ys) z → (x ≡ z) ⊎ Contains ys z) → (x ≡ z) ⊎ Contains (y ∷ ys) z
    go true b c rest = inr c
    go false true c rest = contains-cases ((x ≡ z) ⊎ Contains (y ∷ ys) z) x z (y ∷ ys) c (λ same. inl same) (λ more. inr more)
    go false false c rest =
        contains-cases ((x ≡ z) ⊎ Contains (y ∷ ys) z) y z (inserted x ys) c (λ same. inr (contains-here y z ys same))
        (λ more. elim (rest more) [ inl e ↦ inl e | inr k ↦ inr (Contains-later y z ys k) ])

in_order-keeps : (z : Exchange) (xs : List Exchange) → Contains xs z → Contains (in_order xs) z
in_order-keeps z [] c = c
in_order-keeps z (x ∷ xs) c =
    contains-cases (Contains (inserted x (in_order xs)) z) x z xs c
    (λ same. subst (λ w. Contains (inserted x (in_order xs)) w) same (inserted-holds x (in_order xs)))
    (λ more. inserted-keeps x z (in_order xs) (in_order-keeps z xs more))

in_order-only : (z : Exchange) (xs : List Exchange) → Contains (in_order xs) z → Contains xs z
in_order-only z [] c = c
in_order-only z (x ∷ xs) c =
    elim (inserted-only x z (in_order xs) c) [
      | inl same ↦ contains-here x z xs same
      | inr more ↦ Contains-later x z xs (in_order-only z xs more)
    ]

-- ---- rising lists with the same members are equal

precedes-all : (x z : Exchange) (xs : List Exchange) → AllByRecursion (λ y. precedes x y ≡ true) xs → Contains xs z → precedes x z ≡ true
precedes-all x z [] h c = absurd (omega (arith, c.1))
precedes-all x z (y ∷ ys) h c =
    contains-cases (precedes x z ≡ true) y z ys c (λ same. subst (λ w. precedes x w ≡ true) same h.0) (λ more. precedes-all x z ys h.1 more)

not-itself : (x : Exchange) → precedes x x ≡ true → ⊥
not-itself x e = both_ways (precedes x x) (precedes-not_same x x (same_exchange_refl x)) e

same-heads : (x y : Exchange) (xs ys : List Exchange) → AllByRecursion (λ z. precedes x z ≡ true) xs
    → AllByRecursion (λ z. precedes y z ≡ true) ys → Contains (y ∷ ys) x → Contains (x ∷ xs) y → x ≡ y
same-heads x y xs ys h k c d =
    contains-cases (x ≡ y) y x ys c (λ same. sym same)
    (λ more. contains-cases (x ≡ y) x y xs d (λ same. same)
    (λ other. absurd (not-itself x (precedes-chain x y x (precedes-all x y xs h other) (precedes-all y x ys k more)))))

tail-holds : (x y z : Exchange) (xs ys : List Exchange) → x ≡ y → AllByRecursion (λ w. precedes x w ≡ true) xs
    → (Contains (x ∷ xs) z → Contains (y ∷ ys) z) → Contains xs z → Contains ys z
tail-holds x y z xs ys e h into c =
    contains-cases (Contains ys z) y z ys (into (Contains-later x z xs c))
    (λ same. absurd (not-itself x (subst (λ w. precedes x w ≡ true) (sym (e ∙ same)) (precedes-all x z xs h c)))) (λ more. more)

one-list : (xs ys : List Exchange) → IsRising xs → IsRising ys → ((z : Exchange) → Contains xs z ↔ Contains ys z) → xs ≡ ys
one-list [] [] h k e = refl
one-list [] (y ∷ ys) h k e = absurd (let c : Contains [] y = (e y).1 (contains-here y y ys refl) in omega (arith, c.1))
one-list (x ∷ xs) [] h k e = absurd (let c : Contains [] x = (e x).0 (contains-here x x xs refl) in omega (arith, c.1))
one-list (x ∷ xs) (y ∷ ys) h k e =
    let same : x ≡ y = same-heads x y xs ys h.0 k.0 ((e x).0 (contains-here x x xs refl)) ((e y).1 (contains-here y y ys refl)) in
    let rest : xs ≡ ys = one-list xs ys h.1 k.1
    (λ z. (tail-holds x y z xs ys same h.0 (e z).0, tail-holds y x z ys xs (sym same) k.0 (e z).1))
    in
    λ i. same i ∷ rest i

-- ---- a recorded exchange is that of a datagram

exchange-is : (kind : Kind) (x : Exchange) (role : Role) (m : Message) → is_of kind x role m ≡ true → exchange_of m ≡ Some x
exchange-is kind x role m e = go (place_of m) (and_parts _ _ e).1
  where
    go : (o : Option Place) → option_map_or (is_place x role) o false ≡ true → option_map (λ p. p.exchange) o ≡ Some x
    go None h = cc
    go (Some p) h = ap Some (same_exchange-is p.exchange x (and_parts _ _ h).0)

module _ (s : Session) (x : Exchange) (role : Role) where
  case-named : (inputs : List Input) → is_some (case_in s x role inputs) ≡ true → Contains (exchanges_in s inputs) x
  case-named inputs h = go (find (is_case s x role) (datagrams_in s inputs)) refl h
    where
      go : (o : Option Datagram) → find (is_case s x role) (datagrams_in s inputs) ≡ o
          → is_some (option_and_then (λ (d : Datagram). briefcase_in d.message.body) o) ≡ true → Contains (exchanges_in s inputs) x
      go None e h = cc
      go (Some d) e h =
          let f = find-found (is_case s x role) (datagrams_in s inputs) d e in
          mapped (λ (d : Datagram). exchange_of d.message) (datagrams_in s inputs) d x f.stands
          (exchange-is kinds.Case x role d.message (and_parts _ _ (and_parts _ _ f.passes).0).0)

  key-named : (inputs : List Input) → has_key_in s x role inputs ≡ true → Contains (exchanges_in s inputs) x
  key-named inputs h =
      let f = any-found (is_key s x role) (datagrams_in s inputs) h in
      mapped (λ (d : Datagram). exchange_of d.message) (datagrams_in s inputs) f.0 x f.1.stands
      (exchange-is kinds.Key x role f.0.message (and_parts _ _ f.1.passes).0)

-- ---- in one of the recordings

contains-left : (xs ys : List Exchange) (x : Exchange) → Contains xs x → Contains (xs ++ ys) x
contains-left [] ys x c = absurd (omega (arith, c.1))
contains-left (y ∷ xs) ys x c =
    contains-cases (Contains (y ∷ (xs ++ ys)) x) y x xs c (λ same. contains-here y x (xs ++ ys) same)
    (λ more. Contains-later y x (xs ++ ys) (contains-left xs ys x more))

contains-right : (xs ys : List Exchange) (x : Exchange) → Contains ys x → Contains (xs ++ ys) x
contains-right [] ys x c = c
contains-right (y ∷ xs) ys x c = Contains-later y x (xs ++ ys) (contains-right xs ys x c)

given-named : (s : Session) (x : Exchange) (recordings : List Recording) (party : ℕ) (inputs : List Input)
    → inputs_of recordings party ≡ Some inputs → Contains (exchanges_in s inputs) x → Contains (exchanges_named s recordings) x
given-named s x [] party inputs e c = cc
given-named s x (r ∷ recordings) party inputs e c = go (r.party == party) e (λ more. given-named s x recordings party inputs more c)
  where
    go : (b : Bool) → cond b (Some r.inputs) (inputs_of recordings party) ≡ Some inputs
        → (inputs_of recordings party ≡ Some inputs → Contains (exchanges_named s recordings) x)
        → Contains (exchanges_in s r.inputs ++ exchanges_named s recordings) x
    go true e rest =
        let same : r.inputs ≡ inputs = cc in
        contains-left _ _ x (subst (λ given. Contains (exchanges_in s given) x) (sym same) c)
    go false e rest = contains-right (exchanges_in s r.inputs) _ x (rest e)

found-named : (s : Session) (recordings : List Recording) (x : Exchange) (role : Role) → is_found s recordings x role ≡ true
    → Contains (exchanges_named s recordings) x
found-named s recordings x role h =
    let party = party_on x (other_role role) in
    elim (or_cases _ _ h) [ inl case ↦ by-case (inputs_of recordings party) refl case | inr key ↦ by-key (inputs_of recordings party) refl key ]
  where
    by-case : (o : Option (List Input)) → inputs_of recordings (party_on x (other_role role)) ≡ o
        → is_some (option_and_then (case_in s x role) o) ≡ true → Contains (exchanges_named s recordings) x
    by-case None e h = cc
    by-case (Some inputs) e h = given-named s x recordings (party_on x (other_role role)) inputs e (case-named s x role inputs h)

    by-key : (o : Option (List Input)) → inputs_of recordings (party_on x (other_role role)) ≡ o
        → option_map_or (has_key_in s x role) o false ≡ true → Contains (exchanges_named s recordings) x
    by-key None e h = cc
    by-key (Some inputs) e h = given-named s x recordings (party_on x (other_role role)) inputs e (key-named s x role inputs h)

recorded-named : (s : Session) (recordings : List Recording) (x : Exchange) → is_recorded s recordings x ≡ true
    → Contains (exchanges_named s recordings) x
recorded-named s recordings x h =
    elim (or_cases _ _ (and_parts _ _ h).1) [
      | inl first ↦ found-named s recordings x Initiator first
      | inr second ↦ found-named s recordings x Responder second
    ]

-- ---- the law

pub is-listed : (s : Session) (recordings : List Recording) → AreRecorded s recordings (recorded s recordings)
unfolding recorded
is-listed s recordings = record {
  rising = in_order-rising (filter (is_recorded s recordings) (exchanges_named s recordings));
  exactly = λ x. (
    λ c. (contains-filter (is_recorded s recordings) (exchanges_named s recordings) x (in_order-only x _ c)).0,
    λ h. in_order-keeps x _ (filter-contains (is_recorded s recordings) (exchanges_named s recordings) x (recorded-named s recordings x h) h),
  );
}

pub is-one : (s : Session) (recordings : List Recording) (xs : List Exchange) → AreRecorded s recordings xs → xs ≡ recorded s recordings
is-one s recordings xs are =
    let listed = is-listed s recordings in
    one-list xs (recorded s recordings) are.rising listed.rising
    (λ z. (λ c. (listed.exactly z).1 ((are.exactly z).0 c), λ c. (are.exactly z).1 ((listed.exactly z).0 c)))

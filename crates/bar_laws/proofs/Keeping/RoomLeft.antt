-- If an entry makes an exchange kept, a room was left for it.
use Rattle.bar_rules.specs.Peer.Exchanges.{role_of, request_kind, seat, seat_in}
use Rattle.bar_rules.specs.Peer.Knowledge.{known, request_deadline}
use Rattle.bar_rules.specs.Peer.Log.{Log, Entry, Heard, Said, ticks, ticks_in, round_now, if_passes, said_in, first_said, has_said}
use Rattle.bar_session.specs.Time.{round_after}
use Rattle.bar_rules.specs.Member.{Member}
use Rattle.bar_rules.specs.Peer.Rules.{IsObedient, Allows}
use Rattle.bar_window.specs.Exchange.{same_exchange}
use Rattle.bar_window.specs.declared.exchange.Exchange.{Exchange}
use Rattle.bar_window.specs.declared.exchange.Role.{Role}
use Rattle.bar_window.specs.declared.exchange.Role.TheVariants.{Initiator, Responder}
use Rattle.bar_window.proofs.Exchanges.{same_exchange-is}
use Rattle.bar_wire.specs.Limits.{exchanges_a_round}
use Rattle.bar_wire.specs.Datagram.{Message, Datagram, is_of, round_of}
use Rattle.std.proofs.Common.{◌≡◌, ℕ, ◌+◌, ◌*◌, ◌≤◌, Bool, true, false, List, [], ◌∷◌, refl, sym, ap, ◌∙◌, subst, inl, inr, length, arith}
use Rattle.std.specs.Prelude.{Some, None, ◌⊎◌, is_some, option_map, option_and_then, nat_le}
use Rattle.std.specs.Bool.{then_some}
use Rattle.std.specs.List.{AllByRecursion, IsDistinct, list_all}
use Rattle.std.proofs.lemmas.Bool.{and_parts, and_from, and_right, both_ways, le-leb}
use Rattle.bar_laws.specs.Rooms.{Asking, Own, Room, asking_at, asking_of, room_of, is_kept, is_recent, LeavesRoom}
use Rattle.bar_laws.specs.Growing.{IsLater}
use Rattle.bar_laws.proofs.Logs.{no-value, round-of-exchange, option_or-cases, if_passes-is, said_in-is, heard_in-is, some-is, admitted-row}
use Rattle.bar_laws.proofs.Keeping.Few.{said-now, heard-near, keeps-few}
use Rattle.bar_laws.proofs.Keeping.RoomsOf.{own-said, asked-at, place-parts, place-later}
use Rattle.bar_laws.proofs.Runs.{new-seat}

-- ---- the entry that makes an exchange kept

-- It isn't a tick, and a request for the exchange may still be admitted.
record IsNew (before : Log) (e : Entry) (x : Exchange) : Type 0 where
  quiet : ticks_in e ≡ 0
  near : round_now before ≤ x.round + request_deadline

new-said : (me : Member) (before : Log) (e : Entry) (x : Exchange) (d : Datagram) → Allows me before e → if_passes (is_of (request_kind x.kind) x Initiator) (said_in e) ≡ Some d → IsNew before e x
new-said me before e x d al f =
    let q = if_passes-is (is_of (request_kind x.kind) x Initiator) (said_in e) d f in
    let is : e ≡ Said d = said_in-is e d q.0 in
    let own : Allows me before (Said d) = subst (λ y. Allows me before y) is al in
    let now : round_of d.message.body ≡ round_now before = said-now me before d.message.to d.message.body x.kind (and_parts _ _ q.1).0 own.rule.rule in
    let round : round_of d.message.body ≡ x.round = round-of-exchange (request_kind x.kind) x Initiator d.message q.1 in
    record { quiet = ap ticks_in is; near = omega (arith, now, round) }

new-heard : (me : Member) (before : Log) (e : Entry) (x : Exchange) (n : ℕ) → Allows me before e → seat_in before x e ≡ Some n → IsNew before e x
new-heard me before e x n al f =
    let new = (new-seat before x e n f).1 in
    let d : Datagram = new.0 in
    let is : e ≡ Heard d = heard_in-is e d new.1 in
    let own : Allows me before (Heard d) = subst (λ y. Allows me before y) is al in
    let near = (heard-near me before d.message.from d.message.to d.message.body x.kind (and_parts _ _ new.2).0 (admitted-row me before d own.0)).1 in
    let round : round_of d.message.body ≡ x.round = round-of-exchange (request_kind x.kind) x Initiator d.message new.2 in
    record { quiet = ap ticks_in is; near = omega (arith, near, round) }

asked-new : (me : Member) (before : Log) (e : Entry) (x : Exchange) (role : Role) (a : Asking) → Allows me before e → asking_of (known me (e ∷ before)) x role ≡ Some a → (asking_of (known me before) x role ≡ Some a) ⊎ IsNew before e x
asked-new me before e x Initiator a al h =
    let own = own-said (has_said p (e ∷ before)) a h in
    let f = some-is (first_said p (e ∷ before)) own.0 in
    go f.0 own.1 (option_or-cases (first_said p before) (if_passes p (said_in e)) f.0 f.1)
  where
    p : Message → Bool
    p = is_of (request_kind x.kind) x Initiator

    go : (d : Datagram) → a ≡ Own → (first_said p before ≡ Some d) ⊎ ((first_said p before ≡ None) × (if_passes p (said_in e) ≡ Some d)) → (asking_of (known me before) x Initiator ≡ Some a) ⊎ IsNew before e x
    go d mine (inl old) = inl (ap (λ o. then_some (is_some o) Own) old ∙ ap Some (sym mine))
    go d mine (inr new) = inr (new-said me before e x d al new.1)
asked-new me before e x Responder a al h = (let n = asked-at (seat (e ∷ before) x) a h in go n.0 n.2 (option_or-cases (seat before x) (seat_in before x e) n.0 n.1))
  where
    go : (n : ℕ) → asking_at n ≡ Some a → (seat before x ≡ Some n) ⊎ ((seat before x ≡ None) × (seat_in before x e ≡ Some n)) → (asking_of (known me before) x Responder ≡ Some a) ⊎ IsNew before e x
    go n at (inl old) = inl (ap (option_and_then asking_at) old ∙ at)
    go n at (inr new) = inr (new-heard me before e x n al new.1)

kept-new : (me : Member) (before : Log) (e : Entry) (x : Exchange) → Allows me before e → is_kept me (known me before) x ≡ false → is_kept me (known me (e ∷ before)) x ≡ true → IsNew before e x
kept-new me before e x al none some =
    let p = some-is (room_of me (known me (e ∷ before)) x) some in
    go p.0 (asked-new me before e x (role_of me x) p.0.asking al (place-parts x (asking_of (known me (e ∷ before)) x (role_of me x)) p.0 p.1).1)
  where
    go : (p : Room) → (asking_of (known me before) x (role_of me x) ≡ Some p.asking) ⊎ IsNew before e x → IsNew before e x
    go p (inl old) = absurd (no-value (room_of me (known me before) x) (record { kind = x.kind; asking = p.asking }) none (ap (option_map (λ (a : Asking). record { kind = x.kind; asking = a })) old))
    go p (inr new) = new

-- ---- room

-- an element that passes a test isn't one that it refuses
apart : (ok : Exchange → Bool) (x : Exchange) (ys : List Exchange) → ok x ≡ false → list_all ok ys ≡ true → AllByRecursion (λ y. same_exchange x y ≡ false) ys
apart ok x [] none a = tt
apart ok x (y ∷ ys) none a = (let p = and_parts _ _ a in (go (same_exchange x y) refl p.0, apart ok x ys none p.1))
  where
    go : (b : Bool) → same_exchange x y ≡ b → ok y ≡ true → same_exchange x y ≡ false
    go false e k = e
    go true e k = absurd (both_ways (ok x) none (ap ok (same_exchange-is x y e) ∙ k))

distinct-more : (x : Exchange) (xs : List Exchange) → AllByRecursion (λ y. same_exchange x y ≡ false) xs → IsDistinct same_exchange xs → IsDistinct same_exchange (x ∷ xs)
unfolding IsDistinct
distinct-more x xs a d = (a, d)

list-more : (p q : Exchange → Bool) (xs : List Exchange) → ((x : Exchange) → p x ≡ true → q x ≡ true) → list_all p xs ≡ true → list_all q xs ≡ true
list-more p q [] f a = refl
list-more p q (x ∷ xs) f a = let c = and_parts _ _ a in and_from _ _ (f x c.0) (list-more p q xs f c.1)

-- a recent exchange that was kept before the entry is so after it, if the entry isn't a tick
recent-later : (me : Member) (before : Log) (e : Entry) (y : Exchange) → round_now (e ∷ before) ≡ round_now before → is_recent me (known me before) y ≡ true → is_recent me (known me (e ∷ before)) y ≡ true
recent-later me before e y same k =
    let p = and_parts _ _ k in
    let later : IsLater (e ∷ before) before = record { new = e ∷ []; split = refl } in
    and_from _ _ (subst (λ n. nat_le n (y.round + me.session.shape.life) ≡ true) (sym same) p.0) (place-later me (e ∷ before) before y later p.1)

pub leaves-room : (me : Member) (before : Log) (e : Entry) → IsObedient me (e ∷ before) → LeavesRoom me before e
leaves-room me before e h x none some xs distinct recent =
    let now : Exchange → Bool = is_recent me (known me (e ∷ before)) in
    let was : Exchange → Bool = is_recent me (known me before) in
    let life : request_deadline ≤ me.session.shape.life = me.session.shape.shaped.alive in
    let new : IsNew before e x = kept-new me before e x h.0 none some in
    let ticked : ticks (e ∷ before) ≡ ticks before = omega (arith, new.quiet) in
    let same : round_now (e ∷ before) ≡ round_now before = ap round_after ticked in
    let here : now x ≡ true = and_from _ _ (le-leb _ _ (omega (arith, same, new.near, life))) some in
    let rest : list_all now xs ≡ true = list-more was now xs (λ y k. recent-later me before e y same k) recent in
    let few : length (x ∷ xs) ≤ exchanges_a_round * (me.session.shape.life + 2) =
    (keeps-few me (e ∷ before) h).recent (x ∷ xs) (distinct-more x xs (apart was x xs (and_right _ _ none) recent) distinct) (and_from _ _ here rest)
    in
    omega (arith, few)

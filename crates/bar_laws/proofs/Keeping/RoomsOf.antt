-- Each exchange of which anything was admitted or said has a room in its round, and no two of a round have the same room.
use Rattle.bar_wire.specs.Limits.{seats_a_round}
use Rattle.bar_wire.specs.Bodies.{offer_in, commitment_in}
use Rattle.bar_rules.specs.Peer.Admission.{is_row_met, terms_with}
use Rattle.bar_rules.specs.Peer.Exchanges.{role_of, request_kind, seat, seat_in}
use Rattle.bar_rules.specs.Peer.Knowledge.{known, has_heard_of, has_said_of}
use Rattle.bar_rules.specs.Peer.Log.{table, Log, Heard, Said, first_heard, first_said, has_heard, has_said}
use Rattle.bar_rules.specs.Member.{Member}
use Rattle.bar_rules.specs.Peer.Rules.{IsObedient}
use Rattle.bar_rules.specs.Secrets.{commitment_of}
use Rattle.bar_rules.specs.Values.{terms_ok}
use Rattle.bar_window.specs.Exchange.{other_role}
use Rattle.bar_window.specs.Terms.{Terms}
use Rattle.bar_window.specs.declared.exchange.Exchange.{Exchange}
use Rattle.bar_window.specs.declared.exchange.Role.{Role}
use Rattle.bar_window.specs.declared.exchange.Role.TheVariants.{Initiator, Responder}
use Rattle.bar_window.specs.declared.exchange.XKind.{XKind}
use Rattle.bar_window.specs.declared.exchange.XKind.TheVariants.{Balanced, Push}
use Rattle.bar_window.specs.declared.update.UpdateId.{UpdateId}
use Rattle.bar_wire.specs.Datagram.{Datagram, Body, Request, Response, Divulge, Query, Reply, Case, KeyReq, Key, is_of, kind_number, part_of, exchange_by, is_place, place_of}
use Rattle.bar_wire.specs.declared.kind.Kind.TheVariants as kinds
use Rattle.bar_wire.specs.declared.kind.Kind.{Kind}
use Rattle.bar_wire.specs.Kinds.{code_of}
use Rattle.std.proofs.Common.{◌≡◌, ℕ, zero, suc, ◌<◌, Bool, true, false, List, refl, sym, ap, ◌∙◌, subst, inl, inr, eqb, cond, arith, ◌&&◌}
use Rattle.std.specs.Prelude.{Option, Some, None, ◌⊎◌, is_some, option_map, option_and_then}
use Rattle.std.specs.Bool.{then_some}
use Rattle.std.specs.Option.{option_map_or}
use Rattle.std.specs.Str.{bytes_eq}
use Rattle.std.proofs.lemmas.Bool.{and_parts, eqb-true}
use Rattle.bar_laws.specs.Rooms.{Asking, Own, Room, asking_at, asking_of, room_of, AreInRooms}
use Rattle.bar_laws.specs.Growing.{IsLater}
use Rattle.bar_laws.proofs.Logs.{no-value, allowed-at, is_of-is, IsForOneMember, heard-own, WasHeard, later-entry, find-later, map-later, then-later, first_said-was, first_heard-was, some-is, parts-of, IsSaying, names-exchange, saying, is_of-part, receiver-role, admitted-row}
use Rattle.bar_laws.proofs.Runs.{said-more, heard-more, Placed, placed, seat-of, seat-few, begun-in, one-request, seat-unique}

-- ---- an exchange whose request was said or admitted has a room

abbrev HasRoom : Member → Log → Exchange → Type 0
HasRoom me log x = is_some (room_of me (known me log) x) ≡ true

place-said : (me : Member) (log : Log) (x : Exchange) → role_of me x ≡ Initiator → has_said (is_of (request_kind x.kind) x Initiator) log ≡ true → HasRoom me log x
place-said me log x side e = rw (side, e) refl

two-seats : (n : ℕ) → n < seats_a_round → is_some (asking_at n) ≡ true
two-seats zero h = refl
two-seats (suc zero) h = refl
two-seats (suc (suc n)) h = absurd (omega arith)

some-mapped : {A B : Type 0} (f : A → B) (o : Option A) → is_some o ≡ true → is_some (option_map f o) ≡ true
some-mapped f (Some a) e = refl
some-mapped f None e = cc

place-heard : (me : Member) (log : Log) (x : Exchange) → IsObedient me log → role_of me x ≡ Responder → has_heard (is_of (request_kind x.kind) x Initiator) log ≡ true → HasRoom me log x
place-heard me log x h side e =
    let n = some-is (seat log x) (seat-of log x e) in
    rw (side, n.1) (some-mapped _ (asking_at n.0) (two-seats n.0 (seat-few me log x n.0 h n.1)))

-- a room is kept
asking-later : (me : Member) (log before : Log) (x : Exchange) (role : Role) (a : Asking) → IsLater log before → asking_of (known me before) x role ≡ Some a → asking_of (known me log) x role ≡ Some a
asking-later me log before x Initiator a later e = go (has_said (is_of (request_kind x.kind) x Initiator) before) refl e
  where
    go : (b : Bool) → has_said (is_of (request_kind x.kind) x Initiator) before ≡ b → then_some b Own ≡ Some a → then_some (has_said (is_of (request_kind x.kind) x Initiator) log) Own ≡ Some a
    go true f g = rw (said-more (is_of (request_kind x.kind) x Initiator) log before later f) g
    go false f g = cc
asking-later me log before x Responder a later e = then-later asking_at (seat before x) (seat log x) a (λ n. find-later (λ before e. seat_in before x e) log before n later) e

pub place-later : (me : Member) (log before : Log) (x : Exchange) → IsLater log before → HasRoom me before x → HasRoom me log x
place-later me log before x later e =
    let p = some-is (room_of me (known me before) x) e in
    ap is_some (map-later (λ (a : Asking). record { kind = x.kind; asking = a }) (asking_of (known me before) x (role_of me x)) (asking_of (known me log) x (role_of me x)) p.0 (λ a. asking-later me log before x (role_of me x) a later) p.1)

-- ---- what was said

said-placed : (me : Member) (log : Log) (kind : Kind) (x : Exchange) (role : Role) → IsObedient me log → has_said_of (known me log) kind x role ≡ true → HasRoom me log x
said-placed me log kind x role h e =
    let f = some-is (first_said (is_of kind x role) log) e in
    let was = first_said-was (is_of kind x role) log f.0 f.1 in
    at f.0 (saying me log f.0 kind x role h was.0 was.1)
  where
    at : (d : Datagram) → IsSaying me log x role d → HasRoom me log x
    at d s = go role refl
      where
        place : Placed me s.was.before d.message
        place = placed me s.was.before d.message s.obedient s.sign

        names : (place.round ≡ x.round) × (place.kind ≡ x.kind) × (place.role ≡ role)
        names = parts-of (place.round, place.kind, place.role) (x.round, x.kind, role) (sym place.part ∙ s.part)

        go : (r : Role) → role ≡ r → HasRoom me log x
        go Initiator q =
            let named : exchange_by x.round x.kind Initiator me.party d.message.to ≡ x = sym (ap (λ z. exchange_by x.round x.kind z me.party d.message.to) q) ∙ s.exchange in
            place-said me log x (sym s.side ∙ q)
            (subst (λ y. has_said (is_of (request_kind x.kind) y Initiator) log ≡ true) named
            (begun-in me log d x.round x.kind Initiator h s.was (s.part ∙ ap (λ z. Some (x.round, x.kind, z)) q)))
        go Responder q =
            let named : exchange_by place.round place.kind Responder me.party d.message.to ≡ x =
            (λ i. exchange_by (names.0 i) (names.1 i) (sym q i) me.party d.message.to) ∙ s.exchange
            in
            place-heard me log x h (sym s.side ∙ q)
            (heard-more (is_of (request_kind x.kind) x Initiator) log s.was.before (later-entry log s.was.before (Said d) s.was.place)
            (sym (λ i. has_heard (is_of (request_kind (names.1 i)) (named i) Initiator) s.was.before) ∙ place.asked (names.2 ∙ q)))

-- ---- what was admitted

commitment-heard : (o : Option Datagram) (c : List ℕ) → option_map_or (λ b. bytes_eq b c) (option_and_then commitment_in (option_map (λ d. d.message.body) o)) false ≡ true → is_some o ≡ true
commitment-heard (Some d) c e = refl
commitment-heard None c e = cc

offer-said : (f : Terms → Bool) (o : Option Datagram) (want give : List UpdateId) (junk : ℕ)
    → option_map_or f (terms_with (option_and_then offer_in (option_map (λ d. d.message.body) o)) want give junk) false ≡ true → is_some o ≡ true
offer-said f (Some d) want give junk e = refl
offer-said f None want give junk e = cc

-- what an admitted message is: a request, or of an exchange that has a room
abbrev IsPlaced : Member → Log → ℕ → ℕ × XKind × Role → ℕ → ℕ → Type 0
IsPlaced me before kind p from to = ((kind ≡ code_of (request_kind p.1)) × (p.2 ≡ Initiator)) ⊎ HasRoom me before (exchange_by p.0 p.1 p.2 from to)

placed-by : (me : Member) (before : Log) (kind : ℕ) (p q : ℕ × XKind × Role) (from to : ℕ) → ◌≡◌ {A = Option (ℕ × XKind × Role)} (Some p) (Some q) → HasRoom me before (exchange_by p.0 p.1 p.2 from to) → IsPlaced me before kind q from to
placed-by me before kind p q from to e h = let same : p ≡ q = cc in inr (subst (λ (z : ℕ × XKind × Role). HasRoom me before (exchange_by z.0 z.1 z.2 from to)) same h)

row-placed : (me : Member) (before : Log) (from to : ℕ) (b : Body) (p : ℕ × XKind × Role) → IsObedient me before → to ≡ me.party → (from ≡ me.party → ⊥) → part_of b ≡ Some p
    → is_row_met me (known me before) from to b ≡ true → IsPlaced me before (kind_number b) p from to
row-placed me before from to (Request r s c) p h own other e row = let names = parts-of (r, Balanced, Initiator) p e in inl (ap (λ z. code_of (request_kind z)) names.1, sym names.2)
row-placed me before from to (Query r s y o) p h own other e row = let names = parts-of (r, Push, Initiator) p e in inl (ap (λ z. code_of (request_kind z)) names.1, sym names.2)
row-placed me before from to (Response r hb) p h own other e row =
    placed-by me before 4 (r, Balanced, Responder) p from to e
    (said-placed me before kinds.Request (exchange_by r Balanced Responder from to) Initiator h (and_parts _ _ (and_parts _ _ row).0).0)
row-placed me before from to (Divulge r nonce ha) p h own other e row =
    let x : Exchange = exchange_by r Balanced Initiator from to in
    placed-by me before 5 (r, Balanced, Initiator) p from to e
    (place-heard me before x h (receiver-role me r Balanced Initiator from to own other)
    (commitment-heard (first_heard (is_of kinds.Request x Initiator) before) (commitment_of me.session x nonce ha) (and_parts _ _ (and_parts _ _ (and_parts _ _ row).0).0).0))
row-placed me before from to (Reply r want give junk) p h own other e row =
    let x : Exchange = exchange_by r Push Responder from to in
    placed-by me before 7 (r, Push, Responder) p from to e
    (said-placed me before kinds.Query x Initiator h
    (offer-said (terms_ok me.session (table before) x) (first_said (is_of kinds.Query x Initiator) before) want give junk (and_parts _ _ row).0))
row-placed me before from to (Case c) p h own other e row =
    placed-by me before 8 (c.round, c.kind, c.role) p from to e
    (said-placed me before kinds.Case (exchange_by c.round c.kind c.role from to) (other_role c.role) h (and_parts _ _ (and_parts _ _ (and_parts _ _ row).0).0).0)
row-placed me before from to (KeyReq r k role) p h own other e row =
    placed-by me before 9 (r, k, role) p from to e
    (said-placed me before kinds.Case (exchange_by r k role from to) (other_role role) h (and_parts _ _ (and_parts _ _ (and_parts _ _ row).0).0).0)
row-placed me before from to (Key g) p h own other e row =
    placed-by me before 10 (g.round, g.kind, g.role) p from to e
    (said-placed me before kinds.Case (exchange_by g.round g.kind g.role from to) (other_role g.role) h (and_parts _ _ (and_parts _ _ row).0).0)
row-placed me before from to b p h own other e row = absurd (no-value (part_of b) p refl e)

heard-placed : (me : Member) (log : Log) (kind : Kind) (x : Exchange) (role : Role) → IsObedient me log → has_heard_of (known me log) kind x role ≡ true → HasRoom me log x
heard-placed me log kind x role h e =
    let f = some-is (first_heard (is_of kind x role) log) e in
    let was = first_heard-was (is_of kind x role) log f.0 f.1 in
    at f.0 was.0 was.1
  where
    at : (d : Datagram) → WasHeard log d → is_of kind x role d.message ≡ true → HasRoom me log x
    at d w i =
        let al = allowed-at me log w.before (Heard d) w.place h in
        let part = is_of-part kind x role d.message i in
        let own : IsForOneMember me d = heard-own me w.before d (x.round, x.kind, role) al.0 part in
        go own (row-placed me w.before d.message.from d.message.to d.message.body (x.round, x.kind, role) al.1 own.to own.other part (admitted-row me w.before d al.0.0))
      where
        named : exchange_by x.round x.kind role d.message.from d.message.to ≡ x
        named = names-exchange kind x role d.message i

        go : IsForOneMember me d → IsPlaced me w.before (kind_number d.message.body) (x.round, x.kind, role) d.message.from d.message.to → HasRoom me log x
        go own (inr there) = place-later me log w.before x (later-entry log w.before (Heard d) w.place) (subst (λ y. HasRoom me w.before y) named there)
        go own (inl here) =
            let number : code_of kind ≡ code_of (request_kind x.kind) = sym (is_of-is kind x role d.message i).number ∙ here.0 in
            let side : role_of me x ≡ Responder =
            sym (ap (role_of me) named) ∙ receiver-role me x.round x.kind role d.message.from d.message.to own.to own.other ∙ ap other_role here.1
            in
            place-heard me log x h side (sym (λ j. has_heard (λ m. eqb (kind_number m.body) (number j) && option_map_or (is_place x (here.1 j)) (place_of m) false) log) ∙ e)

-- ---- one exchange in a room

-- the kind and the asking of a room
pub place-parts : (x : Exchange) (o : Option Asking) (p : Room) → option_map (λ a. record { kind = x.kind; asking = a }) o ≡ Some p → (x.kind ≡ p.kind) × (o ≡ Some p.asking)
place-parts x None p e = cc
place-parts x (Some a) p e = let same : ◌≡◌ {A = Room} (record { kind = x.kind; asking = a }) p = cc in (ap (λ (z : Room). z.kind) same, ap (λ (z : Room). Some z.asking) same)

pub own-said : (b : Bool) (a : Asking) → then_some b Own ≡ Some a → (b ≡ true) × (a ≡ Own)
own-said true a e = (refl, cc)
own-said false a e = cc

pub asked-at : (o : Option ℕ) (a : Asking) → option_and_then asking_at o ≡ Some a → (n : ℕ) × (o ≡ Some n) × (asking_at n ≡ Some a)
asked-at (Some n) a e = (n, refl, e)
asked-at None a e = cc

asked-not_own : (n : ℕ) → asking_at n ≡ Some Own → ⊥
asked-not_own zero e = cc
asked-not_own (suc zero) e = cc
asked-not_own (suc (suc n)) e = cc

asked-one : (n m : ℕ) (a : Asking) → asking_at n ≡ Some a → asking_at m ≡ Some a → n ≡ m
asked-one zero zero a e f = refl
asked-one (suc zero) (suc zero) a e f = refl
asked-one zero (suc zero) a e f = cc
asked-one (suc zero) zero a e f = cc
asked-one zero (suc (suc m)) a e f = cc
asked-one (suc zero) (suc (suc m)) a e f = cc
asked-one (suc (suc n)) m a e f = cc

initiator-own : (me : Member) (x : Exchange) → role_of me x ≡ Initiator → x.initiator ≡ me.party
initiator-own me x e = go (eqb x.initiator me.party) refl e
  where
    go : (b : Bool) → eqb x.initiator me.party ≡ b → cond b Initiator Responder ≡ Initiator → x.initiator ≡ me.party
    go true f g = eqb-true _ _ f
    go false f g = cc

own-one : (me : Member) (log : Log) (x y : Exchange) → IsObedient me log → x.round ≡ y.round → x.kind ≡ y.kind → role_of me x ≡ Initiator → role_of me y ≡ Initiator
    → has_said (is_of (request_kind x.kind) x Initiator) log ≡ true → has_said (is_of (request_kind y.kind) y Initiator) log ≡ true → x ≡ y
own-one me log x y h r k p q a b = sym mine ∙ (λ i. exchange_by x.round x.kind Initiator me.party (partner i)) ∙ theirs
  where
    mine : exchange_by x.round x.kind Initiator me.party x.responder ≡ x
    mine i = record { round = x.round; kind = x.kind; initiator = sym (initiator-own me x p) i; responder = x.responder }

    theirs : exchange_by x.round x.kind Initiator me.party y.responder ≡ y
    theirs i = record { round = r i; kind = k i; initiator = sym (initiator-own me y q) i; responder = y.responder }

    partner : x.responder ≡ y.responder
    partner =
        one-request me log x.round x.kind x.responder y.responder h ((λ i. has_said (is_of (request_kind x.kind) (mine i) Initiator) log) ∙ a)
        ((λ i. has_said (is_of (request_kind (k i)) (theirs i) Initiator) log) ∙ b)

asked-same : (me : Member) (log : Log) (x y : Exchange) (s t : Role) (a : Asking) → IsObedient me log → x.round ≡ y.round → x.kind ≡ y.kind → role_of me x ≡ s → role_of me y ≡ t
    → asking_of (known me log) x s ≡ Some a → asking_of (known me log) y t ≡ Some a → x ≡ y
asked-same me log x y Initiator Initiator a h r k p q e f = own-one me log x y h r k p q (own-said _ a e).0 (own-said _ a f).0
asked-same me log x y Responder Responder a h r k p q e f =
    let n = asked-at (seat log x) a e in
    let m = asked-at (seat log y) a f in
    seat-unique log x y n.0 k r n.1 (m.1 ∙ ap Some (sym (asked-one n.0 m.0 a n.2 m.2)))
asked-same me log x y Initiator Responder a h r k p q e f =
    let m = asked-at (seat log y) a f in absurd (asked-not_own m.0 (m.2 ∙ ap Some (own-said _ a e).1))
asked-same me log x y Responder Initiator a h r k p q e f =
    let n = asked-at (seat log x) a e in absurd (asked-not_own n.0 (n.2 ∙ ap Some (own-said _ a f).1))

pub has-rooms : (me : Member) (log : Log) → IsObedient me log → AreInRooms me (known me log)
has-rooms me log h = record {
  heard = λ kind x role e. heard-placed me log kind x role h e;
  said = λ kind x role e. said-placed me log kind x role h e;
  one = λ x y place r e f. (let p = place-parts x _ place e in let q = place-parts y _ place f in asked-same me log x y _ _ place.asking h r (p.0 ∙ sym q.0) refl refl p.1 q.1);
}

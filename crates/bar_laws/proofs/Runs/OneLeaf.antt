-- No leaf signs two messages, and each leaf is below the number of leaves.
use Rattle.bar_wire.specs.Limits.{leaves_a_round, seats_a_round}
use Rattle.bar_wire.specs.declared.kind.Kind.TheVariants as kinds
use Rattle.bar_wire.specs.Kinds.{code_of}
use Rattle.bar_lms.specs.Schemes.{leaves_by}
use Rattle.bar_session.specs.Sessions.{IsSession}
use Rattle.bar_rules.specs.Peer.Admission.{is_row_met}
use Rattle.bar_rules.specs.Peer.Exchanges.{seat, seat_in, request_kind, answer_kind, opening_kind}
use Rattle.bar_rules.specs.Peer.Knowledge.{known}
use Rattle.bar_rules.specs.Peer.Log.{Log, Heard, Said, heard_in, if_passes, first_heard, first_said, has_heard, has_said, count_heard, has_kind_and_round}
use Rattle.bar_rules.specs.Member.{Member}
use Rattle.bar_rules.specs.Peer.Rules.{IsObedient, Allows}
use Rattle.bar_rules.specs.Peer.Signing.{MaySign, MaySay, seat_by, signed, leaf_for}
use Rattle.bar_rules.specs.Peer.Terms.{terms_of}
use Rattle.bar_window.specs.Exchange.{kind_code, role_code}
use Rattle.bar_window.specs.Terms.{Terms}
use Rattle.bar_window.specs.declared.exchange.Exchange.{Exchange}
use Rattle.bar_window.specs.declared.exchange.Role.{Role}
use Rattle.bar_window.specs.declared.exchange.Role.TheVariants.{Initiator, Responder}
use Rattle.bar_window.specs.declared.exchange.XKind.{XKind}
use Rattle.bar_window.specs.declared.exchange.XKind.TheVariants.{Balanced, Push}
use Rattle.bar_window.proofs.Exchanges.{same_exchange-is}
use Rattle.bar_wire.specs.Datagram.{is_place, place_by, Message, Datagram, Body, Request, Response, Query, Reply, Case, Key, is_of, is_signed, kind_number, part_of, exchange_by, identity_of, named, round_of, Place, place_of}
use Rattle.std.specs.Option.{option_or}
use Rattle.std.proofs.Common.{◌≡◌, ℕ, ◌<◌, ◌≤◌, ◌*◌, Bool, true, false, List, [], ◌∷◌, refl, sym, ap, ◌∙◌, subst, inl, inr, ◌&&◌, ◌||◌, eqb, arith}
use Rattle.std.specs.Prelude.{Option, Some, None, ◌⊎◌, is_some, option_map, unwrap_or, if◌then◌else◌}
use Rattle.std.specs.Option.{option_map_or}
use Rattle.std.proofs.lemmas.Bool.{and_parts, ltb-true}
use Rattle.bar_laws.proofs.Logs.{other-kind, option_or-cases, allowed-at, admitted-row, party-on, kind-on, is_of-is, is_of-own, terms-said, role-own, sign-elsewhere, CaseMoment, case-moment, leaves_few, peers_named, WasSaid, later-entry, some-is, heard_in-is, first_said-was, said-rule, parts-of, part-round, said-found, SaidIn, said-in, unique}
use Rattle.bar_laws.proofs.Runs.Obeys.{said-more, heard-more}
use Rattle.bar_laws.proofs.Runs.Seats.{new-seat, seat-unique}

-- ---- a request that was heard has a seat of its round

pub seat-of : (log : Log) (x : Exchange) → has_heard (is_of (request_kind x.kind) x Initiator) log ≡ true → is_some (seat log x) ≡ true
seat-of [] x h = cc
seat-of (e ∷ log) x h = go (first_heard p log) (seat log x) (if_passes p (heard_in e)) (seat-of log x) h
  where
    p : Message → Bool
    p = is_of (request_kind x.kind) x Initiator

    go : (o : Option Datagram) (s : Option ℕ) (q : Option Datagram) → (is_some o ≡ true → is_some s ≡ true) → is_some (option_or o q) ≡ true
        → is_some (option_or s (option_map (λ d. count_heard (has_kind_and_round (request_kind x.kind) x.round) log) q)) ≡ true
    go o (Some n) q k h = refl
    go o None (Some d) k h = refl
    go (Some d) None None k h = k refl
    go None None None k h = cc

-- a seat was taken by a request that was heard
pub seat-heard : (log : Log) (x : Exchange) → is_some (seat log x) ≡ true → has_heard (is_of (request_kind x.kind) x Initiator) log ≡ true
seat-heard [] x h = cc
seat-heard (e ∷ log) x h = go (first_heard p log) (seat log x) (if_passes p (heard_in e)) (seat-heard log x) h
  where
    p : Message → Bool
    p = is_of (request_kind x.kind) x Initiator

    go : (o : Option Datagram) (s : Option ℕ) (q : Option Datagram) → (is_some s ≡ true → is_some o ≡ true)
        → is_some (option_or s (option_map (λ d. count_heard (has_kind_and_round (request_kind x.kind) x.round) log) q)) ≡ true → is_some (option_or o q) ≡ true
    go (Some d) s q k h = refl
    go None s (Some d) k h = refl
    go None (Some n) None k h = k refl
    go None None None k h = cc

seat-row : (me : Member) (before : Log) (x : Exchange) (from to : ℕ) (b : Body) (k : XKind)
    → kind_number b ≡ code_of (request_kind k)
    → (eqb (kind_number b) (code_of (request_kind k)) && option_map_or (is_place x Initiator) (option_map (place_by from to) (part_of b)) false) ≡ true
    → is_row_met me (known me before) from to b ≡ true → count_heard (has_kind_and_round (request_kind k) x.round) before < seats_a_round
seat-row me before x from to (Request r s c) Balanced n e row =
    let same : exchange_by r Balanced Initiator from to ≡ x = same_exchange-is (exchange_by r Balanced Initiator from to) x (and_parts _ _ e).0 in
    let round : r ≡ x.round = ap (λ (z : Exchange). z.round) same in
    subst (λ z. count_heard (has_kind_and_round kinds.Request z) before < seats_a_round) round (ltb-true _ _ (and_parts _ _ (and_parts _ _ (and_parts _ _ row).0).0).1)
seat-row me before x from to (Query r s y o) Push n e row =
    let same : exchange_by r Push Initiator from to ≡ x = same_exchange-is (exchange_by r Push Initiator from to) x (and_parts _ _ e).0 in
    let round : r ≡ x.round = ap (λ (z : Exchange). z.round) same in
    subst (λ z. count_heard (has_kind_and_round kinds.Query z) before < seats_a_round) round (ltb-true _ _ (and_parts _ _ (and_parts _ _ (and_parts _ _ (and_parts _ _ row).1).0).0).1)
seat-row me before x from to b Balanced n e row = absurd (other-kind b (request_kind Balanced) refl n)
seat-row me before x from to b Push n e row = absurd (other-kind b (request_kind Push) refl n)

-- the seat is that of the request's admission
pub seat-few : (me : Member) (log : Log) (x : Exchange) (n : ℕ) → IsObedient me log → seat log x ≡ Some n → n < seats_a_round
seat-few me [] x n h e = cc
seat-few me (e ∷ log) x n h s = go (option_or-cases (seat log x) _ n s) (seat-few me log x n h.1)
  where
    heard : (d : Datagram) → heard_in e ≡ Some d → is_of (request_kind x.kind) x Initiator d.message ≡ true → n ≡ count_heard (has_kind_and_round (request_kind x.kind) x.round) log → n < seats_a_round
    heard d f k c =
        let al : Allows me log (Heard d) = subst (λ y. Allows me log y) (heard_in-is e d f) h.0 in
        rw c (seat-row me log x d.message.from d.message.to d.message.body x.kind (is_of-is (request_kind x.kind) x Initiator d.message k).number k (admitted-row me log d al.0))

    go : (seat log x ≡ Some n) ⊎ ((seat log x ≡ None) × (seat_in log x e ≡ Some n)) → (seat log x ≡ Some n → n < seats_a_round) → n < seats_a_round
    go (inl p) f = f p
    go (inr p) f = let w = new-seat log x e n p.1 in heard w.1.0 w.1.1 w.1.2 w.0

-- the seat of a message's exchange, one of its round
seat_by-below : (me : Member) (log : Log) (o : Option Place) → IsObedient me log → seat_by (known me log) o < seats_a_round
seat_by-below me log None h = omega arith
seat_by-below me log (Some p) h = go (seat log p.exchange) refl
  where
    go : (o : Option ℕ) → seat log p.exchange ≡ o → unwrap_or o 0 < seats_a_round
    go None e = omega arith
    go (Some n) e = seat-few me log p.exchange n h e

-- ---- what precedes a message

-- the first message of this member's side of an exchange is said
abbrev pub IsExchangeOpened : Log → ℕ → XKind → Role → ℕ → ℕ → Type 0
IsExchangeOpened log r k role f t = has_said (is_of (opening_kind k role) (exchange_by r k role f t) role) log ≡ true

-- a briefcase that may be given
case-begun : (me : Member) (before : Log) (r : ℕ) (k : XKind) (role : Role) (to : ℕ) (t : Terms) → IsObedient me before → (to ≡ me.party → ⊥) → terms_of me (known me before) (exchange_by r k role me.party to) ≡ Some t → IsExchangeOpened before r k role me.party to
case-begun me before r k role to t h other e =
    let x : Exchange = exchange_by r k role me.party to in
    subst (λ z. has_said (is_of (opening_kind z role) x role) before ≡ true) (kind-on r k role me.party to)
    (terms-said me before x role t h (party-on r k role me.party to) (role-own me r k role to other) e)

-- a key that may be given: its briefcase was begun
key-begun : (me : Member) (before : Log) (r : ℕ) (k : XKind) (role : Role) (to : ℕ) → IsObedient me before → (w : (c : _) × CaseMoment before (exchange_by r k role me.party to) role c) → IsExchangeOpened before r k role me.party to
key-begun me before r k role to h w =
    let x : Exchange = exchange_by r k role me.party to in
    let c = w.0 in
    let d : Datagram = w.1.datagram in
    let al = allowed-at me before w.1.was.before (Said d) w.1.was.place h in
    let rule = subst (λ b. MaySay me (known me w.1.was.before) d.message.to b) w.1.body al.0.rule.rule in
    let begun : IsExchangeOpened w.1.was.before c.round c.kind c.role me.party d.message.to = case-begun me w.1.was.before c.round c.kind c.role d.message.to c.terms al.1 (sign-elsewhere me w.1.was.before d.message al.1 al.0.rule) rule.terms in
    let of = is_of-is kinds.Case x role d.message w.1.of in
    let part = parts-of (c.round, c.kind, c.role) (of.round, of.sort, role) (sym (ap part_of w.1.body) ∙ of.part) in
    let same : exchange_by c.round c.kind c.role me.party d.message.to ≡ x =
    (λ i. exchange_by (part.0 i) (part.1 i) (part.2 i) (sym al.0.rule.mine i) d.message.to) ∙ of.exchange
    in
    let sort : c.kind ≡ k = sym (kind-on c.round c.kind c.role me.party d.message.to) ∙ ap (λ (z : Exchange). z.kind) same ∙ kind-on r k role me.party to in
    said-more (is_of (opening_kind k role) x role) before w.1.was.before (later-entry before w.1.was.before (Said d) w.1.was.place)
    (sym (λ i. has_said (is_of (opening_kind (sort i) (part.2 i)) (same i) (part.2 i)) w.1.was.before) ∙ begun)

-- a responder's first message is said if the request is heard
first-asked : (me : Member) (log : Log) (r : ℕ) (k : XKind) (to : ℕ) → IsObedient me log → IsExchangeOpened log r k Responder me.party to → has_heard (is_of (request_kind k) (exchange_by r k Responder me.party to) Initiator) log ≡ true
first-asked me log r k to h e = at (some-is _ e)
  where
    x : Exchange
    x = exchange_by r k Responder me.party to

    answer : (d : Datagram) (before : Log) → d.message.from ≡ me.party → (b : Body) (k' : XKind) → MaySay me (known me before) d.message.to b
        → kind_number b ≡ code_of (answer_kind k')
        → (eqb (kind_number b) (code_of (answer_kind k')) && option_map_or (is_place x Responder) (option_map (place_by d.message.from d.message.to) (part_of b)) false) ≡ true
        → has_heard (is_of (request_kind k') x Initiator) before ≡ true
    answer d before mine (Response q hb) Balanced rule n i =
        let same : exchange_by q Balanced Responder d.message.from d.message.to ≡ x = same_exchange-is (exchange_by q Balanced Responder d.message.from d.message.to) x (and_parts _ _ i).0 in
        subst (λ y. has_heard (is_of kinds.Request y Initiator) before ≡ true) (ap (λ z. exchange_by q Balanced Responder z d.message.to) (sym mine) ∙ same) rule.asked
    answer d before mine (Reply q a g z) Push rule n i =
        let same : exchange_by q Push Responder d.message.from d.message.to ≡ x = same_exchange-is (exchange_by q Push Responder d.message.from d.message.to) x (and_parts _ _ i).0 in
        subst (λ y. has_heard (is_of kinds.Query y Initiator) before ≡ true) (ap (λ z. exchange_by q Push Responder z d.message.to) (sym mine) ∙ same) rule.asked
    answer d before mine b Balanced rule n i = absurd (other-kind b (answer_kind Balanced) refl n)
    answer d before mine b Push rule n i = absurd (other-kind b (answer_kind Push) refl n)

    at : (d : Datagram) × (first_said (is_of (answer_kind k) x Responder) log ≡ Some d) → has_heard (is_of (request_kind k) x Initiator) log ≡ true
    at g =
        let was = first_said-was (is_of (answer_kind k) x Responder) log g.0 g.1 in
        let sign = (said-rule me log g.0 was.0 h).rule in
        heard-more (is_of (request_kind k) x Initiator) log was.0.before (later-entry log was.0.before (Said g.0) was.0.place) (answer g.0 was.0.before sign.mine g.0.message.body k sign.rule (is_of-is (answer_kind k) x Responder g.0.message was.1).number was.1)

-- ---- a message that may be signed

-- What a message that may be signed is: its round, kind and side. Unless it is the first message of its side, that one precedes it; for a
-- responder the request does.
pub record Placed (me : Member) (before : Log) (m : Message) : Type 0 where
  pub round : ℕ
  pub kind : XKind
  pub role : Role
  pub part : part_of m.body ≡ Some (round, kind, role)
  pub signed : is_signed m.body ≡ true
  pub first : (kind_number m.body ≡ code_of (opening_kind kind role)) ⊎ IsExchangeOpened before round kind role me.party m.to
  pub asked : role ≡ Responder → has_heard (is_of (request_kind kind) (exchange_by round kind Responder me.party m.to) Initiator) before ≡ true

-- a message after the first one of its side
later-placed : (me : Member) (before : Log) (m : Message) (r : ℕ) (k : XKind) (role : Role) → IsObedient me before → part_of m.body ≡ Some (r, k, role) → is_signed m.body ≡ true → IsExchangeOpened before r k role me.party m.to → Placed me before m
later-placed me before m r k role h part signed begun = record { round = r; kind = k; role = role; part = part; signed = signed; first = inr begun; asked = λ e. first-asked me before r k m.to h (subst (λ z. IsExchangeOpened before r k z me.party m.to) e begun) }

pub placed : (me : Member) (before : Log) (m : Message) → IsObedient me before → MaySign me before m → Placed me before m
placed me before m h sign = go m.body refl sign.rule
  where
    go : (b : Body) → m.body ≡ b → MaySay me (known me before) m.to b → Placed me before m
    go (Request r s c) e rule = record { round = r; kind = Balanced; role = Initiator; part = ap part_of e; signed = ap is_signed e; first = inl (ap kind_number e); asked = λ z. cc }
    go (Query r s y o) e rule = record { round = r; kind = Push; role = Initiator; part = ap part_of e; signed = ap is_signed e; first = inl (ap kind_number e); asked = λ z. cc }
    go (Response r hb) e rule = record { round = r; kind = Balanced; role = Responder; part = ap part_of e; signed = ap is_signed e; first = inl (ap kind_number e); asked = λ z. rule.asked }
    go (Reply r a g z) e rule = record { round = r; kind = Push; role = Responder; part = ap part_of e; signed = ap is_signed e; first = inl (ap kind_number e); asked = λ z. rule.asked }
    go (Case c) e rule = later-placed me before m c.round c.kind c.role h (ap part_of e) (ap is_signed e) (case-begun me before c.round c.kind c.role m.to c.terms h (sign-elsewhere me before m h sign) rule.terms)
    go (Key k) e rule = later-placed me before m k.round k.kind k.role h (ap part_of e) (ap is_signed e) (key-begun me before k.round k.kind k.role m.to h (rule.ours, case-moment before (exchange_by k.round k.kind k.role me.party m.to) k.role rule.ours rule.said))
    go _ e rule = absurd rule

-- ---- one partner

-- the first message of the side of a message that was said
pub begun-in : (me : Member) (log : Log) (d : Datagram) (r : ℕ) (k : XKind) (role : Role) → IsObedient me log → WasSaid log d → part_of d.message.body ≡ Some (r, k, role) → IsExchangeOpened log r k role me.party d.message.to
begun-in me log d r k role h w part = go place.first
  where
    al : Allows me w.before (Said d) × IsObedient me w.before
    al = allowed-at me log w.before (Said d) w.place h

    place : Placed me w.before d.message
    place = placed me w.before d.message al.1 al.0.rule

    same : (place.round ≡ r) × (place.kind ≡ k) × (place.role ≡ role)
    same = parts-of (place.round, place.kind, place.role) (r, k, role) (sym place.part ∙ part)

    go : (kind_number d.message.body ≡ code_of (opening_kind place.kind place.role)) ⊎ IsExchangeOpened w.before place.round place.kind place.role me.party d.message.to → IsExchangeOpened log r k role me.party d.message.to
    go (inl n) =
        let number : kind_number d.message.body ≡ code_of (opening_kind k role) = n ∙ (λ i. code_of (opening_kind (same.1 i) (same.2 i))) in
        let m = d.message in
        said-found (is_of (opening_kind k role) (exchange_by r k role me.party d.message.to) role) log d w
        (sym (λ i. eqb (kind_number m.body) (number i) && option_map_or (is_place (exchange_by r k role (al.0.rule.mine i) m.to) role) (option_map (place_by m.from m.to) (part_of m.body)) false)
        ∙ is_of-own m r k role part)
    go (inr b) = said-more _ log w.before (later-entry log w.before (Said d) w.place) (sym (λ i. has_said (is_of (opening_kind (same.1 i) (same.2 i)) (exchange_by (same.0 i) (same.1 i) (same.2 i) me.party d.message.to) (same.2 i)) w.before) ∙ b)

-- one request of a round and kind
pub one-request : (me : Member) (log : Log) (r : ℕ) (k : XKind) (s t : ℕ) → IsObedient me log → IsExchangeOpened log r k Initiator me.party s → IsExchangeOpened log r k Initiator me.party t → s ≡ t
one-request me log r k s t h a b = go k a b
  where
    -- a request of the exchange that was said, with its name
    request : (k : XKind) (u : ℕ) → IsExchangeOpened log r k Initiator me.party u
        → (d : Datagram) × SaidIn log d × (is_of (request_kind k) (exchange_by r k Initiator me.party u) Initiator d.message ≡ true)
    request k u e =
        let g = some-is _ e in
        let was = first_said-was (is_of (request_kind k) (exchange_by r k Initiator me.party u) Initiator) log g.0 g.1 in
        (g.0, said-in log g.0 was.0, was.1)

    number : (k : XKind) (u : ℕ) (m : Message) → is_of (request_kind k) (exchange_by r k Initiator me.party u) Initiator m ≡ true → kind_number m.body ≡ code_of (request_kind k)
    number k u m e = (is_of-is (request_kind k) (exchange_by r k Initiator me.party u) Initiator m e).number

    parts : (k : XKind) (u : ℕ) (m : Message) (b : Body) → kind_number b ≡ code_of (request_kind k)
        → (eqb (kind_number b) (code_of (request_kind k)) && option_map_or (is_place (exchange_by r k Initiator me.party u) Initiator) (option_map (place_by m.from m.to) (part_of b)) false) ≡ true
        → (kind_number b ∷ named b m.from m.to ≡ code_of (request_kind k) ∷ me.party ∷ r ∷ []) × (m.to ≡ u)
    parts Balanced u m (Request q x c) n e =
        let same : exchange_by q Balanced Initiator m.from m.to ≡ exchange_by r Balanced Initiator me.party u = same_exchange-is (exchange_by q Balanced Initiator m.from m.to) (exchange_by r Balanced Initiator me.party u) (and_parts _ _ e).0 in
        let from : m.from ≡ me.party = ap (λ (z : Exchange). z.initiator) same in
        let round : q ≡ r = ap (λ (z : Exchange). z.round) same in
        ((λ i. code_of kinds.Request ∷ from i ∷ round i ∷ []), ap (λ (z : Exchange). z.responder) same)
    parts Push u m (Query q x y o) n e =
        let same : exchange_by q Push Initiator m.from m.to ≡ exchange_by r Push Initiator me.party u = same_exchange-is (exchange_by q Push Initiator m.from m.to) (exchange_by r Push Initiator me.party u) (and_parts _ _ e).0 in
        let from : m.from ≡ me.party = ap (λ (z : Exchange). z.initiator) same in
        let round : q ≡ r = ap (λ (z : Exchange). z.round) same in
        ((λ i. code_of kinds.Query ∷ from i ∷ round i ∷ []), ap (λ (z : Exchange). z.responder) same)
    parts Balanced u m b n e = absurd (other-kind b (request_kind Balanced) refl n)
    parts Push u m b n e = absurd (other-kind b (request_kind Push) refl n)

    go : (k : XKind) → IsExchangeOpened log r k Initiator me.party s → IsExchangeOpened log r k Initiator me.party t → s ≡ t
    go k a b =
        let d = request k s a in
        let e = request k t b in
        let x = parts k s d.0.message d.0.message.body (number k s d.0.message d.2) d.2 in
        let y = parts k t e.0.message e.0.message.body (number k t e.0.message e.2) e.2 in
        let same : d.0 ≡ e.0 = unique me log d.0 e.0 h d.1 e.1 (x.0 ∙ sym y.0) in
        sym x.1 ∙ ap (λ z. z.message.to) same ∙ y.1

-- a responder's exchange has a seat
pub has-seat : (me : Member) (log : Log) (r : ℕ) (k : XKind) (to : ℕ) → has_heard (is_of (request_kind k) (exchange_by r k Responder me.party to) Initiator) log ≡ true → (n : ℕ) × (seat log (exchange_by r k Responder me.party to) ≡ Some n)
has-seat me log r k to e = some-is _ (seat-of log (exchange_by r k Responder me.party to) e)

-- two messages of one round, kind and side that were said went to one partner; for a responder they have one seat
one-partner : (me : Member) (log : Log) (s t : ℕ) (r : ℕ) (k : XKind) (role : Role) → IsObedient me log → IsExchangeOpened log r k role me.party s → IsExchangeOpened log r k role me.party t
    → (role ≡ Responder → unwrap_or (seat log (exchange_by r k role me.party s)) 0 ≡ unwrap_or (seat log (exchange_by r k role me.party t)) 0) → s ≡ t
one-partner me log s t r k Initiator h p q same = one-request me log r k s t h p q
one-partner me log s t r k Responder h p q same =
    let x : Exchange = exchange_by r k Responder me.party s in
    let y : Exchange = exchange_by r k Responder me.party t in
    let i = has-seat me log r k s (first-asked me log r k s h p) in
    let j = has-seat me log r k t (first-asked me log r k t h q) in
    let e : i.0 ≡ j.0 = (let z = same refl in sym (ap (λ o. unwrap_or o 0) i.1) ∙ z ∙ ap (λ o. unwrap_or o 0) j.1) in
    let one : x ≡ y = seat-unique log x y j.0 refl refl (i.1 ∙ ap Some e) j.1 in
    ap (λ (z : Exchange). z.initiator) one

-- ---- leaves

-- what names a message of an exchange, by its kind, round, side and parties
name_by : ℕ → ℕ × XKind × Role → ℕ → ℕ → List ℕ
name_by n p f t =
    if eqb n 3 || eqb n 6 then n ∷ f ∷ p.0 ∷ []
    else if eqb n 4 || eqb n 7 then n ∷ f ∷ t ∷ p.0 ∷ []
    else n ∷ f ∷ t ∷ p.0 ∷ kind_code p.1 ∷ role_code p.2 ∷ []

named-by : (b : Body) (p : ℕ × XKind × Role) (f t : ℕ) → is_signed b ≡ true → part_of b ≡ Some p → (kind_number b ∷ named b f t) ≡ name_by (kind_number b) p f t
unfolding name_by
named-by (Request q s c) p f t h e = let w = parts-of (q, Balanced, Initiator) p e in rw w.0 refl
named-by (Query q s y o) p f t h e = let w = parts-of (q, Push, Initiator) p e in rw w.0 refl
named-by (Response q hb) p f t h e = let w = parts-of (q, Balanced, Responder) p e in rw w.0 refl
named-by (Reply q w g z) p f t h e = let w = parts-of (q, Push, Responder) p e in rw w.0 refl
named-by (Case c) p f t h e = let w = parts-of (c.round, c.kind, c.role) p e in rw (w.0, w.1, w.2) refl
named-by (Key k) p f t h e = let w = parts-of (k.round, k.kind, k.role) p e in rw (w.0, w.1, w.2) refl
named-by _ p f t h e = cc

-- two datagrams that were said with one leaf are equal
pub one-leaf : (me : Member) (log : Log) (d e : Datagram) → IsObedient me log → WasSaid log d → WasSaid log e → leaf_for (known me log) d.message ≡ leaf_for (known me log) e.message → d ≡ e
one-leaf me log d e h v w leaf = unique me log d e h (said-in log d v) (said-in log e w) names
  where
    ad : Allows me v.before (Said d) × IsObedient me v.before
    ad = allowed-at me log v.before (Said d) v.place h

    ae : Allows me w.before (Said e) × IsObedient me w.before
    ae = allowed-at me log w.before (Said e) w.place h

    x : Placed me v.before d.message
    x = placed me v.before d.message ad.1 ad.0.rule

    y : Placed me w.before e.message
    y = placed me w.before e.message ae.1 ae.0.rule

    p : ℕ × XKind × Role
    p = (x.round, x.kind, x.role)

    q : ℕ × XKind × Role
    q = (y.round, y.kind, y.role)

    low : (m : Message) (r : ℕ) (k : XKind) (role : Role) → part_of m.body ≡ Some (r, k, role) → 1 ≤ round_of m.body → 1 ≤ r
    low m r k role part h = subst (λ z. 1 ≤ z) (part-round m.body r k role part) h

    found : (kind_number d.message.body ≡ kind_number e.message.body) × (p ≡ q) × (x.role ≡ Responder → seat_by (known me log) (place_of d.message) ≡ seat_by (known me log) (place_of e.message))
    found =
        peers_named d.message.body e.message.body p q (seat_by (known me log) (place_of d.message)) (seat_by (known me log) (place_of e.message)) x.signed y.signed x.part y.part
        (low d.message x.round x.kind x.role x.part ad.0.rule.low) (low e.message y.round y.kind y.role y.part ae.0.rule.low) (seat_by-below me log _ h) (seat_by-below me log _ h) leaf

    -- the seat of a said message of this part
    seat-is : (m : Message) → m.from ≡ me.party → part_of m.body ≡ Some p → seat_by (known me log) (place_of m) ≡ unwrap_or (seat log (exchange_by x.round x.kind x.role me.party m.to)) 0
    seat-is m mine part = rw part (ap (λ f. unwrap_or (seat log (exchange_by x.round x.kind x.role f m.to)) 0) mine)

    part : part_of e.message.body ≡ Some p
    part = y.part ∙ ap (λ (z : ℕ × XKind × Role). Some z) (sym found.1)

    to : d.message.to ≡ e.message.to
    to =
        one-partner me log d.message.to e.message.to x.round x.kind x.role h (begun-in me log d x.round x.kind x.role h v x.part) (begun-in me log e x.round x.kind x.role h w part)
        (λ z. sym (seat-is d.message ad.0.rule.mine x.part) ∙ found.2 z ∙ seat-is e.message ae.0.rule.mine part)

    names : identity_of d.message ≡ identity_of e.message
    names =
        named-by d.message.body p d.message.from d.message.to x.signed x.part
        ∙ (λ i. name_by (found.0 i) p ((ad.0.rule.mine ∙ sym ae.0.rule.mine) i) (to i))
        ∙ sym (named-by e.message.body p e.message.from e.message.to y.signed part)

-- each leaf is below the number of leaves
pub leaf-below : (me : Member) (log : Log) (d : Datagram) → IsSession me.session → IsObedient me log → WasSaid log d → leaf_for (known me log) d.message < leaves_by me.session.top me.session.params
leaf-below me log d s h w =
    let al = allowed-at me log w.before (Said d) w.place h in
    let x = placed me w.before d.message al.1 al.0.rule in
    let few : leaf_for (known me log) d.message < leaves_a_round * me.session.shape.rounds = leaves_few d.message.body (seat_by (known me log) (place_of d.message)) me.session.shape.rounds x.signed al.0.rule.low al.0.rule.high (seat_by-below me log (place_of d.message) h) in
    let all : leaves_a_round * me.session.shape.rounds ≤ leaves_by me.session.top me.session.params = s.leaves in
    omega (arith, few, all)

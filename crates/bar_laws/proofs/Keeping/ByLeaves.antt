-- With datagrams of another exchange, a datagram is tried by leaves alone.
use Rattle.std.specs.Prelude.{Option, Some, None, ◌==◌, ◌||◌, option_map, if◌then◌else◌}
use Rattle.std.specs.Bool.{then_some}
use Rattle.std.specs.List.{AllByRecursion, list_all}
use Rattle.std.specs.Option.{option_or, option_map_or}
use Rattle.std.proofs.Common.{◌≡◌, ◌≢◌, ℕ, ◌+◌, ◌-◌, Bool, true, false, cond, List, [], ◌∷◌, refl, sym, ap, ◌∙◌, subst, inl, inr, eqb, arith}
use Rattle.std.proofs.lemmas.Bool.{and_parts, and_from, both_ways, eqb-true, eq-eqb, ne_eqb}
use Rattle.bar_terms.specs.Table.{Table}
use Rattle.bar_window.specs.Exchange.{other_role, same_exchange, party_on}
use Rattle.bar_window.specs.declared.exchange.Exchange.{Exchange}
use Rattle.bar_window.specs.declared.exchange.Role.{Role}
use Rattle.bar_window.specs.declared.exchange.Role.TheVariants.{Initiator, Responder}
use Rattle.bar_window.specs.declared.exchange.XKind.{XKind}
use Rattle.bar_window.specs.declared.exchange.XKind.TheVariants.{Balanced, Push}
use Rattle.bar_window.proofs.Exchanges.{same_exchange-is, same_exchange_refl}
use Rattle.bar_wire.specs.Bodies.{is_peer_kind}
use Rattle.bar_wire.specs.Kinds.{code_of}
use Rattle.bar_wire.specs.declared.kind.Kind.{Kind}
use Rattle.bar_wire.specs.declared.kind.Kind.TheVariants as kinds
use Rattle.bar_wire.specs.Datagram.{Datagram, Body, Manifest, Request, Response, Query, Reply, Case, Key, Place, place_by, exchange_of, kind_of, kind_number, is_of, is_signed}
use Rattle.bar_wire.specs.Grammar.{MaySend}
use Rattle.bar_wire.specs.declared.shape.Shape.{Shape}
use Rattle.bar_wire.proofs.Signed.{peer_kind_signed}
use Rattle.bar_rules.specs.Member.{Session, Member}
use Rattle.bar_rules.specs.Values.{datagram_bytes, datagram_of, is_signed_by, leaf_named}
use Rattle.bar_rules.specs.Judge.Verdict.{LeafTwice, all_read, are_of_one_peer, fault_of_two, judged, verdict_on}
use Rattle.bar_rules.specs.Peer.Admission.{has_valid_signature}
use Rattle.bar_rules.proofs.Shared.{AreParties, IsShared, shared_are}
use Rattle.bar_rules.specs.Peer.Evidence.{accuses, pair_with, pairs_in, pairs_among, shared_with}
use Rattle.bar_rules.specs.Peer.Exchanges.{role_of, opening_kind}
use Rattle.bar_rules.specs.Peer.Knowledge.{Knowledge, table_of, this_round}
use Rattle.bar_laws.specs.Soundness.{IsSound}
use Rattle.bar_laws.specs.Tries.{by_leaf, leaves_in, leaves_among, OthersAreTriedByLeaves}
use Rattle.bar_laws.proofs.Logs.{fits-back, is_of-is, sender-on}
use Rattle.bar_laws.proofs.Judging.{AreApart, apart-shows}

-- ---- kinds

abbrev peer_number : ℕ → Bool
peer_number n = eqb n 3 || (eqb n 4 || (eqb n 6 || (eqb n 7 || (eqb n 8 || eqb n 10))))

peers-by-number : (b : Body) → is_peer_kind b ≡ peer_number (kind_number b)
peers-by-number (Manifest r ds) = refl
peers-by-number _ = refl

peer-of : (kind : Kind) (x : Exchange) (role : Role) (e : Datagram) → peer_number (code_of kind) ≡ true → is_of kind x role e.message ≡ true → is_peer_kind e.message.body ≡ true
peer-of kind x role e p is = peers-by-number e.message.body ∙ ap peer_number (is_of-is kind x role e.message is).number ∙ p

opening-number : (kind : XKind) (role : Role) → peer_number (code_of (opening_kind kind role)) ≡ true
opening-number Balanced Initiator = refl
opening-number Balanced Responder = refl
opening-number Push Initiator = refl
opening-number Push Responder = refl

two-parties : (s : Shape) (b : Body) (from to : ℕ) → is_peer_kind b ≡ true → MaySend s (kind_of b) from to → from ≢ to
two-parties s (Request r seed c) from to p may = may.2
two-parties s (Response r hb) from to p may = may.2
two-parties s (Query r seed y o) from to p may = may.2
two-parties s (Reply r w g z) from to p may = may.2
two-parties s (Case c) from to p may = may.2
two-parties s (Key k) from to p may = may.2
two-parties s _ from to p may = cc

-- for a kind that peers sign, the signature is accepted
pub accepted-of : (s : Session) (e : Datagram) → has_valid_signature s e ≡ true → is_peer_kind e.message.body ≡ true → is_signed_by s e ≡ true
accepted-of s e valid peer =
    let signed : is_signed e.message.body ≡ true = peer_kind_signed e.message.body peer in
    (λ i. if sym signed i then is_signed_by s e else true) ∙ valid

-- ---- the sides of the exchanges of two parties

other-side : (me : Member) (q : ℕ) (y : Exchange) → AreParties me.party q y → q ≢ me.party → party_on y (other_role (role_of me y)) ≡ q
other-side me q y (inl s) n = let own : (y.initiator == me.party) ≡ true = eq-eqb y.initiator me.party s.0 in rw own s.1
other-side me q y (inr s) n =
    let other : (y.initiator == me.party) ≡ false = ne_eqb y.initiator me.party (λ e. n (sym s.0 ∙ e)) in rw other s.0

-- ---- one pair

-- what is tried of a datagram together with another exchange
record IsBeside (me : Member) (k : Knowledge) (d : Datagram) (x : Exchange) : Type 0 where
  sound : IsSound me k
  read : datagram_of me.session (datagram_bytes me.session d) ≡ Some d
  peer : is_peer_kind d.message.body ≡ true
  accepted : is_signed_by me.session d ≡ true
  to : d.message.to ≡ me.party
  other : d.message.from ≢ me.party
  place : exchange_of d.message ≡ Some x

-- an earlier datagram of another exchange, of a kind that peers sign
record IsEarlier (me : Member) (k : Knowledge) (d e : Datagram) : Type 0 where
  read : datagram_of me.session (datagram_bytes me.session e) ≡ Some e
  accepted : is_signed_by me.session e ≡ true
  apart : AreApart e d

abbrev same_of : Option Exchange → Option Exchange → Bool
same_of o p = option_map_or (λ x. option_map_or (λ y. same_exchange x y) p false) o false

earlier : (me : Member) (k : Knowledge) (d : Datagram) (x : Exchange) (kind : Kind) (y : Exchange) (e : Datagram) → IsBeside me k d x → AreParties me.party d.message.from y → same_exchange x y ≡ false
    → peer_number (code_of kind) ≡ true → k.heard kind y (other_role (role_of me y)) ≡ Some e → IsEarlier me k d e
earlier me k d x kind y e b of differs number heard =
    let role : Role = other_role (role_of me y) in
    let is : is_of kind y role e.message ≡ true = b.sound.heard kind y role e heard in
    let w = is_of-is kind y role e.message is in
    let peer : is_peer_kind e.message.body ≡ true = peer-of kind y role e number is in
    let at : exchange_of e.message ≡ Some y =
    (λ i. option_map (λ (p : Place). p.exchange) (option_map (place_by e.message.from e.message.to) (w.part i))) ∙ ap Some w.exchange
    in
    record {
      read = fits-back me.session e (b.sound.spelled kind y role e heard);
      accepted = accepted-of me.session e (b.sound.accepted kind y role e heard) peer;
      apart = record {
        one = peer;
        two = b.peer;
        from = sender-on kind y role e.message is ∙ other-side me d.message.from y of b.other;
        to = b.sound.received kind y role e heard ∙ sym b.to;
        apart = (λ i. same_of (at i) (b.place i)) ∙ flipped (same_exchange y x) refl;
      };
    }
  where
    flipped : (t : Bool) → same_exchange y x ≡ t → same_exchange y x ≡ false
    flipped false f = f
    flipped true f =
        let one : y ≡ x = same_exchange-is y x f in
        absurd (both_ways _ differs (subst (λ z. same_exchange x z ≡ true) (sym one) (same_exchange_refl x)))

accuses-leaf : (s : Session) (t : Table) (d e : Datagram) (b : Bool) → e.message.from ≡ d.message.from
    → accuses d.message.from (judged s t (e ∷ d ∷ []) (then_some b LeafTwice)) ≡ b
accuses-leaf s t d e true from = eq-eqb e.message.from d.message.from from
accuses-leaf s t d e false from = refl

leaf-pair : (me : Member) (k : Knowledge) (t : Table) (d e : Datagram) (x : Exchange) → IsBeside me k d x → IsEarlier me k d e → pair_with me.session t d (Some e) ≡ by_leaf me.session d (Some e)
leaf-pair me k t d e x b w =
    let s : Session = me.session in
    let read : all_read s (datagram_bytes s e ∷ datagram_bytes s d ∷ []) ≡ Some (e ∷ d ∷ []) = rw (w.read, b.read) refl in
    let one : are_of_one_peer (e ∷ d ∷ []) ≡ true =
    and_from _ _ (and_from _ _ w.apart.one (eq-eqb e.message.from e.message.from refl))
    (and_from _ _ (and_from _ _ b.peer (eq-eqb d.message.from e.message.from (sym w.apart.from))) refl)
    in
    let signed : list_all (is_signed_by s) (e ∷ d ∷ []) ≡ true = and_from _ _ w.accepted (and_from _ _ b.accepted refl) in
    let shows : fault_of_two s t e d ≡ then_some (eqb (leaf_named s e) (leaf_named s d)) LeafTwice = apart-shows s t e d w.apart in
    let names : accuses d.message.from (verdict_on s t (Some (e ∷ d ∷ []))) ≡ eqb (leaf_named s e) (leaf_named s d) =
    rw (one, signed, shows) (accuses-leaf s t d e (eqb (leaf_named s e) (leaf_named s d)) w.apart.from)
    in
    ap (λ z. then_some z (datagram_bytes s e ∷ datagram_bytes s d ∷ []))
    (ap (λ o. accuses d.message.from (verdict_on s t o)) read ∙ names)

leaf-of : (me : Member) (k : Knowledge) (d : Datagram) (x : Exchange) (kind : Kind) (y : Exchange) → IsBeside me k d x → AreParties me.party d.message.from y → same_exchange x y ≡ false → peer_number (code_of kind) ≡ true
    → pair_with me.session (table_of k) d (k.heard kind y (other_role (role_of me y))) ≡ by_leaf me.session d (k.heard kind y (other_role (role_of me y)))
leaf-of me k d x kind y b of differs number = go (k.heard kind y (other_role (role_of me y))) refl
  where
    go : (o : Option Datagram) → k.heard kind y (other_role (role_of me y)) ≡ o → pair_with me.session (table_of k) d o ≡ by_leaf me.session d o
    go None heard = refl
    go (Some e) heard = leaf-pair me k (table_of k) d e x b (earlier me k d x kind y e b of differs number heard)

-- ---- all

among-by-leaves : (me : Member) (k : Knowledge) (d : Datagram) (x : Exchange) (low : ℕ) (ys : List Exchange) → IsBeside me k d x → AllByRecursion (IsShared me.party d.message.from low) ys → pairs_among me k d x ys ≡ leaves_among me k d x ys
among-by-leaves me k d x low [] b a = refl
among-by-leaves me k d x low (y ∷ ys) b a = go (same_exchange x y) refl (among-by-leaves me k d x low ys b a.1)
  where
    role : Role
    role = other_role (role_of me y)

    here : same_exchange x y ≡ false → pairs_in me.session k d y role ≡ leaves_in me.session k d y role
    here differs =
        λ i.
        option_or (leaf-of me k d x (opening_kind y.kind role) y b a.0.parties differs (opening-number y.kind role) i)
        (option_or (leaf-of me k d x kinds.Case y b a.0.parties differs refl i) (leaf-of me k d x kinds.Key y b a.0.parties differs refl i))

    go : (t : Bool) → same_exchange x y ≡ t → pairs_among me k d x ys ≡ leaves_among me k d x ys
        → option_or (cond t None (pairs_in me.session k d y role)) (pairs_among me k d x ys) ≡ option_or (cond t None (leaves_in me.session k d y role)) (leaves_among me k d x ys)
    go true e rest = rest
    go false e rest = λ i. option_or (here e i) (rest i)

pub others-by-leaves : OthersAreTriedByLeaves
others-by-leaves me k d p sound tried fits place =
    let last = and_parts _ _ tried in
    let unkept = and_parts _ _ last.0 in
    let accepted = and_parts _ _ unkept.0 in
    let near = and_parts _ _ accepted.0 in
    let first = and_parts _ _ near.0 in
    let to : d.message.to ≡ me.party = eqb-true d.message.to me.party first.1 in
    let low : ℕ = this_round k - me.session.shape.life in
    let apart : d.message.from ≢ d.message.to = two-parties me.session.shape d.message.body d.message.from d.message.to first.0 fits.may_send in
    among-by-leaves me k d p.exchange low (shared_with me k d.message.from)
    (record {
      sound = sound;
      read = fits-back me.session d fits;
      peer = first.0;
      accepted = accepted.1;
      to = to;
      other = λ e. apart (e ∙ sym to);
      place = ap (λ o. option_map (λ (p : Place). p.exchange) o) place;
    })
    (shared_are me.party d.message.from low low (me.session.shape.life + 2) (omega arith))

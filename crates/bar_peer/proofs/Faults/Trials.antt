-- When a datagram is searched for evidence, and what a pair of datagrams shows.
use Rattle.std.proofs.Common.{◌≡◌, ◌↔◌, ◌∙◌, ◌+◌, ◌≤◌, ℕ, true, false, List, [], ◌∷◌, Option, Some, None, is_some, sym, ap, refl, subst}
use Rattle.std.specs.Prelude.{option_map}
use Rattle.std.specs.Bool.{then_some}
use Rattle.std.specs.List.{list_all}
use Rattle.std.specs.Option.{option_map_or}
use Rattle.std.proofs.lemmas.Bool.{and_parts, and_from, eq-eqb, leb-true}
use Rattle.std.proofs.lemmas.Option.{same_Some}
use Rattle.bar_window.specs.declared.exchange.Exchange.{Exchange}
use Rattle.bar_window.specs.declared.exchange.Role.{Role}
use Rattle.bar_window.specs.declared.exchange.Role.TheVariants.{Initiator, Responder}
use Rattle.bar_window.specs.declared.exchange.XKind.{XKind}
use Rattle.bar_window.specs.Exchange.{party_on}
use Rattle.bar_terms.specs.Table.{Table}
use Rattle.bar_wire.specs.Bodies.{is_peer_kind}
use Rattle.bar_wire.specs.Datagram.{Message, Datagram, Body, Manifest, Place, exchange_by, part_of, place_by, place_of, round_of}
use Rattle.bar_wire.specs.Grammar.{IsDatagram, SpellsDatagram}
use Rattle.bar_wire.specs.Places as places
use Rattle.bar_wire.specs.declared.kind.Kind.{Kind}
use Rattle.bar_wire.specs.declared.shape.Shape.{Shape}
use Rattle.bar_rules.specs.Judge.Verdict.{Fault, all_read, are_of_one_peer, fault_of, judged, sender_of, verdict, verdict_on}
use Rattle.bar_rules.specs.Member.{Session, Member}
use Rattle.bar_rules.specs.Values.{datagram_bytes, datagram_of, is_signed_by}
use Rattle.bar_rules.specs.Peer.Agreement.{IsRecent}
use Rattle.bar_rules.specs.Peer.Evidence.{accuses, if_accuses, is_tried, pair_with}
use Rattle.bar_rules.specs.Peer.Knowledge.{Knowledge, this_round}
use Rattle.bar_laws.specs.Soundness.{IsSound}
use Rattle.bar_laws.proofs.Keeping.{accepted-of}
use Rattle.bar_wire.proofs.ExchangeBy.{round-by}
use Rattle.bar_peer.proofs.Hearing.Exchanges.{is_here}

-- if the datagrams can be read, are of one peer and are accepted, the verdict is the fault that is found
abbrev pub VerdictsAreFound : Type 0
VerdictsAreFound =
    (s : Session) (table : Table) (evidence : List (List ℕ)) (ds : List Datagram) → all_read s evidence ≡ Some ds
    → are_of_one_peer ds ≡ true → list_all (is_signed_by s) ds ≡ true → verdict s table evidence ≡ judged s table ds (fault_of s table ds)

-- bytes decode to a datagram if and only if they encode it
abbrev pub IsSpelled : Type 0
IsSpelled = (s : Shape) (d : Datagram) (bytes : List ℕ) → (places.datagram_of s bytes ≡ Some d) ↔ SpellsDatagram s d bytes

-- ---- the sender and the round of a place

from_by : (r : ℕ) (kind : XKind) (role : Role) (from to : ℕ) → from ≡ party_on (exchange_by r kind role from to) role
from_by r kind Initiator from to = refl
from_by r kind Responder from to = refl

sender_at : (m : Message) (p : Place) → place_of m ≡ Some p → m.from ≡ party_on p.exchange p.role
sender_at m p e = go (part_of m.body) e
  where
    go : (o : Option (ℕ × XKind × Role)) → option_map (place_by m.from m.to) o ≡ Some p → m.from ≡ party_on p.exchange p.role
    go None e = absurd (cc)
    go (Some q) e =
        from_by q.0 q.1 q.2 m.from m.to ∙ ap (λ (p : Place). party_on p.exchange p.role) (same_Some (place_by m.from m.to q) p e)

-- two messages with the same place have the same sender
one_sender : (m n : Message) (p : Place) → place_of m ≡ Some p → place_of n ≡ Some p → m.from ≡ n.from
one_sender m n p e f = sender_at m p e ∙ sym (sender_at n p f)

part_round : (b : Body) → round_of b ≡ option_map_or (λ q. q.0) (part_of b) (round_of b)
part_round (Manifest r ds) = refl
part_round _ = refl

-- the round of a message is that of its exchange
pub round_at : (m : Message) (p : Place) → place_of m ≡ Some p → round_of m.body ≡ p.exchange.round
round_at m p e = part_round m.body ∙ go (part_of m.body) e
  where
    go : (o : Option (ℕ × XKind × Role)) → option_map (place_by m.from m.to) o ≡ Some p
        → option_map_or (λ q. q.0) o (round_of m.body) ≡ p.exchange.round
    go None e = absurd (cc)
    go (Some q) e =
        sym (round-by q.0 q.1 q.2 m.from m.to) ∙ ap (λ (p : Place). p.exchange.round) (same_Some (place_by m.from m.to q) p e)

-- ---- accepted signatures

-- ---- verdicts about a sender

judged_accuses : (s : Session) (t : Table) (ds : List Datagram) (q : ℕ) (o : Option Fault) → sender_of ds ≡ q
    → accuses q (judged s t ds o) ≡ is_some o
judged_accuses s t ds q None e = refl
judged_accuses s t ds q (Some fault) e = eq-eqb (sender_of ds) q e

shown : (s : Session) (t : Table) (q : ℕ) (evidence : List (List ℕ)) (ds : List Datagram) → VerdictsAreFound
    → all_read s evidence ≡ Some ds → are_of_one_peer ds ≡ true → list_all (is_signed_by s) ds ≡ true → sender_of ds ≡ q
    → if_accuses s t q evidence ≡ then_some (is_some (fault_of s t ds)) evidence
shown s t q evidence ds law read one signed from =
    ap (λ b. then_some b evidence)
    (ap (accuses q) (law s t evidence ds read one signed) ∙ judged_accuses s t ds q (fault_of s t ds) from)

-- a datagram of a kind that peers sign, with an accepted signature, that can be decoded from its bytes
pub record IsGood (s : Session) (d : Datagram) : Type 0 where
  pub kind : is_peer_kind d.message.body ≡ true
  pub accepted : is_signed_by s d ≡ true
  pub read : datagram_of s (datagram_bytes s d) ≡ Some d

pub read_back : (s : Session) (d : Datagram) → IsSpelled → IsDatagram s.shape d → datagram_of s (datagram_bytes s d) ≡ Some d
read_back s d spelled fits = (spelled s.shape d (datagram_bytes s d)).1 (record { fits = fits; is = refl })

pub good_by : (s : Session) (d : Datagram) (bytes : List ℕ) → IsSpelled → SpellsDatagram s.shape d bytes → is_peer_kind d.message.body ≡ true
    → is_signed_by s d ≡ true → IsGood s d
good_by s d bytes spelled spells kind signed = record { kind = kind; accepted = signed; read = read_back s d spelled spells.fits }

-- a datagram alone accuses its sender if and only if a fault is found
pub one_shown : (s : Session) (t : Table) (d : Datagram) → VerdictsAreFound → IsGood s d
    → if_accuses s t d.message.from (datagram_bytes s d ∷ []) ≡ then_some (is_some (fault_of s t (d ∷ []))) (datagram_bytes s d ∷ [])
one_shown s t d law good =
    shown s t d.message.from (datagram_bytes s d ∷ []) (d ∷ []) law (rw good.read refl)
    (and_from _ _ (and_from _ _ good.kind (eq-eqb d.message.from d.message.from refl)) refl)
    (and_from _ _ good.accepted refl)
    refl

-- An earlier datagram of the sender. Its signature is accepted if peers sign its kind.
pub record IsEarlier (s : Session) (d e : Datagram) : Type 0 where
  pub from : e.message.from ≡ d.message.from
  pub accepted : is_peer_kind e.message.body ≡ true → is_signed_by s e ≡ true
  pub read : datagram_of s (datagram_bytes s e) ≡ Some e

both_read : (s : Session) (d e : Datagram) → IsGood s d → IsEarlier s d e
    → all_read s (datagram_bytes s e ∷ datagram_bytes s d ∷ []) ≡ Some (e ∷ d ∷ [])
both_read s d e good earlier = rw (earlier.read, good.read) refl

-- two datagrams accuse their sender if and only if a fault is found
pub pair_shown : (s : Session) (t : Table) (d e : Datagram) → VerdictsAreFound → IsGood s d → IsEarlier s d e
    → is_peer_kind e.message.body ≡ true
    → pair_with s t d (Some e) ≡ then_some (is_some (fault_of s t (e ∷ d ∷ []))) (datagram_bytes s e ∷ datagram_bytes s d ∷ [])
pair_shown s t d e law good earlier kind =
    shown s t d.message.from (datagram_bytes s e ∷ datagram_bytes s d ∷ []) (e ∷ d ∷ []) law (both_read s d e good earlier)
    (and_from _ _ (and_from _ _ kind (eq-eqb e.message.from e.message.from refl))
    (and_from _ _ (and_from _ _ good.kind (eq-eqb d.message.from e.message.from (sym earlier.from))) refl))
    (and_from _ _ (earlier.accepted kind) (and_from _ _ good.accepted refl))
    earlier.from

-- they don't if peers don't sign the earlier one
pub pair_unshown : (s : Session) (t : Table) (d e : Datagram) → IsGood s d → IsEarlier s d e → is_peer_kind e.message.body ≡ false
    → pair_with s t d (Some e) ≡ None
pair_unshown s t d e good earlier other =
    subst (λ o. then_some (accuses d.message.from (verdict_on s t o)) (datagram_bytes s e ∷ datagram_bytes s d ∷ []) ≡ None)
    (sym (both_read s d e good earlier))
    (rw other refl)

-- ---- datagrams that were heard before

pub earlier_of : (me : Member) (k : Knowledge) (d e : Datagram) (kind : Kind) (x : Exchange) (role : Role) → IsSpelled → IsSound me k
    → place_of d.message ≡ Some (record { exchange = x; role = role }) → k.heard kind x role ≡ Some e → IsEarlier me.session d e
earlier_of me k d e kind x role spelled sound at is = record {
  from =
      one_sender e.message d.message (record { exchange = x; role = role })
      (is_here e.message kind x role (sound.heard kind x role e is)).place_is
      at;
  accepted = accepted-of me.session e (sound.accepted kind x role e is);
  read = read_back me.session e spelled (sound.spelled kind x role e is);
}

-- The bytes that the ledger recalls at a place are those of the datagram that was heard there.
pub record IsRecalled (s : Session) (d : Datagram) (o : Option Datagram) (heard : List ℕ) (e : Datagram) : Type 0 where
  pub is : o ≡ Some e
  pub bytes : datagram_bytes s e ≡ heard
  pub earlier : IsEarlier s d e

pub recalled_here : (me : Member) (k : Knowledge) (d e : Datagram) (kind : Kind) (x : Exchange) (role : Role) (heard : List ℕ) → IsSpelled
    → IsSound me k → place_of d.message ≡ Some (record { exchange = x; role = role })
    → option_map (datagram_bytes me.session) (k.heard kind x role) ≡ Some heard → Some e ≡ datagram_of me.session heard
    → IsRecalled me.session d (k.heard kind x role) heard e
recalled_here me k d e kind x role heard spelled sound at bytes read = go (k.heard kind x role) refl bytes
  where
    go : (o : Option Datagram) → k.heard kind x role ≡ o → option_map (datagram_bytes me.session) o ≡ Some heard
        → IsRecalled me.session d (k.heard kind x role) heard e
    go None is told = absurd (cc)
    go (Some f) is told =
        let same : datagram_bytes me.session f ≡ heard = same_Some (datagram_bytes me.session f) heard told in
        let one : e ≡ f =
        same_Some e f
        (read ∙ ap (datagram_of me.session) (sym same) ∙ read_back me.session f spelled (sound.spelled kind x role f is))
        in
        let here : k.heard kind x role ≡ Some e = is ∙ ap Some (sym one) in
        record {
          is = here;
          bytes = ap (datagram_bytes me.session) one ∙ same;
          earlier = earlier_of me k d e kind x role spelled sound at here;
        }

-- ---- which datagrams are searched

pub record IsTried (me : Member) (k : Knowledge) (d : Datagram) : Type 0 where
  pub accepted : is_signed_by me.session d ≡ true
  pub near : (p : Place) → place_of d.message ≡ Some p → IsRecent me k p.exchange.round

pub tried_parts : (me : Member) (k : Knowledge) (d : Datagram) → is_tried me k d ≡ true → IsTried me k d
tried_parts me k d tried =
    let last = and_parts _ _ tried in
    record {
      accepted = (and_parts _ _ (and_parts _ _ last.0).0).1;
      near = λ p at.
          subst (λ r. this_round k ≤ r + me.session.shape.life) (round_at d.message p at)
          (leb-true (this_round k) (round_of d.message.body + me.session.shape.life) last.1);
    }

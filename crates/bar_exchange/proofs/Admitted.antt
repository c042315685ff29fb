-- A datagram of an exchange that is admitted now.
use Rattle.std.proofs.Common.{◌≡◌, ◌≢◌, ◌∙◌, ℕ, true, false, not, ◌&&◌, List, Option, Some, None, refl, sym, ap, subst}
use Rattle.std.specs.Prelude.{option_map, ◌==◌, if◌then◌else◌}
use Rattle.std.proofs.lemmas.Bool.{and_parts, not-true, eqb-true, ne_eqb, eq-eqb}
use Rattle.std.proofs.lemmas.Option.{none-some, same_Some}
use Rattle.bar_window.specs.declared.exchange.Exchange.{Exchange}
use Rattle.bar_window.specs.declared.exchange.Role.{Role}
use Rattle.bar_window.specs.declared.exchange.Role.TheVariants.{Initiator, Responder}
use Rattle.bar_window.specs.declared.exchange.XKind.{XKind}
use Rattle.bar_window.specs.Exchange.{other_role}
use Rattle.bar_wire.specs.Datagram.{Datagram, Message, Body, Manifest, Block, Request, Response, Divulge, Query, Reply, Case, KeyReq, Key, Evidence, Evict, Place, place_by, part_of, exchange_of, exchange_by, kind_of, is_signed}
use Rattle.bar_wire.specs.Grammar.{MaySend}
use Rattle.bar_wire.specs.Limits.{everyone}
use Rattle.bar_wire.specs.declared.shape.Shape.{Shape}
use Rattle.bar_rules.specs.Member.{Member}
use Rattle.bar_rules.specs.Peer.Admission.{is_admitted, is_row_met, is_to_all, is_named_again}
use Rattle.bar_rules.specs.Peer.Exchanges.{role_of}
use Rattle.bar_rules.specs.Peer.Knowledge.{Knowledge, has_heard_of}
use Rattle.bar_exchange.specs.Code.Keeping.{IsAdmittedNow}
use Rattle.bar_exchange.proofs.Places.{IsAt}
use Rattle.bar_bytes.proofs.Options.{none-of}

-- It is on a side of the exchange. This member is on the other side, and heard nothing of its kind from that side before.
pub record IsAdmittedOf (me : Member) (k : Knowledge) (d : Datagram) (x : Exchange) (side : Role) : Type 0 where
  pub at : IsAt d.message x side
  pub mine : role_of me x ≡ other_role side
  pub new : k.heard (kind_of d.message.body) x side ≡ None
  pub row : is_row_met me k d.message.from d.message.to d.message.body ≡ true

-- properties of the datagram that follow from its body
record IsToMe (me : Member) (k : Knowledge) (from to : ℕ) (b : Body) (p : ℕ × XKind × Role) : Type 0 where
  here : to ≡ me.party
  apart : from ≢ to
  unheard : has_heard_of k (kind_of b) (exchange_by p.0 p.1 p.2 from to) p.2 ≡ false

to_me : (me : Member) (k : Knowledge) (s : Shape) (from to : ℕ) (b : Body) (p : ℕ × XKind × Role) → part_of b ≡ Some p
    → (if is_to_all b then to == everyone else to == me.party) ≡ true → MaySend s (kind_of b) from to
    → not (is_signed b && has_heard_of k (kind_of b) (exchange_by p.0 p.1 p.2 from to) p.2) ≡ true → is_row_met me k from to b ≡ true
    → IsToMe me k from to b p
to_me me k s from to (Manifest r ds) p part for sent again row = absurd (none-some p part)
to_me me k s from to (Block u b) p part for sent again row = absurd (none-some p part)
to_me me k s from to (Evidence ds) p part for sent again row = absurd (none-some p part)
to_me me k s from to (Evict r ps) p part for sent again row = absurd (none-some p part)
to_me me k s from to (Request r seed c) p part for sent again row = record { here = eqb-true to me.party for; apart = sent.2; unheard = not-true _ again }
to_me me k s from to (Response r hb) p part for sent again row = record { here = eqb-true to me.party for; apart = sent.2; unheard = not-true _ again }
to_me me k s from to (Query r seed y o) p part for sent again row = record { here = eqb-true to me.party for; apart = sent.2; unheard = not-true _ again }
to_me me k s from to (Reply r w g z) p part for sent again row = record { here = eqb-true to me.party for; apart = sent.2; unheard = not-true _ again }
to_me me k s from to (Case c) p part for sent again row = record { here = eqb-true to me.party for; apart = sent.2; unheard = not-true _ again }
to_me me k s from to (Key g) p part for sent again row = record { here = eqb-true to me.party for; apart = sent.2; unheard = not-true _ again }
to_me me k s from to (Divulge r n ha) p part for sent again row = record {
  here = eqb-true to me.party for;
  apart = sent.2;
  unheard =
      subst (λ (p : ℕ × XKind × Role). has_heard_of k (kind_of (Divulge r n ha)) (exchange_by p.0 p.1 p.2 from to) p.2 ≡ false) (same_Some _ p part)
      (not-true _ (and_parts _ _ (and_parts _ _ (and_parts _ _ row).0).0).1);
}
to_me me k s from to (KeyReq r kind role) p part for sent again row = record {
  here = eqb-true to me.party for;
  apart = sent.2;
  unheard =
      subst (λ (p : ℕ × XKind × Role). has_heard_of k (kind_of (KeyReq r kind role)) (exchange_by p.0 p.1 p.2 from to) p.2 ≡ false) (same_Some _ p part)
      (not-true _ (and_parts _ _ (and_parts _ _ row).0).1);
}

-- the receiver is on the other side
side_by : (me : Member) (r : ℕ) (kind : XKind) (side : Role) (from to : ℕ) → to ≡ me.party → from ≢ to → role_of me (exchange_by r kind side from to) ≡ other_role side
side_by me r kind Initiator from to here apart = ap (λ t. if t then Initiator else Responder) (ne_eqb from me.party (λ e. apart (e ∙ sym here)))
side_by me r kind Responder from to here apart = ap (λ t. if t then Initiator else Responder) (eq-eqb to me.party here)

-- An admitted datagram of an exchange is on one of its sides.
pub record IsOfSide (me : Member) (k : Knowledge) (d : Datagram) (x : Exchange) : Type 0 where
  pub side : Role
  pub is : IsAdmittedOf me k d x side

pub admitted_of : (me : Member) (k : Knowledge) (d : Datagram) (bytes : List ℕ) (x : Exchange) → IsAdmittedNow me k d bytes → exchange_of d.message ≡ Some x → IsOfSide me k d x
unfolding is_admitted
admitted_of me k d bytes x h of = go (part_of d.message.body) refl
  where
    m : Message
    m = d.message

    go : (o : Option (ℕ × XKind × Role)) → part_of d.message.body ≡ o → IsOfSide me k d x
    go None part = absurd (none-some x (sym (ap (λ o. option_map (λ (p : Place). p.exchange) (option_map (place_by d.message.from d.message.to) o)) part) ∙ of))
    go (Some p) part =
        let one : exchange_by p.0 p.1 p.2 m.from m.to ≡ x =
        same_Some _ x (sym (ap (λ o. option_map (λ (p : Place). p.exchange) (option_map (place_by m.from m.to) o)) part) ∙ of)
        in
        let again : not (is_signed m.body && has_heard_of k (kind_of m.body) (exchange_by p.0 p.1 p.2 m.from m.to) p.2) ≡ true =
        ap (λ o. not (is_signed m.body && is_named_again k (option_map (place_by m.from m.to) o) m.body)) (sym part) ∙ (and_parts _ _ (and_parts _ _ h.admitted).0).1
        in
        let row : is_row_met me k m.from m.to m.body ≡ true = (and_parts _ _ h.admitted).1 in
        let for = (and_parts _ _ (and_parts _ _ (and_parts _ _ (and_parts _ _ h.admitted).0).0).0).0 in
        let t = to_me me k me.session.shape m.from m.to m.body p part for h.spelled.may_send again row in
        record {
          side = p.2;
          is = record {
            at = ap (option_map (place_by m.from m.to)) part ∙ (λ i. Some (record { exchange = one i; role = p.2 }));
            mine = ap (role_of me) (sym one) ∙ side_by me p.0 p.1 p.2 m.from m.to t.here t.apart;
            new = none-of _ (ap (λ x. has_heard_of k (kind_of m.body) x p.2) (sym one) ∙ t.unheard);
            row = row;
          };
        }

-- if its place is known, it is on that side
pub admitted_at : (me : Member) (k : Knowledge) (d : Datagram) (bytes : List ℕ) (x : Exchange) (side : Role) → IsAdmittedNow me k d bytes → IsAt d.message x side → IsAdmittedOf me k d x side
admitted_at me k d bytes x side now at =
    let o = admitted_of me k d bytes x now (ap (option_map (λ (p : Place). p.exchange)) at) in
    let same : o.side ≡ side = ap (λ (p : Place). p.role) (same_Some _ _ (sym o.is.at ∙ at)) in
    subst (IsAdmittedOf me k d x) same o.is

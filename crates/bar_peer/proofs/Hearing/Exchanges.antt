-- The knowledge after a datagram of an exchange was heard.
use Rattle.std.proofs.Common.{◌≡◌, ◌∙◌, ◌&&◌, ℕ, Bool, true, false, not, Option, Some, None, is_some, sym, ap, refl, option_map}
use Rattle.std.specs.Option.{option_map_or}
use Rattle.std.proofs.lemmas.Bool.{not-true, and_parts, false≢true, both_ways}
use Rattle.bar_window.specs.declared.exchange.Exchange.{Exchange}
use Rattle.bar_window.specs.declared.exchange.Role.{Role}
use Rattle.bar_window.specs.declared.exchange.Role.TheVariants.{Initiator}
use Rattle.bar_window.specs.declared.exchange.XKind.{XKind}
use Rattle.bar_window.specs.declared.exchange.XKind.TheVariants.{Balanced, Push}
use Rattle.bar_window.proofs.Exchanges.{same_exchange-is, same_role-is}
use Rattle.bar_wire.specs.Datagram.{Message, Datagram, Place, kind_of, place_by, place_of, is_of, is_place, is_signed}
use Rattle.bar_wire.specs.Kinds.{is_signed_kind}
use Rattle.bar_wire.specs.declared.kind.Kind.{Kind}
use Rattle.bar_rules.specs.Member.{Member}
use Rattle.bar_rules.specs.Peer.Admission.{is_admitted, is_named_again}
use Rattle.bar_rules.specs.Peer.Exchanges.{request_kind}
use Rattle.bar_rules.specs.Peer.Knowledge.{Knowledge, has_heard_of}
use Rattle.bar_laws.specs.Soundness.{IsSound}
use Rattle.bar_exchange.proofs.KindCases.{one_kind}
use Rattle.bar_bytes.proofs.Options.{none-of}

-- ---- a place

pub unplaced : (from to : ℕ) (o : Option (ℕ × XKind × Role)) → option_map (place_by from to) o ≡ None → is_some o ≡ true → ⊥
unplaced from to None none some = false≢true some
unplaced from to (Some p) none some = absurd (cc)

-- ---- what a datagram is of

placed : (o : Option Place) (x : Exchange) (role : Role) → option_map_or (is_place x role) o false ≡ true
    → o ≡ Some (record { exchange = x; role = role })
placed None x role e = absurd (false≢true e)
placed (Some p) x role e =
    let parts = and_parts _ _ e in
    λ i. Some (record { exchange = same_exchange-is p.exchange x parts.0 i; role = same_role-is p.role role parts.1 i })

-- The message is of this kind, and on this side of the exchange.
pub record IsHere (m : Message) (kind : Kind) (x : Exchange) (role : Role) : Type 0 where
  pub kind_is : kind_of m.body ≡ kind
  pub place_is : place_of m ≡ Some (record { exchange = x; role = role })

pub is_here : (m : Message) (kind : Kind) (x : Exchange) (role : Role) → is_of kind x role m ≡ true → IsHere m kind x role
is_here m kind x role e =
    let parts = and_parts _ _ e in
    record { kind_is = one_kind (kind_of m.body) kind parts.0; place_is = placed (place_of m) x role parts.1 }

-- ---- requests

signed_request : (kind : XKind) → is_signed_kind (request_kind kind) ≡ true
signed_request Balanced = refl
signed_request Push = refl

unheard : (signed again : Bool) → not (signed && again) ≡ true → signed ≡ true → again ≡ false
unheard true again e is = not-true again e
unheard false again e is = absurd (false≢true is)

-- an admitted request is the first of its exchange
pub request_unheard : (me : Member) (k : Knowledge) (d : Datagram) (x : Exchange) → is_admitted me k d ≡ true
    → IsHere d.message (request_kind x.kind) x Initiator → has_heard_of k (request_kind x.kind) x Initiator ≡ false
unfolding is_admitted
request_unheard me k d x e here =
    let fresh = (and_parts _ _ (and_parts _ _ e).0).1 in
    let again : is_named_again k (place_of d.message) d.message.body ≡ false =
    unheard (is_signed d.message.body) _ fresh (ap is_signed_kind here.kind_is ∙ signed_request x.kind)
    in
    (λ i. has_heard_of k (sym here.kind_is i) x Initiator) ∙ (λ i. is_named_again k (sym here.place_is i) d.message.body) ∙ again

-- so it has no seat yet
pub unseated : (me : Member) (k : Knowledge) (d : Datagram) → IsSound me k → is_admitted me k d ≡ true
    → (x : Exchange) → is_of (request_kind x.kind) x Initiator d.message ≡ true → k.seat x ≡ None
unseated me k d sound e x is = none-of (k.seat x) (by (is_some (k.seat x)) refl)
  where
    by : (b : Bool) → is_some (k.seat x) ≡ b → is_some (k.seat x) ≡ false
    by false f = f
    by true f =
        absurd (both_ways (has_heard_of k (request_kind x.kind) x Initiator)
        (request_unheard me k d x e (is_here d.message (request_kind x.kind) x Initiator is)) (sound.seated x f))

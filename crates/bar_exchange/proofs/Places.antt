-- The exchanges and sides of datagrams.
use Rattle.std.proofs.Common.{◌≡◌, ◌∙◌, Bool, true, false, ◌&&◌, Option, Some, None, refl, ap}
use Rattle.std.specs.Bool.{then_some}
use Rattle.std.specs.Option.{option_or, option_map_or}
use Rattle.std.proofs.lemmas.Bool.{and_right, and_left}
use Rattle.bar_window.specs.declared.exchange.Exchange.{Exchange}
use Rattle.bar_window.specs.declared.exchange.Role.{Role}
use Rattle.bar_window.specs.declared.exchange.Role.TheVariants.{Initiator, Responder}
use Rattle.bar_window.specs.Exchange.{same_exchange, same_role}
use Rattle.bar_window.proofs.Exchanges.{same_exchange_refl, same_role_refl}
use Rattle.bar_wire.specs.Datagram.{Message, is_of, is_place, place_of, kind_of}
use Rattle.bar_wire.specs.declared.kind.Kind.{Kind}
use Rattle.bar_ledger.specs.Code.Hearing.{same_datagram}

-- ---- the first one, if the test holds

pub first_one : {A : Type 0} (o : Option A) (b : Bool) (a : A) → o ≡ None → b ≡ true → option_or o (then_some b a) ≡ Some a
first_one o b a none e = λ i. option_or (none i) (then_some (e i) a)

-- ---- sides

pub same_flip : (a b : Role) → same_role a b ≡ same_role b a
same_flip Initiator Initiator = refl
same_flip Initiator Responder = refl
same_flip Responder Initiator = refl
same_flip Responder Responder = refl

-- ---- the kind, exchange and side of a message with a place

abbrev pub IsAt : Message → Exchange → Role → Type 0
IsAt m y r = place_of m ≡ Some (record { exchange = y; role = r })

pub is_of_at : (m : Message) (y : Exchange) (r : Role) → IsAt m y r → (kind : Kind) (x : Exchange) (role : Role)
    → is_of kind x role m ≡ (same_datagram (kind_of m.body) kind && (same_exchange y x && same_role r role))
is_of_at m y r at kind x role = ap (λ o. same_datagram (kind_of m.body) kind && option_map_or (is_place x role) o false) at

-- a message isn't of another exchange, nor of another kind
pub not_of_other : (m : Message) (y : Exchange) (r : Role) → IsAt m y r → (x : Exchange) → same_exchange y x ≡ false → (kind : Kind) (role : Role)
    → is_of kind x role m ≡ false
not_of_other m y r at x other kind role = is_of_at m y r at kind x role ∙ and_right _ _ (and_left _ _ other)

pub not_of_kind : (m : Message) (kind : Kind) → same_datagram (kind_of m.body) kind ≡ false → (x : Exchange) (role : Role) → is_of kind x role m ≡ false
not_of_kind m kind other x role = and_left _ _ other

pub is_of_itself : (m : Message) (y : Exchange) (r : Role) → IsAt m y r → (kind : Kind) → same_datagram (kind_of m.body) kind ≡ true → is_of kind y r m ≡ true
is_of_itself m y r at kind e = is_of_at m y r at kind y r ∙ (λ i. e i && (same_exchange_refl y i && same_role_refl r i))

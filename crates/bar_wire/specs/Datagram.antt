-- Datagrams as values, of twelve kinds. A set of updates is a list in strictly increasing order.
use Rattle.std.specs.Prelude.{ℕ, ◌==◌, ◌&&◌, Bool, false, List, [], ◌∷◌, Option, Some, None}
use Rattle.std.specs.Option.{option_map, option_map_or}
use Rattle.bar_window.specs.declared.update.UpdateId.{UpdateId}
use Rattle.bar_window.specs.declared.exchange.Exchange.{Exchange}
use Rattle.bar_window.specs.declared.exchange.Role.{Role}
use Rattle.bar_window.specs.declared.exchange.Role.TheVariants.{Initiator, Responder}
use Rattle.bar_window.specs.declared.exchange.XKind.{XKind}
use Rattle.bar_window.specs.declared.exchange.XKind.TheVariants.{Balanced, Push}
use Rattle.bar_window.specs.Terms.{Terms}
use Rattle.bar_window.specs.Exchange.{kind_code, role_code, same_exchange, same_role}
use Rattle.bar_wire.specs.declared.kind.Kind.{Kind}
use Rattle.bar_wire.specs.declared.kind.Kind.TheVariants as kinds
use Rattle.bar_wire.specs.Kinds.{code_of, is_signed_kind}

-- the fields of a CASE
pub record Briefcase : Type 0 where
  pub round : ℕ
  pub kind : XKind
  pub role : Role
  pub updates : ℕ
  pub junk : ℕ
  pub terms : Terms
  pub cipher : List ℕ

-- the fields of a KEY
pub record KeyGiven : Type 0 where
  pub round : ℕ
  pub kind : XKind
  pub role : Role
  pub key : List ℕ

pub data Body : Type 0 where
  Manifest : (round : ℕ) → (digests : List (List ℕ)) → Body
  Block : (update : UpdateId) → (block : List ℕ) → Body
  Request : (round : ℕ) → (seed commitment : List ℕ) → Body
  Response : (round : ℕ) → (hb : List UpdateId) → Body
  Divulge : (round : ℕ) → (nonce : List ℕ) → (ha : List UpdateId) → Body
  Query : (round : ℕ) → (seed : List ℕ) → (young aged : List UpdateId) → Body
  Reply : (round : ℕ) → (want give : List UpdateId) → (junk : ℕ) → Body
  Case : Briefcase → Body
  KeyReq : (round : ℕ) → (kind : XKind) → (role : Role) → Body
  Key : KeyGiven → Body
  Evidence : (datagrams : List (List ℕ)) → Body
  Evict : (round : ℕ) → (parties : List ℕ) → Body

pub record Message : Type 0 where
  pub from : ℕ
  pub to : ℕ
  pub body : Body

-- a message with its signature, which is empty if the kind isn't signed
pub record Datagram : Type 0 where
  pub message : Message
  pub signature : List ℕ

-- ---- functions of a message

abbrev pub kind_of : Body → Kind
kind_of (Manifest r ds) = kinds.Manifest
kind_of (Block u b) = kinds.Block
kind_of (Request r s c) = kinds.Request
kind_of (Response r hb) = kinds.Response
kind_of (Divulge r n ha) = kinds.Divulge
kind_of (Query r s y o) = kinds.Query
kind_of (Reply r w g z) = kinds.Reply
kind_of (Case c) = kinds.Case
kind_of (KeyReq r k role) = kinds.KeyReq
kind_of (Key k) = kinds.Key
kind_of (Evidence ds) = kinds.Evidence
kind_of (Evict r ps) = kinds.Evict

abbrev pub kind_number : Body → ℕ
kind_number b = code_of (kind_of b)

abbrev pub is_signed : Body → Bool
is_signed b = is_signed_kind (kind_of b)

-- the round of a body; an EVIDENCE has none
abbrev pub round_of : Body → ℕ
round_of (Manifest r ds) = r
round_of (Block u b) = u.round
round_of (Request r s c) = r
round_of (Response r hb) = r
round_of (Divulge r n ha) = r
round_of (Query r s y o) = r
round_of (Reply r w g z) = r
round_of (Case c) = c.round
round_of (KeyReq r k role) = r
round_of (Key k) = k.round
round_of (Evidence ds) = 0
round_of (Evict r ps) = r

-- the exchange of a round and kind in which `from` has this role and `to` the other
abbrev pub exchange_by : ℕ → XKind → Role → ℕ → ℕ → Exchange
exchange_by r k Initiator from to = record { round = r; kind = k; initiator = from; responder = to }
exchange_by r k Responder from to = record { round = r; kind = k; initiator = to; responder = from }

-- the round, kind of exchange and sender's side of a body, if it belongs to an exchange
abbrev pub part_of : Body → Option (ℕ × XKind × Role)
part_of (Request r s c) = Some (r, Balanced, Initiator)
part_of (Response r hb) = Some (r, Balanced, Responder)
part_of (Divulge r n ha) = Some (r, Balanced, Initiator)
part_of (Query r s y o) = Some (r, Push, Initiator)
part_of (Reply r w g z) = Some (r, Push, Responder)
part_of (Case c) = Some (c.round, c.kind, c.role)
part_of (KeyReq r k role) = Some (r, k, role)
part_of (Key k) = Some (k.round, k.kind, k.role)
part_of _ = None

-- the place of a message: its exchange, and the side of its sender
pub record Place : Type 0 where
  pub exchange : Exchange
  pub role : Role

-- the place of a message between these parties, of this round, kind and side
abbrev pub place_by : ℕ → ℕ → ℕ × XKind × Role → Place
place_by from to p = record { exchange = exchange_by p.0 p.1 p.2 from to; role = p.2 }

-- the place of a message that belongs to an exchange
abbrev pub place_of : Message → Option Place
place_of m = option_map (place_by m.from m.to) (part_of m.body)

-- the exchange that a message belongs to
abbrev pub exchange_of : Message → Option Exchange
exchange_of m = option_map (λ p. p.exchange) (place_of m)

abbrev pub is_place : Exchange → Role → Place → Bool
is_place x role place = same_exchange place.exchange x && same_role place.role role

-- whether a message is of this kind, this exchange and this side
abbrev pub is_of : Kind → Exchange → Role → Message → Bool
is_of kind x role m =
    (kind_number m.body == code_of kind) && option_map_or (is_place x role) (place_of m) false

-- the fields of a kind's identity
abbrev pub named : Body → ℕ → ℕ → List ℕ
named (Manifest r ds) from to = r ∷ []
named (Evict r ps) from to = r ∷ []
named (Request r s c) from to = from ∷ r ∷ []
named (Query r s y o) from to = from ∷ r ∷ []
named (Response r hb) from to = from ∷ to ∷ r ∷ []
named (Reply r w g z) from to = from ∷ to ∷ r ∷ []
named (Case c) from to = from ∷ to ∷ c.round ∷ kind_code c.kind ∷ role_code c.role ∷ []
named (Key k) from to = from ∷ to ∷ k.round ∷ kind_code k.kind ∷ role_code k.role ∷ []
named _ from to = []

-- The identity of a message, which may not be used twice: the kind, and those of the sender, receiver, round, exchange kind and role that
-- belong to the identity of this kind.
abbrev pub identity_of : Message → List ℕ
identity_of m = kind_number m.body ∷ named m.body m.from m.to

-- The reply table: what a peer is to send for a datagram.
use Rattle.std.specs.Prelude.{ℕ, ◌&&◌, ◌||◌, Bool, true, false, List, [], ◌∷◌, Option, Some, None, if◌then◌else◌, nat_le, option_and_then}
use Rattle.std.specs.Bool.{then_some}
use Rattle.std.specs.Str.{bytes_eq}
use Rattle.bar_window.specs.declared.exchange.Exchange.{Exchange}
use Rattle.bar_window.specs.declared.exchange.Role.TheVariants.{Initiator, Responder}
use Rattle.bar_window.specs.declared.exchange.XKind.TheVariants.{Balanced, Push}
use Rattle.bar_window.specs.Terms.{Terms}
use Rattle.bar_window.specs.Terms as forms
use Rattle.bar_terms.specs.Terms.{trade_count}
use Rattle.bar_wire.specs.Datagram.{Datagram, Body, Request, Response, Divulge, Query, Reply, Case, KeyReq, kind_of, Place, place_of, exchange_by}
use Rattle.bar_wire.specs.declared.kind.Kind.TheVariants as kinds
use Rattle.bar_rules.specs.Member.{Session, Member}
use Rattle.bar_rules.specs.Values.{datagram_bytes}
use Rattle.bar_rules.specs.Peer.Knowledge.{Knowledge, is_in_time}
use Rattle.bar_rules.specs.Peer.Terms.{terms_of}
use Rattle.bar_rules.specs.Peer.Orders.{Order, Answer, Reveal, GiveCase, AskKey, GiveKey}

-- a balanced exchange continues if each side lacks something that the other has
abbrev pub is_trade_worth : Session → Option Terms → Bool
is_trade_worth s None = false
is_trade_worth s (Some (forms.Balanced nonce ha hb)) = nat_le 1 (trade_count s.cap ha hb)
is_trade_worth s (Some (forms.Push young aged want give junk)) = true

abbrev pub orders_when : Bool → List Order → List Order
orders_when b os = if b then os else []

-- the orders for a datagram that was just admitted or is repeated; the log contains it already
abbrev pub orders_for : Member → Knowledge → Bool → ℕ → ℕ → Body → List Order
orders_for me k is_new from to (Request r seed c) =
    orders_when (is_new || is_in_time me.session k kinds.Request r) (Answer (exchange_by r Balanced Initiator from to) ∷ [])
orders_for me k is_new from to (Response r hb) =
    let x : Exchange = exchange_by r Balanced Responder from to in
    orders_when (is_new && is_trade_worth me.session (terms_of me k x)) (Reveal x ∷ GiveCase x ∷ [])
orders_for me k is_new from to (Divulge r nonce ha) =
    let x : Exchange = exchange_by r Balanced Initiator from to in
    orders_when ((is_new || is_in_time me.session k kinds.Divulge r) && is_trade_worth me.session (terms_of me k x)) (GiveCase x ∷ [])
orders_for me k is_new from to (Query r seed young aged) =
    let x : Exchange = exchange_by r Push Initiator from to in
    orders_when (is_new || is_in_time me.session k kinds.Query r) (Answer x ∷ GiveCase x ∷ [])
orders_for me k is_new from to (Reply r want give junk) =
    orders_when is_new (GiveCase (exchange_by r Push Responder from to) ∷ [])
orders_for me k is_new from to (Case c) = orders_when is_new (AskKey (exchange_by c.round c.kind c.role from to) ∷ [])
orders_for me k is_new from to (KeyReq r kind role) =
    orders_when (is_new || is_in_time me.session k kinds.KeyReq r) (GiveKey (exchange_by r kind role from to) ∷ [])
orders_for me k is_new from to _ = []

abbrev pub reply_orders : Member → Knowledge → Bool → Datagram → List Order
reply_orders me k is_new d = orders_for me k is_new d.message.from d.message.to d.message.body

-- ---- repeats

abbrev pub if_same : Session → Datagram → Option Datagram → Option Datagram
if_same s d o = option_and_then (λ c. then_some (bytes_eq (datagram_bytes s c) (datagram_bytes s d)) c) o

-- the admitted datagram of the same kind, exchange and side
abbrev pub heard_like : Knowledge → Body → Option Place → Option Datagram
heard_like k b None = None
heard_like k b (Some p) = k.heard (kind_of b) p.exchange p.role

-- the admitted datagram that this one repeats, byte for byte
abbrev pub repeated : Member → Knowledge → Datagram → Option Datagram
repeated me k d =
    if k.is_announced d.message.from then None else if_same me.session d (heard_like k d.message.body (place_of d.message))

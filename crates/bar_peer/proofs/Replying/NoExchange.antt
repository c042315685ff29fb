-- The replies to a datagram of no exchange.
use Rattle.std.proofs.Common.{◌≡◌, ℕ, Bool, [], None, refl}
use Rattle.std.specs.Prelude.{option_map}
use Rattle.bar_wire.specs.Datagram.{Body, Manifest, Block, Request, Response, Divulge, Query, Reply, Case, KeyReq, Key, Evidence, Evict, place_by, part_of}
use Rattle.bar_rules.specs.Member.{Member}
use Rattle.bar_rules.specs.Peer.Knowledge.{Knowledge}
use Rattle.bar_rules.specs.Peer.Replies.{orders_for}

-- a datagram of no exchange has no reply
pub no_orders : (me : Member) (k : Knowledge) (is_new : Bool) (from to : ℕ) (b : Body) → None ≡ option_map (place_by from to) (part_of b)
    → orders_for me k is_new from to b ≡ []
no_orders me k is_new from to (Manifest r ds) e = refl
no_orders me k is_new from to (Block u b) e = refl
no_orders me k is_new from to (Request r s c) e = absurd (cc)
no_orders me k is_new from to (Response r hb) e = absurd (cc)
no_orders me k is_new from to (Divulge r n ha) e = absurd (cc)
no_orders me k is_new from to (Query r s y o) e = absurd (cc)
no_orders me k is_new from to (Reply r w g z) e = absurd (cc)
no_orders me k is_new from to (Case c) e = absurd (cc)
no_orders me k is_new from to (KeyReq r kind role) e = absurd (cc)
no_orders me k is_new from to (Key g) e = absurd (cc)
no_orders me k is_new from to (Evidence ds) e = refl
no_orders me k is_new from to (Evict r ps) e = refl

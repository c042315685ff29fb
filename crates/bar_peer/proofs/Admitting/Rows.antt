-- The rows of datagrams of exchanges, and what follows if they are met.
use Rattle.std.proofs.Common.{◌≡◌, ◌≤◌, ◌<◌, ◌+◌, ℕ, ◌∙◌, Bool, true, false, ◌&&◌, not, is_some, List, Option, sym, ap, refl, arith}
use Rattle.std.specs.Borrow.{Bor}
use Rattle.std.proofs.lemmas.Bool.Decides.{nat_tests}
use Rattle.std.proofs.lemmas.Bool.{ltb-true}
use Rattle.bar_window.specs.declared.update.UpdateId.{UpdateId}
use Rattle.bar_terms.specs.Table.{digest_of}
use Rattle.bar_store.specs.Code.Held.{block_in}
use Rattle.bar_store.specs.Code.Holds.{Holds}
use Rattle.bar_store.specs.declared.store.Store.{Store}
use Rattle.bar_store.proofs.Learns.{and_false}
use Rattle.bar_window.specs.declared.exchange.Role.{Role}
use Rattle.bar_window.specs.declared.exchange.Role.TheVariants.{Initiator, Responder}
use Rattle.bar_window.specs.declared.exchange.XKind.{XKind}
use Rattle.bar_window.specs.declared.exchange.XKind.TheVariants.{Balanced, Push}
use Rattle.bar_wire.specs.Datagram.{Body, Manifest, Block, Request, Response, Divulge, Query, Reply, Case, KeyReq, Key, Evidence, Evict, exchange_by, part_of, place_by}
use Rattle.bar_wire.specs.Code.Sides.{place_in}
use Rattle.bar_wire.specs.declared.kind.Kind.{Kind}
use Rattle.bar_wire.specs.declared.kind.Kind.TheVariants as kinds
use Rattle.bar_wire.specs.Code.Views.{plain}
use Rattle.bar_wire.specs.declared.place.Place.{Place}
use Rattle.bar_wire.specs.declared.view.View.{View}
use Rattle.bar_wire.specs.declared.view.Body.{Body as RawBody}
use Rattle.bar_wire.specs.declared.view.Body.TheVariants as raw
use Rattle.bar_rules.specs.Member.{Member, is_alive}
use Rattle.bar_rules.specs.Peer.Admission.{has_digest, is_row_met, may_ask}
use Rattle.bar_rules.specs.Peer.Agreement.{IsRecent}
use Rattle.bar_rules.specs.Peer.Exchanges.{request_kind}
use Rattle.bar_rules.specs.Peer.Knowledge.{Knowledge, is_in_time, deadline, holds, table_of, this_round}
use Rattle.bar_exchange.specs.Code.Placing.{StandsAt}
use Rattle.bar_peer.specs.Code.Repeats.{IsInTime, is_of_exchange}
use Rattle.bar_bytes.proofs.Options.{some-mapped}
use Rattle.bar_bytes.proofs.Tests.{and-second}

-- a body is of an exchange if and only if it has a place
pub of_exchange : (v : View) (place : Option Place) → StandsAt v place → is_of_exchange (plain v.body) ≡ is_some place
of_exchange v place at = sym (some-mapped (place_by v.from v.to) (part_of (plain v.body))) ∙ ap is_some (sym at) ∙ some-mapped place_in place

-- if a body is neither sent to all nor a BLOCK, it is of an exchange, or no row admits it
pub of_others : (me : Member) (k : Knowledge) (from to : ℕ) (b : RawBody)
    → ((round count : ℕ) (digests : Bor (List ℕ)) → b ≡ raw.Manifest round count digests → ⊥)
    → ((round index : ℕ) (block : Bor (List ℕ)) → b ≡ raw.Block round index block → ⊥)
    → ((round count : ℕ) (parties : Bor (List ℕ)) → b ≡ raw.Evict round count parties → ⊥)
    → (is_of_exchange (plain b) && is_row_met me k from to (plain b)) ≡ is_row_met me k from to (plain b)
of_others me k from to (raw.Manifest r n ds) m b e = absurd (m r n ds refl)
of_others me k from to (raw.Block r i x) m b e = absurd (b r i x refl)
of_others me k from to (raw.Evict r n ps) m b e = absurd (e r n ps refl)
of_others me k from to (raw.Request r s c) m b e = refl
of_others me k from to (raw.Response r hb) m b e = refl
of_others me k from to (raw.Divulge r n ha) m b e = refl
of_others me k from to (raw.Query r s y o) m b e = refl
of_others me k from to (raw.Reply r w g z) m b e = refl
of_others me k from to (raw.Case r kind role n z t c) m b e = refl
of_others me k from to (raw.KeyReq r kind role) m b e = refl
of_others me k from to (raw.Key r kind role key) m b e = refl
of_others me k from to (raw.Evidence n ds) m b e = refl

-- ---- a met row bounds the round

in_round : (me : Member) (k : Knowledge) (round : ℕ) (kind : XKind) (role : Role) (from to : ℕ) → IsRecent me k round
    → IsRecent me k (exchange_by round kind role from to).round
in_round me k round kind Initiator from to h = h
in_round me k round kind Responder from to h = h

by_deadline : (me : Member) (k : Knowledge) (kind : Kind) (round : ℕ) → deadline me.session kind ≤ me.session.shape.life
    → is_in_time me.session k kind round ≡ true → IsRecent me k round
by_deadline me k kind round few h = grind (arith, nat_tests)

pub may_ask_in_time : (me : Member) (k : Knowledge) (kind : XKind) (from round : ℕ) (seed : List ℕ)
    → may_ask me k kind from round seed ≡ true → is_in_time me.session k (request_kind kind) round ≡ true
may_ask_in_time me k kind from round seed h = and-second _ _ (and-second _ _ h)

-- if a row of an exchange is met, the exchange may still be asked about
pub in_time : (me : Member) (k : Knowledge) (from to : ℕ) (b : Body) → 2 ≤ me.session.shape.life → is_row_met me k from to b ≡ true
    → IsInTime me k (record { from = from; to = to; body = b })
in_time me k from to (Manifest r ds) life h = tt
in_time me k from to (Block u b) life h = tt
in_time me k from to (Request r s c) life h = by_deadline me k kinds.Request r (omega arith) (may_ask_in_time me k Balanced from r s h)
in_time me k from to (Response r hb) life h = by_deadline me k kinds.Response r life (and-second _ _ h)
in_time me k from to (Divulge r n ha) life h = by_deadline me k kinds.Divulge r life (and-second _ _ h)
in_time me k from to (Query r s y o) life h =
    by_deadline me k kinds.Query r (omega arith) (may_ask_in_time me k Push from r s (and-second _ _ h))
in_time me k from to (Reply r w g z) life h = by_deadline me k kinds.Reply r life (and-second _ _ h)
in_time me k from to (Case c) life h =
    in_round me k c.round c.kind c.role from to (by_deadline me k kinds.Case c.round life (and-second _ _ h))
in_time me k from to (KeyReq r kind role) life h =
    in_round me k r kind role from to (by_deadline me k kinds.KeyReq r (omega arith) (and-second _ _ h))
in_time me k from to (Key g) life h =
    in_round me k g.round g.kind g.role from to (by_deadline me k kinds.Key g.round (omega arith) (and-second _ _ h))
in_time me k from to (Evidence ds) life h = tt
in_time me k from to (Evict r ps) life h = tt

-- ---- held blocks

-- the BLOCK of a held update isn't admitted
pub held_refused : (me : Member) (k : Knowledge) (s : Store) (from to : ℕ) (u : UpdateId) (block : List ℕ) → Holds me k s
    → is_some (block_in s u) ≡ true → false ≡ is_row_met me k from to (Block u block)
held_refused me k s from to u block h held = go (is_alive me.session u.round (this_round k)) refl
  where
    known : Bool
    known = has_digest (digest_of (table_of k) u) block

    go : (alive : Bool) → is_alive me.session u.round (this_round k) ≡ alive → false ≡ (known && not (holds k u) && is_alive me.session u.round (this_round k))
    go true e =
        let near : this_round k < u.round + me.session.shape.life = ltb-true _ _ e in
        let same : holds k u ≡ true = ap is_some (h.blocks u (omega (arith, near))) ∙ held in
        (λ i. and_false known i && is_alive me.session u.round (this_round k))
        ∙ (λ i. known && not (sym same i) && is_alive me.session u.round (this_round k))
    go false e = and_false (known && not (holds k u)) ∙ (λ i. known && not (holds k u) && sym e i)

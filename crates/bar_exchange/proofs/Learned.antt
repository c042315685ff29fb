-- What is learned from a datagram of an exchange, and what isn't changed by it.
use Rattle.std.proofs.Common.{◌≡◌, ℕ, Bool, true, false, refl}
use Rattle.std.proofs.lemmas.Bool.{false≢true}
use Rattle.bar_window.specs.declared.exchange.Exchange.{Exchange}
use Rattle.bar_window.specs.declared.exchange.Role.{Role}
use Rattle.bar_window.specs.declared.exchange.Role.TheVariants.{Initiator}
use Rattle.bar_window.specs.declared.exchange.XKind.{XKind}
use Rattle.bar_window.specs.Exchange.{same_exchange}
use Rattle.bar_wire.specs.Datagram.{Datagram, Body, Manifest, Block, Request, Response, Divulge, Query, Reply, Case, KeyReq, Key, Evidence, Evict}
use Rattle.bar_wire.specs.declared.kind.Kind.{Kind}
use Rattle.bar_wire.specs.declared.kind.Kind.TheVariants as kinds
use Rattle.bar_rules.specs.Member.{Member}
use Rattle.bar_rules.specs.Peer.Exchanges.{request_kind}
use Rattle.bar_rules.specs.Peer.Knowledge.{Knowledge, learned, with_heard, first_with}
use Rattle.bar_exchange.proofs.Places.{IsAt, not_of_other}
use Rattle.bar_exchange.proofs.Same.{SameOne}
use Rattle.bar_bytes.proofs.Options.{or-untold}

-- ---- what is unchanged

pub stays_ticks : (me : Member) (k : Knowledge) (d : Datagram) (b : Body) → (learned me d k b).ticks ≡ k.ticks
stays_ticks me k d (Manifest r ds) = refl
stays_ticks me k d (Block u bytes) = refl
stays_ticks me k d (Request r s c) = refl
stays_ticks me k d (Response r hb) = refl
stays_ticks me k d (Divulge r n ha) = refl
stays_ticks me k d (Query r s y o) = refl
stays_ticks me k d (Reply r w g z) = refl
stays_ticks me k d (Case c) = refl
stays_ticks me k d (KeyReq r kind role) = refl
stays_ticks me k d (Key g) = refl
stays_ticks me k d (Evidence ds) = refl
stays_ticks me k d (Evict r ps) = refl

pub stays_open : (me : Member) (k : Knowledge) (d : Datagram) (b : Body) → (learned me d k b).opens ≡ k.opens
stays_open me k d (Manifest r ds) = refl
stays_open me k d (Block u bytes) = refl
stays_open me k d (Request r s c) = refl
stays_open me k d (Response r hb) = refl
stays_open me k d (Divulge r n ha) = refl
stays_open me k d (Query r s y o) = refl
stays_open me k d (Reply r w g z) = refl
stays_open me k d (Case c) = refl
stays_open me k d (KeyReq r kind role) = refl
stays_open me k d (Key g) = refl
stays_open me k d (Evidence ds) = refl
stays_open me k d (Evict r ps) = refl

-- the knowledge of other exchanges is unchanged
pub learned_other : (me : Member) (k : Knowledge) (d : Datagram) (y : Exchange) (side : Role) → IsAt d.message y side → (x : Exchange) → same_exchange y x ≡ false
    → SameOne k (with_heard me d k) x
learned_other me k d y side at x other = go d.message.body
  where
    heard : (kind : Kind) (role : Role) → first_with d k.heard kind x role ≡ k.heard kind x role
    heard kind role = or-untold (k.heard kind x role) _ d (not_of_other d.message y side at x other kind role)

    go : (b : Body) → SameOne k (learned me d k b) x
    go (Manifest r ds) = record { heard = λ kind role. refl; said = λ kind role. refl; seats = refl; revealed = refl }
    go (Block u bytes) = record { heard = λ kind role. refl; said = λ kind role. refl; seats = refl; revealed = refl }
    go (Request r s c) = record { heard = heard; said = λ kind role. refl; seats = or-untold (k.seat x) _ _ (not_of_other d.message y side at x other (request_kind x.kind) Initiator); revealed = refl }
    go (Response r hb) = record { heard = heard; said = λ kind role. refl; seats = refl; revealed = refl }
    go (Divulge r n ha) = record { heard = heard; said = λ kind role. refl; seats = refl; revealed = or-untold (k.revealed x) _ _ (not_of_other d.message y side at x other kinds.Divulge Initiator) }
    go (Query r s young aged) = record { heard = heard; said = λ kind role. refl; seats = or-untold (k.seat x) _ _ (not_of_other d.message y side at x other (request_kind x.kind) Initiator); revealed = refl }
    go (Reply r w g z) = record { heard = heard; said = λ kind role. refl; seats = refl; revealed = refl }
    go (Case c) = record { heard = heard; said = λ kind role. refl; seats = refl; revealed = refl }
    go (KeyReq r kind role) = record { heard = heard; said = λ kind role. refl; seats = refl; revealed = refl }
    go (Key g) = record { heard = heard; said = λ kind role. refl; seats = refl; revealed = refl }
    go (Evidence ds) = record { heard = heard; said = λ kind role. refl; seats = refl; revealed = refl }
    go (Evict r ps) = record { heard = λ kind role. refl; said = λ kind role. refl; seats = refl; revealed = refl }

-- ---- what is learned

-- The datagram was heard, and nothing else about exchanges changes.
pub record AddsHeard (k new : Knowledge) (d : Datagram) : Type 0 where
  pub heard : (kind : Kind) (x : Exchange) (role : Role) → new.heard kind x role ≡ first_with d k.heard kind x role
  pub said : (kind : Kind) (x : Exchange) (role : Role) → new.said kind x role ≡ k.said kind x role
  pub seats : (x : Exchange) → new.seat x ≡ k.seat x
  pub revealed : (x : Exchange) → new.revealed x ≡ k.revealed x
  pub asked : (kind : XKind) (round : ℕ) → new.asked kind round ≡ k.asked kind round

abbrev pub only_heard : Body → Bool
only_heard (Response r hb) = true
only_heard (Reply r w g z) = true
only_heard (Case c) = true
only_heard (KeyReq r kind role) = true
only_heard (Key g) = true
only_heard _ = false

pub adds_heard : (me : Member) (k : Knowledge) (d : Datagram) (b : Body) → only_heard b ≡ true → AddsHeard k (learned me d k b) d
adds_heard me k d (Response r hb) e = record { heard = λ kind x role. refl; said = λ kind x role. refl; seats = λ x. refl; revealed = λ x. refl; asked = λ kind round. refl }
adds_heard me k d (Reply r w g z) e = record { heard = λ kind x role. refl; said = λ kind x role. refl; seats = λ x. refl; revealed = λ x. refl; asked = λ kind round. refl }
adds_heard me k d (Case c) e = record { heard = λ kind x role. refl; said = λ kind x role. refl; seats = λ x. refl; revealed = λ x. refl; asked = λ kind round. refl }
adds_heard me k d (KeyReq r kind role) e = record { heard = λ kind x role. refl; said = λ kind x role. refl; seats = λ x. refl; revealed = λ x. refl; asked = λ kind round. refl }
adds_heard me k d (Key g) e = record { heard = λ kind x role. refl; said = λ kind x role. refl; seats = λ x. refl; revealed = λ x. refl; asked = λ kind round. refl }
adds_heard me k d (Manifest r ds) e = absurd (false≢true e)
adds_heard me k d (Block u bytes) e = absurd (false≢true e)
adds_heard me k d (Request r s c) e = absurd (false≢true e)
adds_heard me k d (Divulge r n ha) e = absurd (false≢true e)
adds_heard me k d (Query r s y o) e = absurd (false≢true e)
adds_heard me k d (Evidence ds) e = absurd (false≢true e)
adds_heard me k d (Evict r ps) e = absurd (false≢true e)

-- Which messages are signed, and by whom.
use Rattle.std.proofs.Common.{◌≡◌, ℕ, true, refl}
use Rattle.std.proofs.lemmas.Bool.{false≢true}
use Rattle.bar_wire.specs.Bodies.{is_peer_kind}
use Rattle.bar_wire.specs.Datagram.{Body, Manifest, Block, Request, Response, Divulge, Query, Reply, Case, KeyReq, Key, Evidence, Evict, is_signed, kind_of}
use Rattle.bar_wire.specs.Grammar.{IsPeer, MaySend}
use Rattle.bar_wire.specs.declared.shape.Shape.{Shape}

-- the kinds that peers sign are signed
pub peer_kind_signed : (b : Body) → is_peer_kind b ≡ true → is_signed b ≡ true
peer_kind_signed (Request r s c) e = refl
peer_kind_signed (Response r hb) e = refl
peer_kind_signed (Query r s y o) e = refl
peer_kind_signed (Reply r w g z) e = refl
peer_kind_signed (Case c) e = refl
peer_kind_signed (Key g) e = refl
peer_kind_signed (Manifest r ds) e = absurd (false≢true e)
peer_kind_signed (Block u b) e = absurd (false≢true e)
peer_kind_signed (Divulge r n ha) e = absurd (false≢true e)
peer_kind_signed (KeyReq r k role) e = absurd (false≢true e)
peer_kind_signed (Evidence ds) e = absurd (false≢true e)
peer_kind_signed (Evict r ps) e = absurd (false≢true e)

-- their senders are peers
pub peer_kind_sends : (s : Shape) (b : Body) (from to : ℕ) → is_peer_kind b ≡ true → MaySend s (kind_of b) from to → IsPeer s from
peer_kind_sends s (Request r seed c) from to e may = may.0
peer_kind_sends s (Response r hb) from to e may = may.0
peer_kind_sends s (Query r seed y o) from to e may = may.0
peer_kind_sends s (Reply r w g z) from to e may = may.0
peer_kind_sends s (Case c) from to e may = may.0
peer_kind_sends s (Key g) from to e may = may.0
peer_kind_sends s _ from to e may = cc

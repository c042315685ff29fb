-- What orders preserve, as they send datagrams and sign new ones, over logs or over what is known.
use Rattle.std.proofs.Common.{ℕ, List, [], ◌∷◌}
use Rattle.std.specs.Prelude.{Option, Some, None}
use Rattle.bar_window.specs.declared.exchange.Exchange.{Exchange}
use Rattle.bar_wire.specs.Datagram.{Body, Datagram, KeyReq}
use Rattle.bar_rules.specs.Member.{Member}
use Rattle.bar_rules.specs.Peer.Exchanges.{partner_in, role_of}
use Rattle.bar_rules.specs.Peer.Log.{Said}
use Rattle.bar_rules.specs.Peer.Machine.{Keeping, message_to, perform, perform_all, report_new, say_or_repeat, send_if}
use Rattle.bar_rules.specs.Peer.Orders.{Answer, Ask, AskKey, GiveCase, GiveKey, Order, Report, Resend, Reveal}
use Rattle.bar_rules.specs.Peer.Signing.{signed}
use Rattle.bar_rules.specs.Runs.{Outcome, sending}
use Rattle.bar_rules.specs.Values.{unsigned}

-- The property is preserved when one more datagram is sent, and when one more is signed.
pub record IsKept {S : Type 0} (w : Keeping S) (P : Outcome S → Type 0) : Type 0 where
  pub sent : (out : Outcome S) (to : ℕ) (d : Datagram) → P out → P (sending out to d)
  pub said : (out : Outcome S) (d : Datagram) → P out → P (record out { state = w.adds (Said d) out.state })

module _ {S : Type 0} (w : Keeping S) (me : Member) (P : Outcome S → Type 0) (k : IsKept w P) where
  pub say-keeps : (out : Outcome S) (x : Exchange) (o : Option Datagram) (b : Option Body) → P out → P (say_or_repeat w me out x o b)
  say-keeps out x (Some d) b h = k.sent out (partner_in me x) d h
  say-keeps out x None None h = h
  say-keeps out x None (Some b) h =
      let d : Datagram = signed me (w.reads out.state) (message_to me x b) in
      k.sent (record out { state = w.adds (Said d) out.state }) (partner_in me x) d (k.said out d h)

  if-keeps : (out : Outcome S) (to : ℕ) (b : Option Body) → P out → P (send_if me out to b)
  if-keeps out to None h = h
  if-keeps out to (Some b) h = k.sent out to (unsigned (record { from = me.party; to = to; body = b })) h

  pub perform-keeps : (out : Outcome S) (o : Order) → P out → P (perform w me out o)
  perform-keeps out (Ask x) h = say-keeps out x _ _ h
  perform-keeps out (Answer x) h = say-keeps out x _ _ h
  perform-keeps out (GiveCase x) h = say-keeps out x _ _ h
  perform-keeps out (GiveKey x) h = say-keeps out x _ _ h
  perform-keeps out (Resend kind x) h = say-keeps out x _ _ h
  perform-keeps out (Reveal x) h = if-keeps out _ _ h
  perform-keeps out (AskKey x) h = if-keeps out (partner_in me x) (Some (KeyReq x.round x.kind (role_of me x))) h
  perform-keeps out (Report q) h = if-keeps out 0 _ h

  pub all-keeps : (out : Outcome S) (os : List Order) → P out → P (perform_all w me out os)
  all-keeps out [] h = h
  all-keeps out (o ∷ os) h = all-keeps (perform w me out o) os (perform-keeps out o h)

  pub report-keeps : (out : Outcome S) (q : ℕ) (evidence : Option (List (List ℕ))) → P out → P (report_new w me out q evidence)
  report-keeps out q None h = h
  report-keeps out q (Some v) h = perform-keeps out (Report q) h

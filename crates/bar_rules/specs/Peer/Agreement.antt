-- What a peer must still know: knowledge that agrees with it in this much gets the same replies.
use Rattle.std.specs.Prelude.{◌≡◌, ℕ, ◌+◌, ◌-◌, ◌≤◌, true, Option, Some, is_some, option_map}
use Rattle.bar_window.specs.declared.update.UpdateId.{UpdateId}
use Rattle.bar_window.specs.declared.exchange.Exchange.{Exchange}
use Rattle.bar_window.specs.declared.exchange.Role.{Role}
use Rattle.bar_window.specs.declared.exchange.XKind.{XKind}
use Rattle.bar_window.specs.Terms.{Terms}
use Rattle.bar_wire.specs.Bodies.{briefcase_in}
use Rattle.bar_wire.specs.declared.kind.Kind.TheVariants as kinds
use Rattle.bar_wire.specs.Datagram.{Datagram, is_of}
use Rattle.bar_wire.specs.declared.kind.Kind.{Kind}
use Rattle.bar_rules.specs.Member.{Session, Member}
use Rattle.bar_rules.specs.Peer.Knowledge.{Knowledge, table_of, this_round, answer_deadline, deadline}

-- an exchange of this round may still be asked about
abbrev pub IsRecent : Member → Knowledge → ℕ → Type 0
IsRecent me k round = this_round k ≤ round + me.session.shape.life

-- An update of this round may still be asked about, or is still to be played. It may be asked about if it is in a window of an exchange for
-- which a briefcase may still be sealed, at most two rounds back.
abbrev pub IsFresh : Member → Knowledge → ℕ → Type 0
IsFresh me k round = this_round k ≤ round + me.session.shape.life + (answer_deadline - 1)

-- For how many rounds after its own a datagram that was said is still represented in full, by its kind. A CASE is sent again for fewer
-- rounds than its exchange may be asked about, and its blocks are held only that long.
abbrev pub told_for : Session → Kind → ℕ
told_for s kinds.Case = deadline s kinds.Case
told_for s _ = s.shape.life

-- what was said of this kind and round may still be sent again
abbrev pub IsRepeatable : Member → Knowledge → Kind → ℕ → Type 0
IsRepeatable me k kind round = this_round k ≤ round + told_for me.session kind

-- what is still read of a CASE that was said while its exchange may be asked about: its terms and its side
abbrev pub promised_by : Datagram → Option (Terms × Role)
promised_by d = option_map (λ c. (c.terms, c.role)) (briefcase_in d.message.body)

abbrev pub promise_of : Knowledge → Exchange → Role → Option (Option (Terms × Role))
promise_of k x role = option_map promised_by (k.said kinds.Case x role)

-- The two agree in their ticks, the lists of their manifests and the rounds that have one, evictions, the evidence kept, and the blocks of
-- fresh updates. They agree in what was heard and counted of recent rounds. They agree in what was said: in full while it may be sent
-- again, and afterwards, for a CASE, in its terms.
pub record AgreesWith (me : Member) (one two : Knowledge) : Type 0 where
  pub time : one.ticks ≡ two.ticks
  pub table : table_of one ≡ table_of two
  pub listed : (round : ℕ) → is_some (one.manifest round) ≡ is_some (two.manifest round)
  pub evictions : (round : ℕ) → one.has_evict round ≡ two.has_evict round
  pub announced : (party : ℕ) → one.is_announced party ≡ two.is_announced party
  pub evidence : (party : ℕ) → one.evidence party ≡ two.evidence party
  pub blocks : (u : UpdateId) → IsFresh me one u.round → one.block u ≡ two.block u
  pub heard : (kind : Kind) (x : Exchange) (role : Role) → IsRecent me one x.round → one.heard kind x role ≡ two.heard kind x role
  pub said : (kind : Kind) (x : Exchange) (role : Role) → IsRepeatable me one kind x.round → one.said kind x role ≡ two.said kind x role
  pub promises : (x : Exchange) (role : Role) → IsRecent me one x.round → promise_of one x role ≡ promise_of two x role
  pub commits : (x : Exchange) → IsRecent me one x.round → one.revealed x ≡ two.revealed x
  pub seats : (x : Exchange) → IsRecent me one x.round → one.seat x ≡ two.seat x
  pub requests : (kind : XKind) (round : ℕ) → IsRecent me one round → one.asked kind round ≡ two.asked kind round
  pub opens : one.opens ≡ two.opens
  -- what the second has heard under a kind, exchange and side is of them
  pub own : (kind : Kind) (x : Exchange) (role : Role) (d : Datagram) → two.heard kind x role ≡ Some d → is_of kind x role d.message ≡ true

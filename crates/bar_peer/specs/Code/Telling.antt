-- The totals of an exchange that a peer reports.
use Rattle.std.specs.Prelude.{◌≡◌, ◌+◌, nat_le, [], if◌then◌else◌}
use Rattle.bar_window.specs.declared.exchange.Exchange.{Exchange}
use Rattle.bar_rules.specs.Member.{Member}
use Rattle.bar_rules.specs.Peer.Knowledge.{Knowledge, known, this_round}
use Rattle.bar_rules.specs.Peer.Run.{log_after}
use Rattle.bar_rules.specs.Peer.Terms.{Totals, totals}
use Rattle.bar_laws.specs.Balance.{totals_of}
use Rattle.bar_ledger.specs.declared.totals.Totals.{Totals as Told}
use Rattle.bar_peer.specs.Code.StandsFor.{Inputs}

abbrev pub no_totals : Totals
no_totals = record { promised = 0; received = 0; opened = 0 }

-- the totals of an exchange that may still be asked about, and zeros otherwise
abbrev pub totals_now : Member → Knowledge → Exchange → Totals
totals_now me k x = if nat_le (this_round k) (x.round + me.session.shape.life) then totals me k x else no_totals

-- The reported totals are these.
pub record HasTotals (t : Totals) (told : Told) : Type 0 where
  pub promised : told.promised ≡ t.promised
  pub received : told.received ≡ t.received
  pub opened : told.opened ≡ t.opened

-- the reported totals are those that are known of the exchange now
abbrev pub AreTotals : Member → Knowledge → Exchange → Told → Type 0
AreTotals me k x told = HasTotals (totals_now me k x) told

-- The totals of an exchange after a list of inputs, counted by the KEY that was sent, as in `totals_of`; zeros once the exchange can't be
-- asked about any more.
abbrev pub totals_after : Member → Inputs → Exchange → Totals
totals_after me inputs x =
    if nat_le (this_round (known me (log_after me [] inputs))) (x.round + me.session.shape.life) then totals_of me inputs x else no_totals

-- the reported totals are those after the inputs
abbrev pub AreTotalsAfter : Member → Inputs → Exchange → Told → Type 0
AreTotalsAfter me inputs x told = HasTotals (totals_after me inputs x) told

-- How the calls of a ledger change the knowledge that it recalls.
use Rattle.std.specs.Prelude.{◌≡◌, ℕ}
use Rattle.bar_rules.specs.Member.{Member}
use Rattle.bar_rules.specs.Peer.Knowledge.{Knowledge, nothing, this_round, with_tick}
use Rattle.bar_ledger.specs.declared.ledger.Ledger.{Ledger}
use Rattle.bar_ledger.specs.Code.Recalls.{Recalls}

-- the ledger recalls the empty knowledge, of each member with this party, cap and shape
abbrev pub StartsFrom : Ledger → Type 0
StartsFrom l = (me : Member) → l.me ≡ me.party → l.cap ≡ me.session.cap → l.shape ≡ me.session.shape → Recalls me nothing l

-- What is forgotten can't be asked about any more: the ledger recalls the knowledge after the tick that leads to this round.
abbrev pub GivesUp : ℕ → Ledger → Ledger → Type 0
GivesUp now old new = (me : Member) (k : Knowledge) → Recalls me k old → now ≡ this_round (with_tick me k) → Recalls me (with_tick me k) new

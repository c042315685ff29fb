-- The numbers of updates and of junk items in a briefcase.
use Rattle.std.specs.Prelude.{◌≡◌}
use Rattle.bar_wire.specs.Datagram.{Briefcase}
use Rattle.bar_exchange.specs.declared.counts.Counts.{Counts}

pub record HasCounts (counts : Counts) (c : Briefcase) : Type 0 where
  pub updates : c.updates ≡ counts.updates
  pub junk : c.junk ≡ counts.junk

-- Exchanges can begin: there is a world in which two peers meet all premises of the laws of trades and of pushes.
use Rattle.std.specs.Prelude.{◌≡◌, ℕ, Bool, true, List}
use Rattle.std.specs.List.{AllByRecursion}
use Rattle.bar_window.specs.declared.update.UpdateId.{UpdateId}
use Rattle.bar_rules.specs.World.World.{Move, Setup}
use Rattle.bar_laws.specs.Premises.{IsPlainMove}
use Rattle.bar_progress.specs.Pushes.{BeginsPush}
use Rattle.bar_progress.specs.Trades.{BeginsTrade}

abbrev pub all_trusted : ℕ → Bool
all_trusted party = true

-- A session of two peers, and moves of a network that makes up no datagram. After them the REQUEST of the first in round 1 is in the pool,
-- and the two can trade.
pub record TradeBegun : Type 0 where
  pub setup : Setup
  pub peers : setup.session.shape.peers ≡ 2
  pub moves : List Move
  pub plain : AllByRecursion (IsPlainMove setup.session) moves
  pub request : ℕ
  pub nonce : List ℕ
  pub ha : List UpdateId
  pub begins : BeginsTrade setup all_trusted moves request 1 2 1 nonce ha

-- the same for the QUERY of the first
pub record PushBegun : Type 0 where
  pub setup : Setup
  pub peers : setup.session.shape.peers ≡ 2
  pub moves : List Move
  pub plain : AllByRecursion (IsPlainMove setup.session) moves
  pub query : ℕ
  pub young : List UpdateId
  pub aged : List UpdateId
  pub begins : BeginsPush setup all_trusted moves query 1 2 1 young aged

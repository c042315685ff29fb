-- Recordings of the parties of a world.
use Rattle.std.specs.Prelude.{◌≡◌, ℕ, ◌≤◌, Bool, true, List, [], None, map, slice_get, unwrap_or}
use Rattle.std.specs.List.{AllByRecursion}
use Rattle.bar_window.specs.declared.exchange.Exchange.{Exchange}
use Rattle.bar_rules.specs.World.World.{Move, Setup}
use Rattle.bar_laws.specs.OwnRuns.{inputs_of}
use Rattle.bar_laws.specs.Parties.{ForgesNothing}
use Rattle.bar_audit.specs.Exchanges.{AreRecorded, unbalanced}
use Rattle.bar_audit.specs.Recordings.{Recording}
use Rattle.bar_audit.specs.Runs.{AreOfRuns}

-- each party's secret
abbrev pub secrets_of : Setup → ℕ → List ℕ
secrets_of setup party = unwrap_or (slice_get setup.secrets party) []

-- for each of these parties, the inputs that the moves gave it
abbrev pub recordings_of : Setup → List Move → List ℕ → List Recording
recordings_of setup moves parties = map (λ party. record { party = party; inputs = inputs_of setup moves party }) parties

-- a peer of the session that is trusted
pub record IsTrustedPeer (setup : Setup) (trusted : ℕ → Bool) (peer : ℕ) : Type 0 where
  pub low : 1 ≤ peer
  pub high : peer ≤ setup.session.shape.peers
  pub trust : trusted peer ≡ true

-- If nothing is forged, the recordings of trusted peers list the inputs of their runs, and nothing in them has an accepted signature of one
-- of them that it didn't make.
abbrev pub WorldsAreOfRuns : Type 0
WorldsAreOfRuns =
    (setup : Setup) (trusted : ℕ → Bool) (moves : List Move) (peers : List ℕ) → ForgesNothing setup trusted moves
    → AllByRecursion (IsTrustedPeer setup trusted) peers
    → AreOfRuns setup.session (secrets_of setup) (recordings_of setup moves peers)

-- so an audit of them finds nothing unbalanced
abbrev pub WorldsAreBalanced : Type 0
WorldsAreBalanced =
    (setup : Setup) (trusted : ℕ → Bool) (moves : List Move) (peers : List ℕ) (xs : List Exchange) → ForgesNothing setup trusted moves
    → AllByRecursion (IsTrustedPeer setup trusted) peers → AreRecorded setup.session (recordings_of setup moves peers) xs
    → unbalanced setup.session (recordings_of setup moves peers) xs ≡ None

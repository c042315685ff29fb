-- Logs grow: for all inputs, what a log contains remains, and new entries are put before it.
use Rattle.std.specs.Prelude.{◌≡◌, ℕ, List, ◌++◌, Some, slice_get}
use Rattle.bar_wire.specs.Inputs.{Input}
use Rattle.bar_rules.specs.Broadcaster.Party.{IsBroadcaster}
use Rattle.bar_rules.specs.Broadcaster.Sending.{caster_step}
use Rattle.bar_rules.specs.Member.{Member}
use Rattle.bar_rules.specs.Peer.Log.{Log}
use Rattle.bar_rules.specs.Peer.Run.{log_after}
use Rattle.bar_rules.specs.Runs.{state_after}
use Rattle.bar_rules.specs.World.World.{IsSetup, Move, Setup, World}
use Rattle.bar_laws.specs.Parties.{after}

-- The log has grown from an earlier one.
pub record IsLater (log before : Log) : Type 0 where
  pub new : Log
  pub split : log ≡ new ++ before

-- a peer's log, over any inputs
abbrev pub PeersGrow : Type 0
PeersGrow = (me : Member) (log : Log) (inputs : List Input) → IsLater (log_after me log inputs) log

-- a broadcaster's log
abbrev pub CastersGrow : Type 0
CastersGrow =
    (me : Member) (stream : List ℕ) (log : Log) (inputs : List Input) → IsBroadcaster me
    → IsLater (state_after (caster_step me stream) log inputs) log

-- The party has a log, which has grown from an earlier one.
pub record HasGrown (w : World) (party : ℕ) (before : Log) : Type 0 where
  pub log : Log
  pub log_is : slice_get w.logs party ≡ Some log
  pub later : IsLater log before

-- each party of a world has so grown, over more moves
abbrev pub PartiesGrow : Type 0
PartiesGrow =
    (setup : Setup) (moves later : List Move) (party : ℕ) (log : Log) → IsSetup setup → slice_get (after setup moves).logs party ≡ Some log
    → HasGrown (after setup (moves ++ later)) party log

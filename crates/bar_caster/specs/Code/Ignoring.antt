-- If a broadcaster ignores a datagram, its memory is unchanged and nothing is to be given out.
use Rattle.std.specs.Prelude.{◌≡◌, true, []}
use Rattle.bar_core.specs.Code.Orders.{left_in}
use Rattle.bar_wire.specs.Inputs.{Input}
use Rattle.bar_laws.specs.Ignoring.{is_ignored_by_caster}
use Rattle.bar_rules.specs.Peer.Log.{Log}
use Rattle.bar_caster.specs.declared.memory.Memory.{Memory}
use Rattle.bar_caster.specs.Code.Memory.{Represents, member_of, stream_of}
use Rattle.bar_caster.specs.Code.Orders.{Orders}
use Rattle.bar_caster.specs.Code.StandsFor.{Inputs, StandsFor, log_of}

-- The memory is unchanged.
pub record IsAsBefore (old new : Memory) : Type 0 where
  pub session : new.session ≡ old.session
  pub secrets : new.secrets ≡ old.secrets
  pub stream : new.stream ≡ old.stream
  pub ticks : new.ticks ≡ old.ticks
  pub table : new.table ≡ old.table
  pub manifests : new.manifests ≡ old.manifests
  pub notice : new.notice ≡ old.notice
  pub evictions : new.evictions ≡ old.evictions

-- an input that is ignored leaves the memory unchanged
abbrev pub IgnoresInput : Input → Memory → Memory → Type 0
IgnoresInput input m n =
    (log : Log) → Represents log m → is_ignored_by_caster (member_of m) (stream_of m) log input ≡ true → IsAsBefore m n

-- The memory is unchanged, and nothing is left to be given out.
pub record StaysAsBefore (old new : Memory) (o : Orders) : Type 0 where
  pub memory : IsAsBefore old new
  pub sends : left_in o ≡ []

-- if a broadcaster that took these inputs ignores the next one, all stays as before
abbrev pub Ignores : Memory → Input → Memory → Orders → Type 0
Ignores m input n o =
    (inputs : Inputs) → StandsFor m inputs → is_ignored_by_caster (member_of m) (stream_of m) (log_of m inputs) input ≡ true
    → StaysAsBefore m n o

-- If a peer ignores a datagram, its memory is unchanged and nothing is to be given out.
use Rattle.std.specs.Prelude.{◌≡◌, true, []}
use Rattle.bar_core.specs.Code.Orders.{left_in}
use Rattle.bar_wire.specs.Datagram.{Datagram}
use Rattle.bar_wire.specs.Inputs.{Input}
use Rattle.bar_laws.specs.Evidence.{CatchesBadKeys}
use Rattle.bar_laws.specs.Ignoring.{is_ignored, tells_nothing}
use Rattle.bar_rules.specs.Peer.Knowledge.{known}
use Rattle.bar_rules.specs.Peer.Log.{Log}
use Rattle.bar_rules.specs.Peer.Rules.{IsObedient}
use Rattle.bar_rules.specs.Peer.Run.{log_after}
use Rattle.bar_peer.specs.declared.memory.Memory.{Memory}
use Rattle.bar_peer.specs.declared.playing.Playing.{Playing}
use Rattle.bar_peer.specs.Code.Memory.{Represents, member_of}
use Rattle.bar_peer.specs.Code.Orders.{Orders}
use Rattle.bar_peer.specs.Code.StandsFor.{Inputs, StandsFor, contents_left}

-- a datagram that tells nothing new leaves the memory unchanged
abbrev pub LeavesMemory : Datagram → Memory → Memory → Type 0
LeavesMemory d m n =
    (log : Log) → CatchesBadKeys (member_of m.who) log → IsObedient (member_of m.who) log → Represents log m
    → tells_nothing (member_of m.who) (known (member_of m.who) log) d ≡ true → n ≡ m

-- so does an input that is ignored
abbrev pub IgnoresInput : Input → Memory → Memory → Type 0
IgnoresInput input m n =
    (log : Log) → CatchesBadKeys (member_of m.who) log → IsObedient (member_of m.who) log → Represents log m
    → is_ignored (member_of m.who) (known (member_of m.who) log) input ≡ true → n ≡ m

-- The memory is unchanged, and nothing is left to be given out.
pub record StaysAsBefore (old new : Memory) (o : Orders) (p : Playing) : Type 0 where
  pub memory : new ≡ old
  pub sends : left_in o ≡ []
  pub contents : contents_left new.store p ≡ []

-- if a peer that took these inputs ignores the next one, all stays as before
abbrev pub Ignores : Memory → Input → Memory → Orders → Playing → Type 0
Ignores m input n o p =
    (inputs : Inputs) → StandsFor m inputs
    → is_ignored (member_of m.who) (known (member_of m.who) (log_after (member_of m.who) [] inputs)) input ≡ true
    → StaysAsBefore m n o p

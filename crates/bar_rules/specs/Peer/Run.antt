-- What a peer does at each input and over a list of inputs, by its log.
use Rattle.std.specs.Prelude.{ℕ, List, [], Option}
use Rattle.bar_window.specs.declared.exchange.Exchange.{Exchange}
use Rattle.bar_wire.specs.Datagram.{Datagram, Body}
use Rattle.bar_wire.specs.Inputs.{Input}
use Rattle.bar_wire.specs.declared.kind.Kind.{Kind}
use Rattle.bar_rules.specs.Member.{Member}
use Rattle.bar_rules.specs.Peer.Log.{Log}
use Rattle.bar_rules.specs.Peer.Orders.{Order}
use Rattle.bar_rules.specs.Runs.{Outcome, state_after, sends_from, played_from}
use Rattle.bar_rules.specs.Peer.Machine.{logs}
use Rattle.bar_rules.specs.Peer.Machine as machine

abbrev pub Out : Type 0
Out = Outcome Log

-- one input
abbrev pub step : Member → Log → Input → Out
step me log input = machine.step (logs me) me log input

-- ---- over a list of inputs

abbrev pub log_after : Member → Log → List Input → Log
log_after me log inputs = state_after (step me) log inputs

-- what a run from the start plays, and what it sends
abbrev pub played_by : Member → List Input → List ℕ
played_by me inputs = played_from (step me) [] inputs

abbrev pub sends_of : Member → List Input → List (ℕ × ℕ × Datagram)
sends_of me inputs = sends_from (step me) [] 1 inputs

-- ---- the parts of a step

abbrev pub say_new : Member → Out → Exchange → Option Body → Out
say_new me out x body = machine.say_new (logs me) me out x body

abbrev pub say_or_repeat : Member → Out → Exchange → Option Datagram → Option Body → Out
say_or_repeat me out x d body = machine.say_or_repeat (logs me) me out x d body

abbrev pub say : Member → Out → Kind → Exchange → Option Body → Out
say me out kind x body = machine.say (logs me) me out kind x body

abbrev pub perform : Member → Out → Order → Out
perform me out o = machine.perform (logs me) me out o

abbrev pub perform_all : Member → Out → List Order → Out
perform_all me out os = machine.perform_all (logs me) me out os

abbrev pub answer_repeat : Member → Log → Option Datagram → Out
answer_repeat me log d = machine.answer_repeat (logs me) me log d

abbrev pub answered_to : Member → Log → Datagram → Out
answered_to me log d = machine.answered_to (logs me) me log d

abbrev pub with_evidence : Member → Log → ℕ → Option (List (List ℕ)) → Log
with_evidence me log q evidence = machine.with_evidence (logs me) log q evidence

abbrev pub report_new : Member → Out → ℕ → Option (List (List ℕ)) → Out
report_new me out q evidence = machine.report_new (logs me) me out q evidence

abbrev pub take_datagram : Member → Log → Option Datagram → Out
take_datagram me log d = machine.take_datagram (logs me) me log d

abbrev pub take_input : Member → Log → Input → Out
take_input me log input = machine.take_input (logs me) me log input

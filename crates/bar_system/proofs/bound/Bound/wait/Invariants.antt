-- All datagrams that the socket gave so far were dropped.
use Rattle.std.proofs.Common.{[]}
use Rattle.bar_system.specs.Binding.{Gives}
use Rattle.bar_system.proofs.bound.Bound.wait.Given as goal

abbrev pub invariant-loop : goal.invariant-loop
invariant-loop g l = Gives g.S.Socket.account [] l.initial.self l.self

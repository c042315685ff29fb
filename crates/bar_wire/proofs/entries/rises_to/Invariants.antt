use Rattle.std.proofs.Common.{◌≡◌, ◌-◌, ◌*◌, length}
use Rattle.std.specs.Prelude.{◌↔◌}
use Rattle.bar_wire.specs.Grammar.{RisesTo}
use Rattle.bar_wire.specs.Places.{pairs}
use Rattle.bar_wire.proofs.entries.rises_to.Given as goal

abbrev pub invariant-loop : goal.invariant-loop
invariant-loop l = (length l.rest ≡ 2 * (l.count - l.counter)) × (RisesTo l.peers l.last (pairs l.rest) ↔ RisesTo l.peers 0 (pairs l.parties))

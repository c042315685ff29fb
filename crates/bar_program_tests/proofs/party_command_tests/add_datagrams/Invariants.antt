use Rattle.std.proofs.Common.{◌≡◌, true}
use Rattle.bar_outside.specs.Code.MemTaken.{are_small}
use Rattle.bar_program_tests.proofs.party_command_tests.add_datagrams.Given as goal

abbrev pub invariant-loop-before : goal.invariant-loop-before
invariant-loop-before l = are_small l.list.items ≡ true

use Rattle.std.proofs.Common.{◌+◌}
use Rattle.bar_window.specs.Code.Window.{members}
use Rattle.bar_terms.specs.Table.{digests_of}
use Rattle.bar_proof.proofs.PastRounds.{NoneBefore}
use Rattle.bar_proof.proofs.past.first_past.Given as goal

abbrev pub invariant-loop-row : goal.invariant-loop-row
invariant-loop-row l = record {
  one : NoneBefore (digests_of l.table.lists) (members l.one) (l.one.base + l.row);
  two : NoneBefore (digests_of l.table.lists) (members l.two) (l.one.base + l.row);
}

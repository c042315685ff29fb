use Rattle.std.proofs.Common.{◌≡◌, ◌-◌, length}
use Rattle.std.specs.Prelude.{◌↔◌}
use Rattle.std.specs.List.{AllByRecursion}
use Rattle.bar_wire.specs.Grammar.{IsEntryInRange}
use Rattle.bar_wire.specs.Places.{entries_len}
use Rattle.bar_wire.specs.Places.{entries}
use Rattle.bar_wire.proofs.entries.has_lengths.Given as goal

abbrev pub invariant-loop : goal.invariant-loop
invariant-loop l = (length l.rest ≡ entries_len (l.count - l.counter) l.rest) × (AllByRecursion IsEntryInRange (entries (l.count - l.counter) l.rest) ↔ AllByRecursion IsEntryInRange (entries l.count l.bytes))

use Rattle.std.proofs.Common.{◌≡◌, ◌-◌, length}
use Rattle.std.specs.Prelude.{◌↔◌}
use Rattle.bar_wire.specs.Places.{entries_len}
use Rattle.bar_wire.proofs.entries.has_entries.Given as goal

abbrev pub invariant-loop : goal.invariant-loop
invariant-loop l = (length l.rest ≡ entries_len (l.count - l.counter) l.rest) ↔ (length l.bytes ≡ entries_len l.count l.bytes)

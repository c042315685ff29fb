-- What a stream took so far.
use Rattle.std.proofs.Common.{◌≤◌, length, take}
use Rattle.std.specs.Io.KnownBytes.{Appends}
use Rattle.bar_system.proofs.outside.write_bytes.Given as goal

abbrev pub invariant-loop : goal.invariant-loop
invariant-loop g l = (l.took ≤ length l.bytes) × Appends (g.W.Write.contents l.initial.stream) (g.W.Write.contents l.stream) (take l.took l.bytes)

use Rattle.std.proofs.Common.{◌≡◌, string_bytes, take}
use Rattle.bar_cli.specs.Simulate.{played_lines}
use Rattle.bar_cli.proofs.simulate.peer_lines.Given as goal

-- the lines of the peers so far
abbrev pub invariant-loop-bytes : goal.invariant-loop-bytes
invariant-loop-bytes l = (l.peer ≡ l.bytes-index) × (string_bytes l.text ≡ played_lines 1 (take l.bytes-index l.played))
